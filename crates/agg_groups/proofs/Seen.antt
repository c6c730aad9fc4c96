-- Groups as they are seen in a table of places: what a new place, new values at a place and joined values do to them.
use Rattle.std.proofs.Common.{◌≡◌, ℕ, ◌+◌, ◌≤◌, ◌<◌, false, List, [], ◌∷◌, ◌++◌, length, map, set, get_or, zero, suc, refl, sym, ap, subst, ◌∙◌, arith, inl, inr, length-append}
use Rattle.std.specs.Prelude.{◌≢◌, ◌==◌, Option, Some, None, option_map, if◌then◌else◌, All, MatchOption}
use Rattle.std.proofs.lemmas.Bool.{cases_Bool, false≢true, eqb-true, eqb-false}
use Rattle.std.proofs.lemmas.List.{get_or-set_same, get_or-set_other, length-set}
use Rattle.table_core.specs.declared.cell.Cell.{Cell}
use Rattle.agg_groups.specs.declared.running.Running.{Running}
use Rattle.query_meaning.specs.declared.item.Item.{Item}
use Rattle.agg_groups.specs.Running.{runnings, HasRoom}
use Rattle.agg_groups.specs.Groups.{Group}
use Rattle.agg_groups.specs.Table.{Placed, IsPlaced, IsNewPlace, IsPlaceFor, AreSound, HasValues, place_at, values_at, seen, at, base, Puts, names}
use Rattle.agg_groups.proofs.Order.{same_key, same, itself}
use Rattle.agg_groups.proofs.Places.{place_below}
use Rattle.agg_groups.proofs.Values.{starts_len, starts_room, room_wider}

see : List (List Running) → List (List Cell × ℕ) → List Group
see vs es = map (λ (e : List Cell × ℕ). (e.0, values_at vs e.1)) es

at-see : (vs : List (List Running)) (es : List (List Cell × ℕ)) (q : List Cell) → at (map (λ (e : List Cell × ℕ). (e.0, values_at vs e.1)) es) q ≡ option_map (values_at vs) (place_at es q)
at-see vs [] q = refl
at-see vs (e ∷ es) q = elim (cases_Bool (same_key q e.0)) [
  | inl t ↦ rw t refl
  | inr t ↦ rw t (at-see vs es q)
]

pub at-seen : (t : Placed) (q : List Cell) → at (seen t) q ≡ option_map (values_at t.values) (place_at t.places q)
at-seen t q = at-see t.values t.places q

pub names-seen : (vs : List (List Running)) (es : List (List Cell × ℕ)) → names (map (λ (e : List Cell × ℕ). (e.0, values_at vs e.1)) es) ≡ names es
names-seen vs [] = refl
names-seen vs (e ∷ es) = ap (λ ks. e.0 ∷ ks) (names-seen vs es)

push_front : {A : Type 0} (d : A) (xs : List A) (x : A) (i : ℕ) → i < length xs → get_or (xs ++ x ∷ []) i d ≡ get_or xs i d
push_front d [] x i l = absurd (omega arith)
push_front d (y ∷ xs) x zero l = refl
push_front d (y ∷ xs) x (suc i) l = push_front d xs x i (omega arith)

push_end : {A : Type 0} (d : A) (xs : List A) (x : A) → get_or (xs ++ x ∷ []) (length xs) d ≡ x
push_end d [] x = refl
push_end d (y ∷ xs) x = push_end d xs x

-- the key has its place
pub place_there : (items : List Item) (key : List Cell) (i : ℕ) (old new : Placed) → IsPlaceFor items key i old new → place_at new.places key ≡ Some i
place_there items key i old new h = by (place_at old.places key) refl h where
  by : (o : Option ℕ) → place_at old.places key ≡ o → MatchOption o (IsNewPlace items key i old new) (λ j. (i ≡ j) × (new ≡ old)) → place_at new.places key ≡ Some i
  by None e n = n.placed key ∙ ap (λ b. if b then Some i else place_at old.places key) (itself key)
  by (Some j) e s = ap (λ (t : Placed). place_at t.places key) s.1 ∙ e ∙ ap Some (sym s.0)

-- the values there are those that stood at the key, or else those of no rows
pub place_values : (items : List Item) (key : List Cell) (i : ℕ) (old new : Placed) → IsPlaceFor items key i old new → values_at new.values i ≡ base items (at (seen old) key)
place_values items key i old new h = by (place_at old.places key) refl h where
  by : (o : Option ℕ) → place_at old.places key ≡ o → MatchOption o (IsNewPlace items key i old new) (λ j. (i ≡ j) × (new ≡ old)) → values_at new.values i ≡ base items (at (seen old) key)
  by None e n =
      ap (λ vs. values_at vs i) n.starts ∙ ap (λ j. values_at (old.values ++ runnings items [] ∷ []) j) n.is_last ∙ push_end [] old.values (runnings items [])
      ∙ sym (ap (base items) (at-seen old key ∙ ap (option_map (values_at old.values)) e))
  by (Some j) e s =
      ap (λ (t : Placed). values_at t.values i) s.1 ∙ ap (values_at old.values) s.0
      ∙ sym (ap (base items) (at-seen old key ∙ ap (option_map (values_at old.values)) e))

-- a new place changes no other key
pub place_puts : (items : List Item) (key : List Cell) (i : ℕ) (old new : Placed) → IsPlaced new → IsPlaceFor items key i old new → Puts key (base items (at (seen old) key)) (seen old) (seen new)
place_puts items key i old new p h q = elim (cases_Bool (same_key q key)) [
  | inl t ↦
      at-seen new q ∙ ap (λ k. option_map (values_at new.values) (place_at new.places k)) (same q key t) ∙ ap (option_map (values_at new.values)) (place_there items key i old new h)
      ∙ ap Some (place_values items key i old new h) ∙ sym (ap (λ b. if b then Some (base items (at (seen old) key)) else at (seen old) q) t)
  | inr t ↦ by (place_at old.places key) refl h t ∙ sym (ap (λ b. if b then Some (base items (at (seen old) key)) else at (seen old) q) t)
] where
  kept : (n : IsNewPlace items key i old new) → same_key q key ≡ false → (o : Option ℕ) → place_at old.places q ≡ o → option_map (values_at new.values) o ≡ option_map (values_at old.values) o
  kept n t None e = refl
  kept n t (Some j) e =
      let there : place_at new.places q ≡ Some j = n.placed q ∙ ap (λ b. if b then Some i else place_at old.places q) t ∙ e in
      let below : j < length new.values = place_below (length new.values) new.places q j p.below there in
      let grown : length new.values ≡ length old.values + 1 = ap length n.starts ∙ length-append old.values (runnings items [] ∷ []) in
      let apart : j ≢ length old.values = λ (s : j ≡ length old.values). false≢true (sym t ∙ ap (λ k. same_key k key) (p.apart q key j there (n.placed key ∙ ap (λ b. if b then Some i else place_at old.places key) (itself key) ∙ ap Some (n.is_last ∙ sym s))) ∙ itself key) in
      ap Some (ap (λ vs. values_at vs j) n.starts ∙ push_front [] old.values (runnings items []) j (omega (arith, apart)))

  by : (o : Option ℕ) → place_at old.places key ≡ o → MatchOption o (IsNewPlace items key i old new) (λ j. (i ≡ j) × (new ≡ old)) → same_key q key ≡ false → at (seen new) q ≡ at (seen old) q
  by None e n t =
      at-seen new q ∙ ap (option_map (values_at new.values)) (n.placed q ∙ ap (λ b. if b then Some i else place_at old.places q) t) ∙ kept n t (place_at old.places q) refl ∙ sym (at-seen old q)
  by (Some j) e s t = ap (λ (u : Placed). at (seen u) q) s.1

-- new values at the place of a key change that key alone
pub set_puts : (key : List Cell) (i : ℕ) (ws : List Running) (old new : Placed) → IsPlaced old → place_at old.places key ≡ Some i → new.places ≡ old.places → new.values ≡ set old.values i ws → Puts key ws (seen old) (seen new)
set_puts key i ws old new p h e f q = elim (cases_Bool (same_key q key)) [
  | inl t ↦
      begins ∙ ap (λ k. option_map (values_at (set old.values i ws)) (place_at old.places k)) (same q key t) ∙ ap (option_map (values_at (set old.values i ws))) h
      ∙ ap Some (get_or-set_same old.values i ws [] (place_below (length old.values) old.places key i p.below h)) ∙ sym (ap (λ b. if b then Some ws else at (seen old) q) t)
  | inr t ↦ begins ∙ kept t (place_at old.places q) refl ∙ sym (at-seen old q) ∙ sym (ap (λ b. if b then Some ws else at (seen old) q) t)
] where
  begins : at (seen new) q ≡ option_map (values_at (set old.values i ws)) (place_at old.places q)
  begins = at-seen new q ∙ ap (λ es. option_map (values_at new.values) (place_at es q)) e ∙ ap (λ vs. option_map (values_at vs) (place_at old.places q)) f

  kept : same_key q key ≡ false → (o : Option ℕ) → place_at old.places q ≡ o → option_map (values_at (set old.values i ws)) o ≡ option_map (values_at old.values) o
  kept t None g = refl
  kept t (Some j) g =
      let apart : j ≢ i = λ (s : j ≡ i). false≢true (sym t ∙ ap (λ k. same_key k key) (p.apart q key j g (h ∙ ap Some (sym s))) ∙ itself key) in
      ap Some (get_or-set_other old.values i j ws [] apart)

-- values put twice at one key
pub puts_twice : (key : List Cell) (vs ws : List Running) (a b c : List Group) → Puts key vs a b → Puts key ws b c → Puts key ws a c
puts_twice key vs ws a b c h g q = elim (cases_Bool (same_key q key)) [
  | inl t ↦ g q ∙ ap (λ x. if x then Some ws else at b q) t ∙ sym (ap (λ x. if x then Some ws else at a q) t)
  | inr t ↦ g q ∙ ap (λ x. if x then Some ws else at b q) t ∙ h q ∙ ap (λ x. if x then Some vs else at a q) t ∙ sym (ap (λ x. if x then Some ws else at a q) t)
]

-- ---- room

pub sound_wider : (m n k : ℕ) (vs : List (List Running)) → m ≤ n → AreSound m k vs → AreSound n k vs
sound_wider m n k vs l s i h = ((s i h).0, λ j d lt. room_wider (get_or (values_at vs i) j d) m n l ((s i h).1 j d lt))

pub sound_place : (n : ℕ) (items : List Item) (key : List Cell) (i : ℕ) (old new : Placed) → IsPlaceFor items key i old new → AreSound n (length items) old.values → AreSound n (length items) new.values
sound_place n items key i old new h s = by (place_at old.places key) refl h where
  by : (o : Option ℕ) → place_at old.places key ≡ o → MatchOption o (IsNewPlace items key i old new) (λ j. (i ≡ j) × (new ≡ old)) → AreSound n (length items) new.values
  by (Some j) e f = subst (λ (t : Placed). AreSound n (length items) t.values) (sym f.1) s
  by None e f = subst (λ vs. AreSound n (length items) vs) (sym f.starts) pushed where
    pushed : AreSound n (length items) (old.values ++ runnings items [] ∷ [])
    pushed j l = elim (cases_Bool (j == length old.values)) [
      | inl t ↦ subst (λ vs. (length vs ≡ length items) × All (HasRoom n) vs) (sym (ap (λ k. values_at (old.values ++ runnings items [] ∷ []) k) (eqb-true j (length old.values) t) ∙ push_end [] old.values (runnings items []))) (starts_len items, starts_room items n)
      | inr t ↦
          let ne : j ≢ length old.values = eqb-false j (length old.values) t in
          let b : j < length old.values = omega (arith, length-append old.values (runnings items [] ∷ []), ne) in
          subst (λ vs. (length vs ≡ length items) × All (HasRoom n) vs) (sym (push_front [] old.values (runnings items []) j b)) (s j b)
    ]

pub sound_set : (n m k i : ℕ) (ws : List Running) (vs : List (List Running)) → n ≤ m → length ws ≡ k → All (HasRoom m) ws → AreSound n k vs → AreSound m k (set vs i ws)
sound_set n m k i ws vs l e r s j h = elim (cases_Bool (j == i)) [
  | inl t ↦
      let d : i < length vs = omega (arith, eqb-true j i t, length-set vs i ws) in
      subst (λ us. (length us ≡ k) × All (HasRoom m) us) (sym (ap (λ x. values_at (set vs i ws) x) (eqb-true j i t) ∙ get_or-set_same vs i ws [] d)) (e, r)
  | inr t ↦
      let d : j < length vs = omega (arith, length-set vs i ws) in
      subst (λ us. (length us ≡ k) × All (HasRoom m) us) (sym (get_or-set_other vs i j ws [] (eqb-false j i t))) (sound_wider n m k vs l s j d)
]

-- the values at the place of a key are among those that are kept
pub placed_below : (t : Placed) (q : List Cell) (i : ℕ) → IsPlaced t → place_at t.places q ≡ Some i → i < length t.values
placed_below t q i p e = place_below (length t.values) t.places q i p.below e

-- a place that was looked for is there, and its values belong to the items and have room
pub sound_there : (n : ℕ) (items : List Item) (key : List Cell) (i : ℕ) (old new : Placed) → IsPlaced new → IsPlaceFor items key i old new → AreSound n (length items) old.values
    → HasValues n (length items) i new.values
sound_there n items key i old new p h s =
    let there = placed_below new key i p (place_there items key i old new h) in
    let here = sound_place n items key i old new h s i there in
    record { there = there; same = here.0; room = here.1 }

-- new values at the place that was looked for, by what stood at the key or else by those of no rows
pub placed_put : (items : List Item) (key : List Cell) (i : ℕ) (old mid new : Placed) (f : List Running → List Running) → IsPlaced mid → IsPlaceFor items key i old mid
    → new.places ≡ mid.places → new.values ≡ set mid.values i (f (values_at mid.values i)) → Puts key (f (base items (at (seen old) key))) (seen old) (seen new)
placed_put items key i old mid new f p h e g =
    let P : List Running → Type 0 = λ vs. Puts key (f vs) (seen old) (seen new) in
    subst P (place_values items key i old mid h)
    (puts_twice key (base items (at (seen old) key)) (f (values_at mid.values i)) (seen old) (seen mid) (seen new) (place_puts items key i old mid p h)
    (set_puts key i (f (values_at mid.values i)) mid new p (place_there items key i old mid h) e g))
