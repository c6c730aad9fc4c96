-- Tables with new places, and with the new places taken back.
use Rattle.std.proofs.Common.{◌≡◌, ℕ, ◌<◌, ◌+◌, Bool, lt-ltb, true, false, List, [], ◌∷◌, length, length-append, take, take_all, get_or, refl, sym, ap, subst, ◌∙◌, arith, inl, inr}
use Rattle.std.specs.Prelude.{◌||◌, nat_lt, Option, Some, None, is_some, option_map, if◌then◌else◌, MatchOption}
use Rattle.std.proofs.lemmas.Bool.{cases_Bool, false≢true, ltb-true}
use Rattle.std.proofs.Math.Bool.{or-false, or-true}
use Rattle.std.proofs.lemmas.List.{take-append-le}
use Rattle.table_core.specs.declared.cell.Cell.{Cell}
use Rattle.query_meaning.specs.declared.item.Item.{Item}
use Rattle.agg_groups.specs.declared.met.Met.{Met}
use Rattle.agg_groups.specs.Running.{runnings}
use Rattle.agg_groups.specs.Table.{Placed, IsPlaced, IsNewPlace, IsPlaceFor, IsMet, AreMet, IsReady, HasGrown, KeepsPlaces, at, base, first_places, place_at, seen, values_at}
use Rattle.agg_groups.proofs.Keys.{same_groups}
use Rattle.agg_groups.proofs.Order.{same_key, same}
use Rattle.agg_groups.proofs.Places.{below, place_first}
use Rattle.agg_groups.proofs.Seen.{at-seen, place_puts, placed_below}
use Rattle.agg_groups.proofs.Stands.{seen_rising}

-- a key keeps its place
pub place_kept : (items : List Item) (key : List Cell) (place : ℕ) (old new : Placed) → IsPlaceFor items key place old new → (q : List Cell) (i : ℕ) → place_at old.places q ≡ Some i → place_at new.places q ≡ Some i
place_kept items key place old new h q i e = by (place_at old.places key) refl h where
  by : (o : Option ℕ) → place_at old.places key ≡ o → MatchOption o (IsNewPlace items key place old new) (λ j. (place ≡ j) × (new ≡ old)) → place_at new.places q ≡ Some i
  by (Some j) f s = ap (λ (t : Placed). place_at t.places q) s.1 ∙ e
  by None f n = elim (cases_Bool (same_key q key)) [
    | inl t ↦ absurd (let d : None ≡ Some i = sym f ∙ ap (place_at old.places) (sym (same q key t)) ∙ e in cc)
    | inr t ↦ n.placed q ∙ ap (λ b. if b then Some place else place_at old.places q) t ∙ e
  ]

-- what is remembered stays so where keys keep their places
pub met_kept : (n : ℕ) (old new : Placed) (slots : List (Option Met)) → ((q : List Cell) (i : ℕ) → place_at old.places q ≡ Some i → place_at new.places q ≡ Some i) → AreMet n old slots → AreMet n new slots
met_kept n old new slots kept met = λ k d low. one (get_or slots k d) (met k d low) where
  one : (o : Option Met) → IsMet n old o → IsMet n new o
  one None h = tt
  one (Some m) h = kept (take n (m.first ∷ m.second ∷ [])) m.place h

pub same_places : (old new : Placed) → new.places ≡ old.places → KeepsPlaces old.places new.places
same_places old new e q i is = ap (λ es. place_at es q) e ∙ is

-- places can be looked for where no group was met last
pub ready_none : (width : ℕ) (key : List Cell) (slots : List (Option Met)) (t : Placed) → length key ≡ width → IsPlaced t → AreMet width t slots → IsReady width key None slots t
ready_none width key slots t long placed met = record {
  long = long;
  placed = placed;
  last = λ i e. absurd (let d : None ≡ Some i = e in cc);
  met = met;
}

-- where keys keep their places, places can still be looked for
pub ready_on : (width : ℕ) (key : List Cell) (place : Option ℕ) (slots : List (Option Met)) (old new : Placed) → IsPlaced new → KeepsPlaces old.places new.places → IsReady width key place slots old → IsReady width key place slots new
ready_on width key place slots old new p kept r = record {
  long = r.long;
  placed = p;
  last = λ i e. kept key i (r.last i e);
  met = met_kept width old new slots kept r.met;
}

pub grown_none : (items : List Item) (t : Placed) → HasGrown items t t
grown_none items t = record {
  kept = λ q i e. e;
  first = λ q i e low. e;
  long = omega arith;
  values = take_all (length t.values) t.values (omega arith);
  base = λ q. refl;
}

pub grown_more : (items : List Item) (key : List Cell) (place : ℕ) (old mid new : Placed) → IsPlaced new → HasGrown items old mid → IsPlaceFor items key place mid new → HasGrown items old new
grown_more items key place old mid new p g h = by (place_at mid.places key) refl h where
  by : (o : Option ℕ) → place_at mid.places key ≡ o → MatchOption o (IsNewPlace items key place mid new) (λ j. (place ≡ j) × (new ≡ mid)) → HasGrown items old new
  by (Some j) e s = subst (λ (t : Placed). HasGrown items old t) (sym s.1) g
  by None e n = record {
    kept = λ q i f. place_kept items key place mid new h q i (g.kept q i f);
    first = λ q i f low. g.first q i (was q i f low) low;
    long = omega (arith, g.long, grown);
    values = ap (take (length old.values)) n.starts ∙ take-append-le (length old.values) mid.values (runnings items [] ∷ []) g.long ∙ g.values;
    base = λ q. put q ∙ g.base q;
  } where
    grown : length new.values ≡ length mid.values + 1
    grown = ap length n.starts ∙ length-append mid.values (runnings items [] ∷ [])

    was : (q : List Cell) (i : ℕ) → place_at new.places q ≡ Some i → i < length old.values → place_at mid.places q ≡ Some i
    was q i f low = elim (cases_Bool (same_key q key)) [
      | inl t ↦
          let new_one : Some place ≡ Some i = sym (n.placed q ∙ ap (λ b. if b then Some place else place_at mid.places q) t) ∙ f in
          let there : place ≡ i = cc in
          absurd (omega (arith, there, n.is_last, g.long, low))
      | inr t ↦ sym (n.placed q ∙ ap (λ b. if b then Some place else place_at mid.places q) t) ∙ f
    ]

    put : (q : List Cell) → base items (at (seen new) q) ≡ base items (at (seen mid) q)
    put q = elim (cases_Bool (same_key q key)) [
      | inl t ↦
          ap (base items) (place_puts items key place mid new p h q ∙ ap (λ b. if b then Some (base items (at (seen mid) key)) else at (seen mid) q) t)
          ∙ ap (λ k. base items (at (seen mid) k)) (sym (same q key t))
      | inr t ↦ ap (base items) (place_puts items key place mid new p h q ∙ ap (λ b. if b then Some (base items (at (seen mid) key)) else at (seen mid) q) t)
    ]

pub or_assoc : (x y z : Bool) → ((x || y) || z) ≡ (x || (y || z))
or_assoc true y z = refl
or_assoc false y z = refl

-- one key more has a place
pub named_more : (items : List Item) (key : List Cell) (place : ℕ) (old new : Placed) → IsPlaceFor items key place old new → (q : List Cell) → is_some (place_at new.places q) ≡ (is_some (place_at old.places q) || same_key q key)
named_more items key place old new h q = by (place_at old.places key) refl h where
  by : (o : Option ℕ) → place_at old.places key ≡ o → MatchOption o (IsNewPlace items key place old new) (λ j. (place ≡ j) × (new ≡ old)) → is_some (place_at new.places q) ≡ (is_some (place_at old.places q) || same_key q key)
  by (Some j) e s = ap (λ (t : Placed). is_some (place_at t.places q)) s.1 ∙ elim (cases_Bool (same_key q key)) [
    | inl t ↦ ap is_some (ap (place_at old.places) (same q key t) ∙ e) ∙ sym (ap (λ b. b || same_key q key) (ap is_some (ap (place_at old.places) (same q key t) ∙ e)))
    | inr t ↦ sym (ap (λ b. is_some (place_at old.places q) || b) t ∙ or-false (is_some (place_at old.places q)))
  ]
  by None e n = ap is_some (n.placed q) ∙ elim (cases_Bool (same_key q key)) [
    | inl t ↦ ap (λ b. is_some (if b then Some place else place_at old.places q)) t ∙ sym (ap (λ b. is_some (place_at old.places q) || b) t ∙ or-true (is_some (place_at old.places q)))
    | inr t ↦ ap (λ b. is_some (if b then Some place else place_at old.places q)) t ∙ sym (ap (λ b. is_some (place_at old.places q) || b) t ∙ or-false (is_some (place_at old.places q)))
  ]

-- a key that had a place has one
pub still_known : (items : List Item) (old new : Placed) → HasGrown items old new → (q : List Cell) → is_some (place_at old.places q) ≡ true → place_at new.places q ≡ None → ⊥
still_known items old new g q known none = by (place_at old.places q) refl known where
  by : (o : Option ℕ) → place_at old.places q ≡ o → is_some o ≡ true → ⊥
  by None e k = false≢true k
  by (Some i) e k = (let d : None ≡ Some i = sym none ∙ g.kept q i e in cc)

-- ---- new places taken back

below_own : (n : ℕ) (o : Option ℕ) (i : ℕ) → o ≡ Some i → i < n → below n o ≡ Some i
below_own n None i e low = absurd (let d : None ≡ Some i = e in cc)
below_own n (Some j) i e low =
    let same : j ≡ i = cc in
    let is : nat_lt j n ≡ true = lt-ltb j n (omega (arith, same, low)) in
    ap (λ b. if b then Some j else None) is ∙ e

taken_back : (items : List Item) (old mid : Placed) → IsPlaced old → HasGrown items old mid → (q : List Cell) → below (length old.values) (place_at mid.places q) ≡ place_at old.places q
taken_back items old mid p g q = by (place_at mid.places q) (place_at old.places q) refl refl where
  by : (m o : Option ℕ) → place_at mid.places q ≡ m → place_at old.places q ≡ o → below (length old.values) (place_at mid.places q) ≡ place_at old.places q
  by m (Some i) e f = below_own (length old.values) (place_at mid.places q) i (g.kept q i f) (placed_below old q i p f) ∙ sym f
  by None None e f = ap (below (length old.values)) e ∙ sym f
  by (Some j) None e f = elim (cases_Bool (nat_lt j (length old.values))) [
    | inl t ↦ absurd (let d : None ≡ Some j = sym f ∙ g.first q j e (ltb-true j (length old.values) t) in cc)
    | inr t ↦ ap (below (length old.values)) e ∙ ap (λ b. if b then Some j else None) t ∙ sym f
  ]

-- each key has the place that it had
pub places_again : (items : List Item) (old mid new : Placed) → IsPlaced old → IsPlaced mid → HasGrown items old mid → new.places ≡ first_places (length old.values) mid.places → (q : List Cell) → place_at new.places q ≡ place_at old.places q
places_again items old mid new p m g h q = ap (λ es. place_at es q) h ∙ place_first (length old.values) mid.places q m.rising ∙ taken_back items old mid p g q

pub seen_again : (items : List Item) (old mid new : Placed) → IsPlaced old → IsPlaced mid → IsPlaced new → HasGrown items old mid
    → new.places ≡ first_places (length old.values) mid.places → new.values ≡ take (length old.values) mid.values → seen new ≡ seen old
seen_again items old mid new p m r g h v = same_groups (seen new) (seen old) (seen_rising new r) (seen_rising old p) (λ q.
    at-seen new q ∙ ap (option_map (values_at new.values)) (places_again items old mid new p m g h q)
    ∙ ap (λ vs. option_map (values_at vs) (place_at old.places q)) (v ∙ g.values) ∙ sym (at-seen old q))
