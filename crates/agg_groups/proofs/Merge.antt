-- Groups joined with the groups of another list of rows, one after another.
use Rattle.std.proofs.Common.{◌≡◌, ℕ, ◌+◌, true, false, List, [], ◌∷◌, length, refl, sym, ap, subst, ◌∙◌, inl, inr}
use Rattle.std.specs.Prelude.{Option, Some, None, is_some, option_map, ◌||◌, if◌then◌else◌, All}
use Rattle.std.proofs.lemmas.Bool.{cases_Bool, false≢true, or_right}
use Rattle.std.proofs.lemmas.List.Elements.{All-from_recursion, recursion_from_All}
use Rattle.table_core.specs.declared.cell.Cell.{Cell}
use Rattle.agg_groups.specs.declared.running.Running.{Running}
use Rattle.query_meaning.specs.declared.item.Item.{Item}
use Rattle.agg_groups.specs.Running.{joins, HasRoom}
use Rattle.agg_groups.specs.Groups.{Group}
use Rattle.agg_groups.proofs.Seen.{at-seen, placed_below}
use Rattle.agg_groups.specs.Table.{Placed, IsPlaced, HasGrown, HasNamed, HasValues, HavePlaces, place_at, values_at, AreSound, HasRoomAt, Rising, at, base, merged, names, Puts, seen}
use Rattle.agg_groups.proofs.Keys.{at_names}
use Rattle.agg_groups.proofs.Order.{same_key, same, itself, has_key, below_apart}
use Rattle.agg_groups.proofs.Values.{joins_room, starts_len, starts_room}

-- what stands at a key once groups were joined one after another
abbrev pub absorb : List Item → Option (List Running) → List Group → List Cell → Option (List Running)
absorb items o [] q = o
absorb items o (g ∷ gs) q = absorb items (if same_key q g.0 then merged items o (Some g.1) else o) gs q

absorb_none : (items : List Item) (gs : List Group) (o : Option (List Running)) (q : List Cell) → has_key (names gs) q ≡ false → absorb items o gs q ≡ o
absorb_none items [] o q e = refl
absorb_none items (x ∷ gs) o q e = elim (cases_Bool (same_key q x.0)) [
  | inl t ↦ absurd (false≢true (sym e ∙ ap (λ b. b || has_key (names gs) q) t))
  | inr t ↦ rw t (absorb_none items gs o q (sym (ap (λ b. b || has_key (names gs) q) t) ∙ e))
]

pub absorb_all : (items : List Item) (gs : List Group) (o : Option (List Running)) (q : List Cell) → Rising (names gs) → absorb items o gs q ≡ merged items o (at gs q)
absorb_all items [] o q r = refl
absorb_all items (g ∷ gs) o q r = elim (cases_Bool (same_key q g.0)) [
  | inl t ↦
      let n : has_key (names gs) q ≡ false = ap (has_key (names gs)) (same q g.0 t) ∙ below_apart g.0 (names gs) r.0 in
      rw t (absorb_none items gs (merged items o (Some g.1)) q n)
  | inr t ↦ rw t (absorb_all items gs o q r.1)
]

-- what is kept at keys that are still to come has its old room
abbrev pub IsLeft : ℕ → ℕ → List (List Cell) → List Group → Type 0
IsLeft n m rest kept = (q : List Cell) → has_key rest q ≡ true → HasRoomAt n m (at kept q)

pub left_head : (n m : ℕ) (k : List Cell) (ks : List (List Cell)) (kept : List Group) → IsLeft n m (k ∷ ks) kept → HasRoomAt n m (at kept k)
left_head n m k ks kept l = l k (ap (λ b. b || has_key ks k) (itself k))

pub left_step : (n m : ℕ) (k : List Cell) (ks : List (List Cell)) (ws : List Running) (kept new : List Group) → Rising (k ∷ ks) → IsLeft n m (k ∷ ks) kept → Puts k ws kept new → IsLeft n m ks new
left_step n m k ks ws kept new r l puts q h = elim (cases_Bool (same_key q k)) [
  | inl t ↦ absurd (false≢true (sym (ap (has_key ks) (same q k t) ∙ below_apart k ks r.0) ∙ h))
  | inr t ↦
      let e : at kept q ≡ at new q = sym (puts q ∙ ap (λ b. if b then Some ws else at kept q) t) in
      subst (HasRoomAt n m) e (l q (or_right (same_key q k) (has_key ks q) h))
]

-- keys that are still to come have places
pub known_head : (k : List Cell) (ks : List (List Cell)) (places : List (List Cell × ℕ)) → HavePlaces (k ∷ ks) places → is_some (place_at places k) ≡ true
known_head k ks places h = h k (ap (λ b. b || has_key ks k) (itself k))

pub known_rest : (k : List Cell) (ks : List (List Cell)) (places : List (List Cell × ℕ)) → HavePlaces (k ∷ ks) places → HavePlaces ks places
known_rest k ks places h q has = h q (or_right (same_key q k) (has_key ks q) has)

-- one group joined, read at a key
pub joined_at : (items : List Item) (g : Group) (kept new : List Group) → Puts g.0 (joins items (base items (at kept g.0)) g.1) kept new
    → (q : List Cell) → at new q ≡ (if same_key q g.0 then merged items (at kept q) (Some g.1) else at kept q)
joined_at items g kept new puts q = elim (cases_Bool (same_key q g.0)) [
  | inl t ↦
      puts q ∙ ap (λ k. if same_key q g.0 then Some (joins items (base items (at kept k)) g.1) else at kept q) (sym (same q g.0 t))
  | inr t ↦ puts q ∙ ap (λ b. if b then Some (joins items (base items (at kept g.0)) g.1) else at kept q) t ∙ sym (ap (λ b. if b then merged items (at kept q) (Some g.1) else at kept q) t)
]

-- what stands at a key, or else the values of no rows, has room
base_room : (n : ℕ) (items : List Item) (o : Option (List Running)) → HasRoomAt n (length items) o → (length (base items o) ≡ length items) × All (HasRoom n) (base items o)
base_room n items None h = (starts_len items, starts_room items n)
base_room n items (Some vs) h = h

pub joined_room : (items : List Item) (rs ss : List Running) (m n : ℕ) → All (HasRoom m) rs → All (HasRoom n) ss → All (HasRoom (m + n)) (joins items rs ss)
joined_room items rs ss m n h g = All-from_recursion (HasRoom (m + n)) (joins items rs ss) (joins_room items rs ss m n (recursion_from_All (HasRoom m) rs h) (recursion_from_All (HasRoom n) ss g))

-- the values at the place of a key
pub known_values : (items : List Item) (t : Placed) (key : List Cell) (i : ℕ) → place_at t.places key ≡ Some i → values_at t.values i ≡ base items (at (seen t) key)
known_values items t key i e = sym (ap (base items) (at-seen t key ∙ ap (option_map (values_at t.values)) e))

-- the values at the place of a key have the room of the key
pub known_room : (n : ℕ) (items : List Item) (t : Placed) (key : List Cell) (i : ℕ) → IsPlaced t → place_at t.places key ≡ Some i → HasRoomAt n (length items) (at (seen t) key) → HasValues n (length items) i t.values
known_room n items t key i p e h =
    let room = subst (λ vs. (length vs ≡ length items) × All (HasRoom n) vs) (sym (known_values items t key i e)) (base_room n items (at (seen t) key) h) in
    record { there = placed_below t key i p e; same = room.0; room = room.1 }

-- before the first group is joined all keys have their old room
pub all_left : (n m : ℕ) (t : Placed) (ks : List (List Cell)) → IsPlaced t → AreSound n m t.values → IsLeft n m ks (seen t)
all_left n m t ks p s q h = subst (HasRoomAt n m) (sym (at-seen t q)) (by (place_at t.places q) refl) where
  by : (o : Option ℕ) → place_at t.places q ≡ o → HasRoomAt n m (option_map (values_at t.values) o)
  by None e = tt
  by (Some i) e = s i (placed_below t q i p e)

-- new places change nothing of what is joined
pub merged_grown : (items : List Item) (old mid : Placed) (gs : List Group) → HasGrown items old mid → HasNamed old.places (names gs) mid.places
    → (q : List Cell) → merged items (at (seen mid) q) (at gs q) ≡ merged items (at (seen old) q) (at gs q)
merged_grown items old mid gs g named q = by (at gs q) refl where
  was : has_key (names gs) q ≡ false → (o m : Option ℕ) → place_at old.places q ≡ o → place_at mid.places q ≡ m → at (seen mid) q ≡ at (seen old) q
  was none (Some i) m e f =
      let there : at (seen mid) q ≡ Some (values_at mid.values i) = at-seen mid q ∙ ap (option_map (values_at mid.values)) (g.kept q i e) in
      let stood : at (seen old) q ≡ Some (values_at old.values i) = at-seen old q ∙ ap (option_map (values_at old.values)) e in
      there ∙ ap Some (sym (ap (base items) there) ∙ g.base q ∙ ap (base items) stood) ∙ sym stood
  was none None None e f = at-seen mid q ∙ ap (option_map (values_at mid.values)) f ∙ sym (at-seen old q ∙ ap (option_map (values_at old.values)) e)
  was none None (Some i) e f = absurd (false≢true (sym (sym (ap is_some f) ∙ named q ∙ ap (λ b. is_some (place_at old.places q) || b) none ∙ ap (λ o. is_some o || false) e)))

  by : (o : Option (List Running)) → at gs q ≡ o → merged items (at (seen mid) q) (at gs q) ≡ merged items (at (seen old) q) (at gs q)
  by None e = ap (λ o. merged items o (at gs q)) (was (sym (at_names gs q) ∙ ap is_some e) (place_at old.places q) (place_at mid.places q) refl refl)
  by (Some ss) e = ap (merged items (at (seen mid) q)) e ∙ ap (λ vs. Some (joins items vs ss)) (g.base q) ∙ sym (ap (merged items (at (seen old) q)) e)
