-- The chosen rows of a block, each added to the values at its place.
use Rattle.std.proofs.Common.{◌≡◌, ℕ, ◌<◌, ◌≤◌, ◌+◌, ◌==◌, Bool, true, false, List, [], ◌∷◌, ◌++◌, length, set, get_or, map, filter, zero, suc, refl, sym, ap, subst, ◌∙◌, arith, inl, inr, append_assoc}
use Rattle.std.specs.Prelude.{◌||◌, Option, Some, None, is_some, option_map, if◌then◌else◌, All, Contains}
use Rattle.std.specs.Int.{bit_at}
use Rattle.std.specs.List.{range_with_len, AllByRecursion}
use Rattle.std.proofs.lemmas.Bool.{cases_Bool, eqb-true, eqb-false, eq-eqb, false≢true}
use Rattle.std.proofs.lemmas.List.{get_or-set_same, get_or-set_other}
use Rattle.std.proofs.lemmas.List.FromFn.{length-map-range_with_len}
use Rattle.std.proofs.lemmas.List.Elements.{recursion_from_All}
use Rattle.table_core.specs.declared.cell.Cell.{Cell}
use Rattle.row_blocks.specs.Blocks.{BlockView, row_at}
use Rattle.row_blocks.specs.Chosen.{chosen, chosen_from}
use Rattle.row_blocks.proofs.Chosen.{length-chosen}
use Rattle.query_meaning.specs.declared.item.Item.{Item}
use Rattle.agg_groups.specs.declared.running.Running.{Running}
use Rattle.agg_groups.specs.Blocks.{chosen_in}
use Rattle.query_meaning.specs.Cells.{codes}
use Rattle.query_meaning.specs.Meaning as meaning
use Rattle.agg_groups.specs.Running.{runnings, nexts}
use Rattle.agg_groups.specs.Groups.{groups_of}
use Rattle.agg_groups.specs.Table.{Placed, IsPlaced, AddsRows, AreFound, HasGrown, PicksPlace, at, base, has_key, names, place_at, seen, values_at}
use Rattle.agg_groups.proofs.Columns.{chosen-more}
use Rattle.agg_groups.proofs.Keys.{state_of, at-groups_of, base-state, filter-append, groups_are, group-push, group-other, has-append}
use Rattle.agg_groups.proofs.Order.{same_key, same, itself}
use Rattle.agg_groups.proofs.Places.{known_place}
use Rattle.agg_groups.proofs.Seen.{at-seen, names-seen, placed_below}
use Rattle.agg_groups.proofs.Stands.{seen_rising}
use Rattle.agg_groups.proofs.Values.{nexts-values}

-- the chosen ones of the first rows
abbrev pub first_chosen : BlockView → ℕ → ℕ → List (List Cell)
first_chosen b word n = chosen word (map (row_at b) (range_with_len 0 n))

pub one_more : (b : BlockView) (word n : ℕ) → (bit_at word n == 1) ≡ true → first_chosen b word (n + 1) ≡ first_chosen b word n ++ row_at b n ∷ []
one_more b word n t = chosen-more (row_at b) word n ∙ ap (λ c. if c then first_chosen b word n ++ row_at b n ∷ [] else first_chosen b word n) t

pub no_more : (b : BlockView) (word n : ℕ) → (bit_at word n == 1) ≡ false → first_chosen b word (n + 1) ≡ first_chosen b word n
no_more b word n f = chosen-more (row_at b) word n ∙ ap (λ c. if c then first_chosen b word n ++ row_at b n ∷ [] else first_chosen b word n) f

-- no more than there are
pub few_first : (b : BlockView) (word n : ℕ) → length (first_chosen b word n) ≤ n
few_first b word n = omega (arith, length-chosen 0 word (map (row_at b) (range_with_len 0 n)), length-map-range_with_len (row_at b) 0 n)

-- what is true of all chosen rows is true of each
chosen_from-at : (P : List Cell → Type 0) (f : ℕ → List Cell) (word n m : ℕ) → AllByRecursion P (chosen_from n word (map f (range_with_len n m))) → (i : ℕ) → n ≤ i → i < n + m → bit_at word i ≡ 1 → P (f i)
chosen_from-at P f word n zero all i from to is = absurd (omega arith)
chosen_from-at P f word n (suc m) all i from to is = elim (cases_Bool (i == n)) [
  | inl t ↦
      let here : i ≡ n = eqb-true i n t in
      let set : (bit_at word n == 1) ≡ true = ap (λ k. bit_at word k == 1) (sym here) ∙ ap (λ k. k == 1) is in
      let parts = subst (λ b. AllByRecursion P (if b then f n ∷ chosen_from (n + 1) word (map f (range_with_len (n + 1) m)) else chosen_from (n + 1) word (map f (range_with_len (n + 1) m)))) set all in
      subst (λ k. P (f k)) (sym here) parts.0
  | inr u ↦
      let above : n + 1 ≤ i = omega (arith, from, eqb-false i n u) in
      let below : i < n + 1 + m = omega (arith, to) in
      elim (cases_Bool (bit_at word n == 1)) [
        | inl set ↦
            let parts = subst (λ b. AllByRecursion P (if b then f n ∷ chosen_from (n + 1) word (map f (range_with_len (n + 1) m)) else chosen_from (n + 1) word (map f (range_with_len (n + 1) m)))) set all in
            chosen_from-at P f word (n + 1) m parts.1 i above below is
        | inr clear ↦
            let rest = subst (λ b. AllByRecursion P (if b then f n ∷ chosen_from (n + 1) word (map f (range_with_len (n + 1) m)) else chosen_from (n + 1) word (map f (range_with_len (n + 1) m)))) clear all in
            chosen_from-at P f word (n + 1) m rest i above below is
      ]
]

pub chosen-at : (b : BlockView) (word : ℕ) (P : List Cell → Type 0) → All P (chosen_in b word) → (i : ℕ) → i < b.count → bit_at word i ≡ 1 → P (row_at b i)
chosen-at b word P all i low is = chosen_from-at P (row_at b) word 0 b.count (recursion_from_All P (chosen_in b word) all) i (omega arith) (omega (arith, low)) is

-- one chosen row more at its place
pub step_picked : (items : List Item) (f : List Cell → Bool) (rows done : List (List Cell)) (row : List Cell) (p place : ℕ) (vs : List (List Running)) → p < length vs → (place == p) ≡ f row
    → values_at vs p ≡ runnings items (rows ++ filter f done) → values_at (set vs place (nexts items row (values_at vs place))) p ≡ runnings items (rows ++ filter f (done ++ row ∷ []))
step_picked items f rows done row p place vs low picks is = elim (cases_Bool (place == p)) [
  | inl t ↦
      let here : place ≡ p = eqb-true place p t in
      ap (λ k. values_at (set vs k (nexts items row (values_at vs k))) p) here ∙ get_or-set_same vs p (nexts items row (values_at vs p)) [] low
      ∙ ap (nexts items row) is ∙ nexts-values items (rows ++ filter f done) row
      ∙ ap (runnings items) (append_assoc rows (filter f done) (row ∷ []) ∙ ap (λ more. rows ++ more) (sym (group-push f done row (sym picks ∙ t))))
  | inr u ↦
      get_or-set_other vs place p (nexts items row (values_at vs place)) [] (λ e. eqb-false place p u (sym e))
      ∙ is ∙ ap (λ more. runnings items (rows ++ more)) (sym (group-other f done row (sym picks ∙ u)))
]

-- rows of places are rows of keys
pub picks_key : (keys : List ℕ) (b : BlockView) (word : ℕ) (places : List ℕ) (t : Placed) (q : List Cell) (p : ℕ) → IsPlaced t → AreFound keys b word places t → place_at t.places q ≡ Some p
    → PicksPlace b word places p (λ row. same_key q (meaning.key_of codes keys row))
picks_key keys b word places t q p placed found there i low is = elim (cases_Bool (same_key q k)) [
  | inl same' ↦
      let e : Some (get_or places i 0) ≡ Some p = sym (found i low is) ∙ ap (place_at t.places) (sym (same q k same')) ∙ there in
      let s : get_or places i 0 ≡ p = cc in
      ap (λ n. n == p) s ∙ eq-eqb p p refl ∙ sym same'
  | inr other' ↦ elim (cases_Bool (get_or places i 0 == p)) [
    | inl t' ↦
        let s : get_or places i 0 ≡ p = eqb-true (get_or places i 0) p t' in
        let e : k ≡ q = placed.apart k q p (found i low is ∙ ap Some s) there in
        absurd (false≢true (sym other' ∙ ap (same_key q) e ∙ itself q))
    | inr u ↦ u ∙ sym other'
  ]
] where
  k : List Cell
  k = meaning.key_of codes keys (row_at b i)

-- the groups with the chosen rows of a block
pub groups_rows : (items : List Item) (keys : List ℕ) (b : BlockView) (word : ℕ) (places : List ℕ) (old mid new : Placed) → IsPlaced mid → IsPlaced new → HasGrown items old mid
    → ((q : List Cell) → is_some (place_at mid.places q) ≡ (is_some (place_at old.places q) || has_key (map (meaning.key_of codes keys) (chosen_in b word)) q))
    → AreFound keys b word places mid → new.places ≡ mid.places → AddsRows items b word places mid.values new.values
    → (rows : List (List Cell)) → seen old ≡ groups_of items keys rows → seen new ≡ groups_of items keys (rows ++ chosen_in b word)
groups_rows items keys b word places old mid new p r g named found same_places adds rows s =
    groups_are items keys (seen new) (rows ++ more) (seen_rising new r) (λ q. at-seen new q ∙ ap (λ es. option_map (values_at new.values) (place_at es q)) same_places ∙ by q (place_at mid.places q) refl) where
      more : List (List Cell)
      more = chosen_in b word

      stood : (q : List Cell) → at (seen old) q ≡ state_of items keys rows q
      stood q = ap (λ gs. at gs q) s ∙ at-groups_of items keys rows q

      has : (q : List Cell) → is_some (place_at mid.places q) ≡ has_key (meaning.first_keys codes keys ++ map (meaning.key_of codes keys) (rows ++ more)) q
      has q =
          named q ∙ ap (λ c. c || has_key (map (meaning.key_of codes keys) more) q) (some-map (values_at old.values) (place_at old.places q) ∙ ap is_some (sym (at-seen old q) ∙ stood q) ∙ some-if (has_key (meaning.first_keys codes keys ++ map (meaning.key_of codes keys) rows) q) (runnings items (meaning.group codes keys q rows)))
          ∙ both q where
            some-map : (f : ℕ → List Running) (o : Option ℕ) → is_some o ≡ is_some (option_map f o)
            some-map f None = refl
            some-map f (Some i) = refl

            some-if : (c : Bool) (vs : List Running) → is_some (if c then Some vs else None) ≡ c
            some-if true vs = refl
            some-if false vs = refl

            has-behind : (xs : List (List Cell)) (us ws : List (List Cell)) (q : List Cell) → has_key (xs ++ map (meaning.key_of codes keys) (us ++ ws)) q ≡ (has_key (xs ++ map (meaning.key_of codes keys) us) q || has_key (map (meaning.key_of codes keys) ws) q)
            has-behind [] us ws q = has-append [] (meaning.key_of codes keys) us ws q
            has-behind (x ∷ xs) us ws q = elim (cases_Bool (same_key q x)) [ inl t ↦ rw t refl | inr t ↦ rw t (has-behind xs us ws q) ]

            both : (q : List Cell) → (has_key (meaning.first_keys codes keys ++ map (meaning.key_of codes keys) rows) q || has_key (map (meaning.key_of codes keys) more) q) ≡ has_key (meaning.first_keys codes keys ++ map (meaning.key_of codes keys) (rows ++ more)) q
            both q = sym (has-behind (meaning.first_keys codes keys) rows more q)

      by : (q : List Cell) (o : Option ℕ) → place_at mid.places q ≡ o → option_map (values_at new.values) (place_at mid.places q) ≡ state_of items keys (rows ++ more) q
      by q None e =
          ap (option_map (values_at new.values)) e
          ∙ sym (ap (λ c. if c then Some (runnings items (meaning.group codes keys q (rows ++ more))) else None) (sym (has q) ∙ ap is_some e))
      by q (Some i) e =
          let low : i < length mid.values = placed_below mid q i p e in
          let own : values_at mid.values i ≡ runnings items (meaning.group codes keys q rows) =
          ap (base items) (sym (at-seen mid q ∙ ap (option_map (values_at mid.values)) e)) ∙ g.base q ∙ ap (base items) (stood q) ∙ base-state items keys rows q in
          let all : values_at new.values i ≡ runnings items (meaning.group codes keys q rows ++ meaning.group codes keys q more) =
          adds i (λ row. same_key q (meaning.key_of codes keys row)) (meaning.group codes keys q rows) low (picks_key keys b word places mid q i p found e) own in
          ap (option_map (values_at new.values)) e ∙ ap Some (all ∙ ap (runnings items) (sym (filter-append (λ row. same_key q (meaning.key_of codes keys row)) rows more)))
          ∙ sym (ap (λ c. if c then Some (runnings items (meaning.group codes keys q (rows ++ more))) else None) (sym (has q) ∙ ap is_some e))

-- keys that groups know have places
pub known_all : (t : Placed) (keys : List ℕ) (rows : List (List Cell)) → All (λ row. Contains (names (seen t)) (meaning.key_of codes keys row)) rows
    → All (λ row. is_some (place_at t.places (meaning.key_of codes keys row)) ≡ true) rows
known_all t keys rows all = λ k d low.
    let key = meaning.key_of codes keys (get_or rows k d) in
    known_place t.places key (subst (λ qs. Contains qs key) (names-seen t.values t.places) (all k d low))
