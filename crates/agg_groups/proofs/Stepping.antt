-- The chosen rows of a block, each added to the value of an item at its place.
use Rattle.std.proofs.Common.{◌≡◌, ℕ, ◌<◌, ◌≤◌, ◌+◌, ◌==◌, Bool, List, [], ◌∷◌, ◌++◌, length, set, get_or, filter, zero, suc, refl, sym, ap, subst, ◌∙◌, arith, inl, inr, append_assoc, append-nil}
use Rattle.std.specs.Int.{bit_at}
use Rattle.std.proofs.lemmas.Bool.{cases_eq, cases_lt, eq-eqb, ne_eqb}
use Rattle.std.proofs.lemmas.List.{ext_get_or, get_or-map, get_or-set_same, get_or-set_other, length-map, length-set}
use Rattle.std.proofs.lemmas.List.Elements.{All-from_get_or, All-get_or}
use Rattle.table_core.specs.declared.cell.Cell.{Cell}
use Rattle.row_blocks.specs.Blocks.{BlockView, row_at}
use Rattle.query_meaning.specs.declared.item.Item.{Item}
use Rattle.query_meaning.specs.declared.item.Item.TheVariants.{CountAll}
use Rattle.agg_groups.specs.declared.running.Running.{Running}
use Rattle.agg_groups.specs.declared.running.Running.TheVariants as running
use Rattle.agg_groups.specs.Blocks.{AreInBlock}
use Rattle.agg_groups.specs.Running.{HasRoom, next, running_of, runnings}
use Rattle.agg_groups.specs.Table.{AddsItem, AreSound, HasItem, PicksPlace, value_at, values_at}
use Rattle.agg_groups.proofs.Keys.{group-other, group-push}
use Rattle.agg_groups.proofs.Placing.{first_chosen, no_more, one_more}
use Rattle.agg_groups.proofs.Values.{room_wider, running-next}

-- no row from a on is chosen before c
pub none_between : (b : BlockView) (word a c : ℕ) → a ≤ c → ((i : ℕ) → a ≤ i → i < c → bit_at word i ≡ 0) → first_chosen b word c ≡ first_chosen b word a
none_between b word a zero le none = let e : zero ≡ a = omega (arith, le) in ap (first_chosen b word) e
none_between b word a (suc c) le none = elim (cases_eq a (suc c)) [
  | inl e ↦ ap (first_chosen b word) (sym e)
  | inr ne ↦
      let low : a ≤ c = omega (arith, le, ne) in
      let last : suc c ≡ c + 1 = omega arith in
      ap (first_chosen b word) last ∙ no_more b word c (ap (λ k. k == 1) (none c low (omega arith))) ∙ none_between b word a c low (λ i from to. none i from (omega (arith, to)))
]

-- a chosen row is one of the block
pub row_in : (n word i : ℕ) → AreInBlock n word → bit_at word i ≡ 1 → i < n
row_in n word i below is = elim (cases_lt i n) [
  | inl lt ↦ lt
  | inr not ↦ absurd (let clear = below i (omega (arith, not)) in omega (arith, is, clear))
]

-- no rows
pub none_added : (item : Item) (k n : ℕ) (b : BlockView) (word : ℕ) (places : List ℕ) (vs : List (List Running)) → HasItem n k vs → AddsItem item k n b word places [] vs vs
none_added item k n b word places vs has = record {
  long = refl;
  same = λ p. refl;
  others = λ p j ne. refl;
  room = has.room;
  added = λ p f rows low picks e. e ∙ ap (λ these. running_of these item) (sym (append-nil rows));
}

-- one row more
pub one_added : (item : Item) (k n : ℕ) (b : BlockView) (word : ℕ) (places : List ℕ) (i place : ℕ) (old vs new : List (List Running)) → AddsItem item k n b word places (first_chosen b word i) old vs → i < b.count → bit_at word i ≡ 1
    → place ≡ get_or places i 0 → place < length old → k < length (values_at old place) → HasRoom (n + 1) (next item (row_at b i) (value_at vs place k))
    → new ≡ set vs place (set (values_at vs place) k (next item (row_at b i) (value_at vs place k))) → AddsItem item k (n + 1) b word places (first_chosen b word (i + 1)) old new
one_added item k n b word places i place old vs new before low is at there wide room e = record {
  long = ap length e ∙ length-set vs place ws ∙ before.long;
  same = λ p. cases p (λ us. length us ≡ length (values_at old p)) (λ t. length-set (values_at vs place) k r ∙ ap (λ q. length (values_at vs q)) (sym t) ∙ before.same p) (λ u. before.same p);
  others = λ p j ne. cases p (λ us. get_or us j running.Nothing ≡ value_at old p j)
      (λ t. get_or-set_other (values_at vs place) k j r running.Nothing ne ∙ ap (λ q. value_at vs q j) (sym t) ∙ before.others p j ne) (λ u. before.others p j ne);
  room = λ p few. cases p (λ us. HasRoom (n + 1) (get_or us k running.Nothing)) (λ t. subst (HasRoom (n + 1)) (sym written) room) (λ u. room_wider (value_at vs p k) n (n + 1) (omega arith) (before.room p few));
  added = λ p f rows few picks s. cases p (λ us. get_or us k running.Nothing ≡ running_of (rows ++ filter f (first_chosen b word (i + 1))) item)
      (λ t. written ∙ ap (λ q. next item row (value_at vs q k)) (sym t) ∙ ap (next item row) (before.added p f rows few picks s) ∙ sym (running-next item (rows ++ filter f done) row)
      ∙ ap (λ these. running_of these item) (append_assoc rows (filter f done) (row ∷ []) ∙ ap (λ these. rows ++ these) (sym (group-push f done row (sym (picks i low is) ∙ eq-eqb (get_or places i 0) p (sym at ∙ sym t))))
      ∙ ap (λ these. rows ++ filter f these) (sym more)))
      (λ u. before.added p f rows few picks s ∙ ap (λ these. running_of these item) (ap (λ these. rows ++ these) (sym (group-other f done row (sym (picks i low is) ∙ ne_eqb (get_or places i 0) p (λ s. u (sym s ∙ sym at)))))
      ∙ ap (λ these. rows ++ filter f these) (sym more)));
}
  where
    row : List Cell
    row = row_at b i

    done : List (List Cell)
    done = first_chosen b word i

    r : Running
    r = next item row (value_at vs place k)

    ws : List Running
    ws = set (values_at vs place) k r

    more : first_chosen b word (i + 1) ≡ done ++ row ∷ []
    more = one_more b word i (ap (λ k. k == 1) is)

    written : get_or ws k running.Nothing ≡ r
    written = get_or-set_same (values_at vs place) k r running.Nothing (let same = before.same place in omega (arith, wide, same))

    cases : (p : ℕ) (R : List Running → Type 0) → (p ≡ place → R ws) → ((p ≡ place → ⊥) → R (values_at vs p)) → R (values_at new p)
    cases p R here other = elim (cases_eq p place) [
      | inl t ↦ subst R (sym (ap (λ us. values_at us p) e ∙ ap (λ q. values_at (set vs place ws) q) t ∙ get_or-set_same vs place ws [] (let long = before.long in omega (arith, there, long)))) (here t)
      | inr u ↦ subst R (sym (ap (λ us. values_at us p) e ∙ get_or-set_other vs place p ws [] u)) (other u)
    ]

-- the values of the first k items over the rows of each place, with the chosen rows of that place; the others stay
pub record AddsItems (items : List Item) (k n : ℕ) (b : BlockView) (word : ℕ) (places : List ℕ) (more : List (List Cell)) (old new : List (List Running)) : Type 0 where
  pub long : length new ≡ length old
  pub same : (p : ℕ) → length (values_at new p) ≡ length (values_at old p)
  pub left : (p j : ℕ) → k ≤ j → value_at new p j ≡ value_at old p j
  pub room : (p j : ℕ) → p < length old → j < k → HasRoom n (value_at new p j)
  pub added : (p : ℕ) (f : List Cell → Bool) (rows : List (List Cell)) → p < length old → PicksPlace b word places p f → values_at old p ≡ runnings items rows
      → (j : ℕ) → j < k → value_at new p j ≡ running_of (rows ++ filter f more) (get_or items j CountAll)

pub no_items : (items : List Item) (n : ℕ) (b : BlockView) (word : ℕ) (places : List ℕ) (more : List (List Cell)) (vs : List (List Running)) → AddsItems items 0 n b word places more vs vs
no_items items n b word places more vs = record {
  long = refl;
  same = λ p. refl;
  left = λ p j le. refl;
  room = λ p j few lt. absurd (omega (arith, lt));
  added = λ p f rows few picks e j lt. absurd (omega (arith, lt));
}

-- each place has a value of the next item
pub next_item : (items : List Item) (k rows n : ℕ) (b : BlockView) (word : ℕ) (places : List ℕ) (more : List (List Cell)) (old vs : List (List Running)) → k < length items → AreSound rows (length items) old → AddsItems items k n b word places more old vs → HasItem rows k vs
next_item items k rows n b word places more old vs low sound before = record {
  there = λ p few. (let there : p < length old = (let long = before.long in omega (arith, few, long)) in let same = before.same p in let wide = (sound p there).0 in omega (arith, low, same, wide));
  room = λ p few. (let there : p < length old = (let long = before.long in omega (arith, few, long)) in let wide = (sound p there).0 in
      subst (HasRoom rows) (sym (before.left p k (omega arith))) (All-get_or (HasRoom rows) (values_at old p) k running.Nothing (omega (arith, low, wide)) (sound p there).1));
}

pub one_item_more : (items : List Item) (k n : ℕ) (b : BlockView) (word : ℕ) (places : List ℕ) (more : List (List Cell)) (old vs new : List (List Running)) → k < length items → AddsItems items k n b word places more old vs
    → AddsItem (get_or items k CountAll) k n b word places more vs new → AddsItems items (k + 1) n b word places more old new
one_item_more items k n b word places more old vs new low before adds = record {
  long = adds.long ∙ before.long;
  same = λ p. adds.same p ∙ before.same p;
  left = λ p j le. adds.others p j (λ e. omega (arith, le, e)) ∙ before.left p j (omega (arith, le));
  room = λ p j few lt. by j lt (λ x. HasRoom n x) p (λ e. subst (λ m. HasRoom n (value_at new p m)) (sym e) (adds.room p (let long = before.long in omega (arith, few, long)))) (λ less. before.room p j few less);
  added = λ p f rows few picks e j lt. by j lt (λ x. x ≡ running_of (rows ++ filter f more) (get_or items j CountAll)) p
      (λ at. subst (λ m. value_at new p m ≡ running_of (rows ++ filter f more) (get_or items m CountAll)) (sym at)
      (adds.added p f rows (let long = before.long in omega (arith, few, long)) picks
      (before.left p k (omega arith) ∙ ap (λ us. get_or us k running.Nothing) e ∙ get_or-map (running_of rows) items k CountAll running.Nothing low)))
      (λ less. before.added p f rows few picks e j less);
}
  where
    by : (j : ℕ) → j < k + 1 → (R : Running → Type 0) (p : ℕ) → (j ≡ k → R (value_at new p j)) → (j < k → R (value_at vs p j)) → R (value_at new p j)
    by j lt R p here earlier = elim (cases_eq j k) [
      | inl e ↦ here e
      | inr ne ↦ subst R (sym (adds.others p j ne)) (earlier (omega (arith, lt, ne)))
    ]

-- all items
pub all_items : (items : List Item) (n : ℕ) (b : BlockView) (word : ℕ) (places : List ℕ) (more : List (List Cell)) (old new : List (List Running)) → AddsItems items (length items) n b word places more old new
    → (p : ℕ) (f : List Cell → Bool) (rows : List (List Cell)) → p < length old → PicksPlace b word places p f → values_at old p ≡ runnings items rows → values_at new p ≡ runnings items (rows ++ filter f more)
all_items items n b word places more old new all p f rows few picks e =
    ext_get_or running.Nothing (values_at new p) (runnings items these) (wide ∙ sym (length-map items (running_of these)))
    (λ j low. (let less : j < length items = omega (arith, low, wide) in all.added p f rows few picks e j less ∙ sym (get_or-map (running_of these) items j CountAll running.Nothing less)))
  where
    these : List (List Cell)
    these = rows ++ filter f more

    wide : length (values_at new p) ≡ length items
    wide = all.same p ∙ ap length e ∙ length-map items (running_of rows)

pub all_sound : (items : List Item) (rows n : ℕ) (b : BlockView) (word : ℕ) (places : List ℕ) (more : List (List Cell)) (old new : List (List Running)) → AreSound rows (length items) old → AddsItems items (length items) n b word places more old new
    → AreSound n (length items) new
all_sound items rows n b word places more old new sound all = λ p few.
    let there : p < length old = (let long = all.long in omega (arith, few, long)) in
    let wide : length (values_at new p) ≡ length items = all.same p ∙ (sound p there).0 in
    (wide, All-from_get_or (HasRoom n) (values_at new p) running.Nothing (λ j low. all.room p j there (omega (arith, low, wide))))
