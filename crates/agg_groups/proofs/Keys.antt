-- What is kept at each key, over one row more, over two lists of rows, and over the same rows in another order.
use Rattle.std.proofs.Common.{◌≡◌, ℕ, Bool, true, false, List, [], ◌∷◌, ◌++◌, map, filter, refl, sym, ap, ◌∙◌, inl, inr, append-nil}
use Rattle.std.specs.Prelude.{Option, Some, None, ◌||◌, is_some, if◌then◌else◌}
use Rattle.std.proofs.lemmas.Bool.{cases_Bool, false≢true}
use Rattle.std.proofs.Math.Bool.{or-false, or-true}
use Rattle.table_core.specs.declared.cell.Cell.{Cell}
use Rattle.agg_groups.specs.declared.running.Running.{Running}
use Rattle.query_meaning.specs.declared.item.Item.{Item}
use Rattle.query_meaning.specs.Cells.{codes}
use Rattle.query_meaning.specs.Meaning as meaning
use Rattle.agg_groups.specs.Running.{runnings, nexts}
use Rattle.agg_groups.specs.Groups.{Group, groups_of}
use Rattle.agg_groups.specs.Table.{at, base, Puts, merged, names, Rising}
use Rattle.agg_groups.proofs.Order.{same_key, same, itself, has_key, below_apart, rising_same, distinct_rising, has-distinct}
use Rattle.agg_groups.proofs.Values.{nexts-values, joins-values}

abbrev Row : Type 0
Row = List Cell

abbrev key_of : List ℕ → Row → List Cell
key_of = meaning.key_of codes

abbrev group : List ℕ → List Cell → List Row → List Row
group = meaning.group codes

abbrev first_keys : List ℕ → List (List Cell)
first_keys = meaning.first_keys codes

abbrev keys_of : List ℕ → List Row → List (List Cell)
keys_of = meaning.keys_of codes

-- what the rows have at a key: nothing where no row has it, but for the one key of a query without key columns
abbrev pub state_of : List Item → List ℕ → List Row → List Cell → Option (List Running)
state_of items keys rows q = if has_key (first_keys keys ++ map (key_of keys) rows) q then Some (runnings items (group keys q rows)) else None

pub filter-append : {A : Type 0} (p : A → Bool) (xs ys : List A) → filter p (xs ++ ys) ≡ filter p xs ++ filter p ys
filter-append p [] ys = refl
filter-append p (x ∷ xs) ys = elim (cases_Bool (p x)) [ inl t ↦ rw t (ap (λ zs. x ∷ zs) (filter-append p xs ys)) | inr t ↦ rw t (filter-append p xs ys) ]

-- one more row in the group of its key, and in no other
pub group-push : (p : Row → Bool) (rows : List Row) (row : Row) → p row ≡ true → filter p (rows ++ row ∷ []) ≡ filter p rows ++ row ∷ []
group-push p [] row e = rw e refl
group-push p (r ∷ rows) row e = elim (cases_Bool (p r)) [
  | inl t ↦ rw (t, group-push p rows row e) refl
  | inr t ↦ rw t (group-push p rows row e)
]

pub group-other : (p : Row → Bool) (rows : List Row) (row : Row) → p row ≡ false → filter p (rows ++ row ∷ []) ≡ filter p rows
group-other p [] row e = rw e refl
group-other p (r ∷ rows) row e = elim (cases_Bool (p r)) [
  | inl t ↦ rw (t, group-other p rows row e) refl
  | inr t ↦ rw t (group-other p rows row e)
]

pub has-push : (xs : List (List Cell)) (f : Row → List Cell) (rows : List Row) (row : Row) (q : List Cell) → has_key (xs ++ map f (rows ++ row ∷ [])) q ≡ (has_key (xs ++ map f rows) q || same_key q (f row))
has-push [] f [] row q = or-false (same_key q (f row))
has-push [] f (r ∷ rows) row q = elim (cases_Bool (same_key q (f r))) [
  | inl t ↦ rw t refl
  | inr t ↦ rw t (has-push [] f rows row q)
]
has-push (x ∷ xs) f rows row q = elim (cases_Bool (same_key q x)) [
  | inl t ↦ rw t refl
  | inr t ↦ rw t (has-push xs f rows row q)
]

pub group-none : (xs : List (List Cell)) (keys : List ℕ) (rows : List Row) (q : List Cell) → has_key (xs ++ map (key_of keys) rows) q ≡ false → group keys q rows ≡ []
group-none [] keys [] q e = refl
group-none [] keys (r ∷ rows) q e = elim (cases_Bool (same_key q (key_of keys r))) [
  | inl t ↦ absurd (false≢true (sym e ∙ ap (λ b. b || has_key (map (key_of keys) rows) q) t))
  | inr t ↦ rw t (group-none [] keys rows q (sym (ap (λ b. b || has_key (map (key_of keys) rows) q) t) ∙ e))
]
group-none (x ∷ xs) keys rows q e = elim (cases_Bool (same_key q x)) [
  | inl t ↦ absurd (false≢true (sym e ∙ ap (λ b. b || has_key (xs ++ map (key_of keys) rows) q) t))
  | inr t ↦ group-none xs keys rows q (sym (ap (λ b. b || has_key (xs ++ map (key_of keys) rows) q) t) ∙ e)
]

pub base-state : (items : List Item) (keys : List ℕ) (rows : List Row) (q : List Cell) → base items (state_of items keys rows q) ≡ runnings items (group keys q rows)
base-state items keys rows q = elim (cases_Bool (has_key (first_keys keys ++ map (key_of keys) rows) q)) [
  | inl t ↦ rw t refl
  | inr t ↦ rw (t, group-none (first_keys keys) keys rows q t) refl
]

pub state-push : (items : List Item) (keys : List ℕ) (rows : List Row) (row : Row) (q : List Cell) → state_of items keys (rows ++ row ∷ []) q ≡ (if same_key q (key_of keys row) then Some (nexts items row (base items (state_of items keys rows q))) else state_of items keys rows q)
state-push items keys rows row q = elim (cases_Bool (same_key q (key_of keys row))) [
  | inl t ↦
      let has : has_key (first_keys keys ++ map (key_of keys) (rows ++ row ∷ [])) q ≡ true = has-push (first_keys keys) (key_of keys) rows row q ∙ ap (λ b. has_key (first_keys keys ++ map (key_of keys) rows) q || b) t ∙ or-true (has_key (first_keys keys ++ map (key_of keys) rows) q) in
      let vs : runnings items (group keys q (rows ++ row ∷ [])) ≡ nexts items row (base items (state_of items keys rows q)) =
      ap (runnings items) (group-push (λ r. same_key q (key_of keys r)) rows row t) ∙ sym (nexts-values items (group keys q rows) row) ∙ sym (ap (nexts items row) (base-state items keys rows q)) in
      ap (λ b. if b then Some (runnings items (group keys q (rows ++ row ∷ []))) else None) has ∙ ap Some vs ∙ sym (ap (λ b. if b then Some (nexts items row (base items (state_of items keys rows q))) else state_of items keys rows q) t)
  | inr t ↦
      let has : has_key (first_keys keys ++ map (key_of keys) (rows ++ row ∷ [])) q ≡ has_key (first_keys keys ++ map (key_of keys) rows) q = has-push (first_keys keys) (key_of keys) rows row q ∙ ap (λ b. has_key (first_keys keys ++ map (key_of keys) rows) q || b) t ∙ or-false (has_key (first_keys keys ++ map (key_of keys) rows) q) in
      let g : group keys q (rows ++ row ∷ []) ≡ group keys q rows = group-other (λ r. same_key q (key_of keys r)) rows row t in
      ap (λ b. if b then Some (runnings items (group keys q (rows ++ row ∷ []))) else None) has ∙ ap (λ r. if has_key (first_keys keys ++ map (key_of keys) rows) q then Some (runnings items r) else None) g ∙ sym (ap (λ b. if b then Some (nexts items row (base items (state_of items keys rows q))) else state_of items keys rows q) t)
]

-- kept groups with one row put at its key stand for the rows with that row
pub stands_more : (items : List Item) (keys : List ℕ) (es fs : List Group) (row : Row) → Puts (key_of keys row) (nexts items row (base items (at es (key_of keys row)))) es fs
    → (rows : List Row) → ((q : List Cell) → at es q ≡ state_of items keys rows q) → (q : List Cell) → at fs q ≡ state_of items keys (rows ++ row ∷ []) q
stands_more items keys es fs row puts rows s q = elim (cases_Bool (same_key q (key_of keys row))) [
  | inl t ↦
      let k : q ≡ key_of keys row = same q (key_of keys row) t in
      let a : at es (key_of keys row) ≡ state_of items keys rows q = ap (at es) (sym k) ∙ s q in
      puts q ∙ ap (λ o. if same_key q (key_of keys row) then Some (nexts items row (base items o)) else at es q) a ∙ ap (λ o. if same_key q (key_of keys row) then Some (nexts items row (base items (state_of items keys rows q))) else o) (s q) ∙ sym (state-push items keys rows row q)
  | inr t ↦ puts q ∙ ap (λ b. if b then Some (nexts items row (base items (at es (key_of keys row)))) else at es q) t ∙ s q ∙ sym (ap (λ b. if b then Some (nexts items row (base items (state_of items keys rows q))) else state_of items keys rows q) t) ∙ sym (state-push items keys rows row q)
]

pub has-append : (xs : List (List Cell)) (f : Row → List Cell) (rows more : List Row) (q : List Cell) → has_key (xs ++ map f (rows ++ more)) q ≡ (has_key (xs ++ map f rows) q || has_key (xs ++ map f more) q)
has-append [] f [] more q = refl
has-append [] f (r ∷ rows) more q = elim (cases_Bool (same_key q (f r))) [
  | inl t ↦ rw t refl
  | inr t ↦ rw t (has-append [] f rows more q)
]
has-append (x ∷ xs) f rows more q = elim (cases_Bool (same_key q x)) [
  | inl t ↦ rw t refl
  | inr t ↦ rw t (has-append xs f rows more q)
]

-- what is kept over two lists of rows
pub state-append : (items : List Item) (keys : List ℕ) (rows more : List Row) (q : List Cell) → state_of items keys (rows ++ more) q ≡ merged items (state_of items keys rows q) (state_of items keys more q)
state-append items keys rows more q = by (has_key (first_keys keys ++ map (key_of keys) rows) q) (has_key (first_keys keys ++ map (key_of keys) more) q) refl refl where
  g : group keys q (rows ++ more) ≡ group keys q rows ++ group keys q more
  g = filter-append (λ r. same_key q (key_of keys r)) rows more

  by : (a b : Bool) → has_key (first_keys keys ++ map (key_of keys) rows) q ≡ a → has_key (first_keys keys ++ map (key_of keys) more) q ≡ b → state_of items keys (rows ++ more) q ≡ merged items (state_of items keys rows q) (state_of items keys more q)
  by true true e f = rw (has-append (first_keys keys) (key_of keys) rows more q, e, f) (ap Some (ap (runnings items) g ∙ sym (joins-values items (group keys q rows) (group keys q more))))
  by true false e f = rw (has-append (first_keys keys) (key_of keys) rows more q, e, f) (ap Some (ap (runnings items) (g ∙ ap (λ z. group keys q rows ++ z) (group-none (first_keys keys) keys more q f) ∙ append-nil (group keys q rows))))
  by false true e f = rw (has-append (first_keys keys) (key_of keys) rows more q, e, f) (ap Some (ap (runnings items) (g ∙ ap (λ z. z ++ group keys q more) (group-none (first_keys keys) keys rows q e)) ∙ sym (joins-values items [] (group keys q more))))
  by false false e f = rw (has-append (first_keys keys) (key_of keys) rows more q, e, f) refl

-- ---- groups as a list, and as what stands at each key

pub at_names : (gs : List Group) (q : List Cell) → is_some (at gs q) ≡ has_key (names gs) q
at_names [] q = refl
at_names (g ∷ gs) q = elim (cases_Bool (same_key q g.0)) [ inl t ↦ rw t refl | inr t ↦ rw t (at_names gs q) ]

at_map : (F : List Cell → List Running) (ks : List (List Cell)) (q : List Cell) → at (map (λ p. (p, F p)) ks) q ≡ (if has_key ks q then Some (F q) else None)
at_map F [] q = refl
at_map F (k ∷ ks) q = elim (cases_Bool (same_key q k)) [
  | inl t ↦ rw t (ap (λ p. Some (F p)) (sym (same q k t)))
  | inr t ↦ rw t (at_map F ks q)
]

-- the groups of a list of rows have at each key what the rows have there
pub at-groups_of : (items : List Item) (keys : List ℕ) (rows : List Row) (q : List Cell) → at (groups_of items keys rows) q ≡ state_of items keys rows q
at-groups_of items keys rows q =
    at_map (λ p. runnings items (group keys p rows)) (keys_of keys rows) q
    ∙ ap (λ b. if b then Some (runnings items (group keys q rows)) else None) (has-distinct (first_keys keys ++ map (key_of keys) rows) q)

is_some-if : {A : Type 0} (b : Bool) (a : A) → is_some (if b then Some a else None) ≡ b
is_some-if true a = refl
is_some-if false a = refl

pub same_entries : (F : List Cell → List Running) (gs : List Group) → Rising (names gs) → ((q : List Cell) (vs : List Running) → at gs q ≡ Some vs → vs ≡ F q) → gs ≡ map (λ q. (q, F q)) (names gs)
same_entries F [] r h = refl
same_entries F (g ∷ gs) r h =
    let head : g.1 ≡ F g.0 = h g.0 g.1 (ap (λ b. if b then Some g.1 else at gs g.0) (itself g.0)) in
    let rest = same_entries F gs r.1 (λ q vs e. h q vs (inner q vs e)) in
    let G : List Running → List Group = λ v. (g.0, v) ∷ gs in
    ap G head ∙ ap (λ zs. (g.0, F g.0) ∷ zs) rest where
      inner : (q : List Cell) (vs : List Running) → at gs q ≡ Some vs → at (g ∷ gs) q ≡ Some vs
      inner q vs e = elim (cases_Bool (same_key q g.0)) [
        | inl t ↦
            let n : has_key (names gs) q ≡ false = ap (has_key (names gs)) (same q g.0 t) ∙ below_apart g.0 (names gs) r.0 in
            absurd (false≢true (sym n ∙ sym (at_names gs q) ∙ ap is_some e))
        | inr t ↦ ap (λ b. if b then Some g.1 else at gs q) t ∙ e
      ]

-- rising groups that have at each key what the rows have there are the groups of the rows
pub groups_are : (items : List Item) (keys : List ℕ) (gs : List Group) (rows : List Row) → Rising (names gs) → ((q : List Cell) → at gs q ≡ state_of items keys rows q) → gs ≡ groups_of items keys rows
groups_are items keys gs rows r s =
    let all = first_keys keys ++ map (key_of keys) rows in
    let F : List Cell → List Running = λ q. runnings items (group keys q rows) in
    let ns : names gs ≡ keys_of keys rows = rising_same (names gs) (keys_of keys rows) r (distinct_rising all) (λ q. sym (at_names gs q) ∙ ap is_some (s q) ∙ is_some-if (has_key all q) (F q) ∙ sym (has-distinct all q)) in
    same_entries F gs r (λ q vs g. values q vs g) ∙ ap (map (λ q. (q, F q))) ns where
      values : (q : List Cell) (vs : List Running) → at gs q ≡ Some vs → vs ≡ runnings items (group keys q rows)
      values q vs g = by (has_key (first_keys keys ++ map (key_of keys) rows) q) refl where
        by : (b : Bool) → has_key (first_keys keys ++ map (key_of keys) rows) q ≡ b → vs ≡ runnings items (group keys q rows)
        by true e = (let p : Some vs ≡ Some (runnings items (group keys q rows)) = sym g ∙ s q ∙ ap (λ b. if b then Some (runnings items (group keys q rows)) else None) e in cc)
        by false e = absurd (let p : Some vs ≡ None = sym g ∙ s q ∙ ap (λ b. if b then Some (runnings items (group keys q rows)) else None) e in cc)

-- rising groups with the same values at each key are the same
pub same_groups : (gs hs : List Group) → Rising (names gs) → Rising (names hs) → ((q : List Cell) → at gs q ≡ at hs q) → gs ≡ hs
same_groups gs hs r s h =
    let F : List Cell → List Running = λ q. base [] (at hs q) in
    let ns : names gs ≡ names hs = rising_same (names gs) (names hs) r s (λ q. sym (at_names gs q) ∙ ap is_some (h q) ∙ at_names hs q) in
    same_entries F gs r (λ q vs e. ap (base []) (sym e ∙ h q)) ∙ ap (map (λ q. (q, F q))) ns ∙ sym (same_entries F hs s (λ q vs e. ap (base []) (sym e)))
