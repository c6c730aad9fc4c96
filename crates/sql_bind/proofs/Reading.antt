-- The columns that a plan reads are those that its query names.
use Rattle.std.proofs.Common.{◌≡◌, ◌∙◌, ◌<◌, ◌≤◌, ℕ, zero, suc, Bool, true, false, List, [], ◌∷◌, ◌++◌, length, map, refl, sym, subst, arith, inl, inr}
use Rattle.std.specs.Prelude.{All, Option, Some, None, IfOk, Result, Ok, Err, find, flat_map, option_map, ◌==◌}
use Rattle.std.specs.List.{AllByRecursion}
use Rattle.std.proofs.lemmas.Bool.{cases_Bool, false≢true, lt-ltb, eq-eqb, eqb-true}
use Rattle.std.proofs.Math.Bool.{or-true}
use Rattle.std.proofs.lemmas.List.Elements.{All-from_recursion, All-append, All-weaker}
use Rattle.table_sets.specs.Sets.{has, numbers_below}
use Rattle.table_sets.proofs.Members.{has-numbers}
use Rattle.table_core.specs.declared.schema.Column.{Column}
use Rattle.filter_zones.specs.declared.cond.Cond.{Cond}
use Rattle.filter_zones.specs.declared.cond.Cond.TheVariants as cond
use Rattle.query_meaning.specs.declared.item.Item.{Item}
use Rattle.query_meaning.specs.declared.item.Item.TheVariants.{CountAll, Count, Sum, Min, Max, Key}
use Rattle.query_meaning.specs.Places.{IsInRow}
use Rattle.query_meaning.specs.declared.order.Order.{Order}
use Rattle.query_meaning.specs.Rows.{RowQuery}
use Rattle.sql_text.specs.declared.query.QItem.{QItem}
use Rattle.sql_text.specs.declared.query.QItem.TheVariants as item
use Rattle.sql_text.specs.declared.query.QOrder.{QOrder}
use Rattle.sql_text.specs.Grammar.{Tree, Compare, NullTest, Both, Either, Negated, QueryTree}
use Rattle.sql_bind.specs.declared.plan.Plan.{Plan}
use Rattle.sql_bind.specs.Names.{column_of}
use Rattle.sql_bind.specs.Places.{Place, item_places, cond_places, where_places, key_place, order_place, places}
use Rattle.sql_bind.specs.Plans.{item_of, items_of, columns_of, plain_column, order_of, row_query, without_limit, is_named, named_columns, IsPlanOf}
use Rattle.sql_bind.specs.Bounds.{IsCondOf, IsBound}
use Rattle.sql_bind.specs.Reads.{CondReads, WhereReads, ItemReads, SomeRowsRead, Reads, ReadsItsColumns}
use Rattle.sql_bind.specs.Causes.{Judges}
use Rattle.sql_bind.specs.Refusals.{is_unknown, refusal_of}
use Rattle.sql_bind.specs.declared.refusal.BindRefusal.{BindRefusal}
use Rattle.sql_bind.proofs.Sound.{known, no_wrong}

-- ---- a fact about all places of a query is one about all columns of its plan
module _ (columns : List Column) (dicts : List (List (List ℕ))) (P : ℕ → Type 0) where
  abbrev pub OfPlace : Place → Type 0
  OfPlace p = P (column_of columns p.0)

  first_part : (xs ys : List Place) → AllByRecursion OfPlace (xs ++ ys) → AllByRecursion OfPlace xs
  first_part [] ys a = tt
  first_part (x ∷ xs) ys a = (a.0, first_part xs ys a.1)

  second_part : (xs ys : List Place) → AllByRecursion OfPlace (xs ++ ys) → AllByRecursion OfPlace ys
  second_part [] ys a = a
  second_part (x ∷ xs) ys a = second_part xs ys a.1

  of_cond : (t : Tree) (c : Cond) → IsCondOf columns dicts t c → AllByRecursion OfPlace (cond_places t) → CondReads P c
  of_cond (Compare n o l) (cond.Compare x p v) is a = subst P (sym is.0) a.0
  of_cond (NullTest n negated) (cond.IsNull x m) is a = subst P (sym is.0) a.0
  of_cond (Both s t) (cond.And' p x q y) is a = (of_cond s x is.0 (first_part (cond_places s) (cond_places t) a), of_cond t y is.1 (second_part (cond_places s) (cond_places t) a))
  of_cond (Either s t) (cond.Or' p x q y) is a = (of_cond s x is.0 (first_part (cond_places s) (cond_places t) a), of_cond t y is.1 (second_part (cond_places s) (cond_places t) a))
  of_cond (Negated t) (cond.Not' p x) is a = of_cond t x is a
  of_cond _ _ is a = absurd is

  of_where : (t : Option Tree) (c : Option Cond) → IsBound columns dicts t c → AllByRecursion OfPlace (where_places t) → WhereReads P c
  of_where None None is a = tt
  of_where None (Some c) is a = absurd is
  of_where (Some t) None is a = absurd is
  of_where (Some t) (Some c) is a = of_cond t c is a

  of_item : (keys : List ℕ) (i : QItem) → AllByRecursion OfPlace (item_places i) → ItemReads P (item_of columns keys i)
  of_item keys item.CountAll a = tt
  of_item keys (item.Count c) a = a.0
  of_item keys (item.Sum c) a = a.0
  of_item keys (item.Min c) a = a.0
  of_item keys (item.Max c) a = a.0
  of_item keys (item.Plain c) a = tt

  of_items : (keys : List ℕ) (is : List QItem) → AllByRecursion OfPlace (flat_map item_places is) → AllByRecursion (ItemReads P) (map (item_of columns keys) is)
  of_items keys [] a = tt
  of_items keys (i ∷ is) a = (of_item keys i (first_part (item_places i) (flat_map item_places is) a), of_items keys is (second_part (item_places i) (flat_map item_places is) a))

  of_plain : (i : QItem) (xs : List ℕ) → AllByRecursion OfPlace (item_places i) → AllByRecursion P xs → AllByRecursion P (plain_column columns i ++ xs)
  of_plain item.CountAll xs a b = b
  of_plain (item.Count c) xs a b = b
  of_plain (item.Sum c) xs a b = b
  of_plain (item.Min c) xs a b = b
  of_plain (item.Max c) xs a b = b
  of_plain (item.Plain c) xs a b = (a.0, b)

  of_plains : (is : List QItem) → AllByRecursion OfPlace (flat_map item_places is) → AllByRecursion P (flat_map (plain_column columns) is)
  of_plains [] a = tt
  of_plains (i ∷ is) a =
      of_plain i (flat_map (plain_column columns) is) (first_part (item_places i) (flat_map item_places is) a) (of_plains is (second_part (item_places i) (flat_map item_places is) a))

  of_keys : (keys : List (List ℕ)) → AllByRecursion OfPlace (map key_place keys) → AllByRecursion P (columns_of columns keys)
  of_keys [] a = tt
  of_keys (k ∷ keys) a = (a.0, of_keys keys a.1)

  of_orders : (os : List QOrder) → AllByRecursion OfPlace (map order_place os) → AllByRecursion (λ (o : Order). P o.column) (map (order_of columns) os)
  of_orders [] a = tt
  of_orders (o ∷ os) a = (a.0, of_orders os a.1)

  pub plan_reads : (q : QueryTree) (p : Plan) → IsPlanOf columns q p → IsBound columns dicts q.cond p.cond → AllByRecursion OfPlace (places q) → Reads P p
  plan_reads q p is bound a =
      let wheres = where_places q.cond in
      let keys = map key_place q.keys in
      let orders = map order_place q.order in
      let items = first_part (flat_map item_places q.items) (wheres ++ (keys ++ orders)) a in
      let behind = second_part (flat_map item_places q.items) (wheres ++ (keys ++ orders)) a in
      let last = second_part wheres (keys ++ orders) behind in
      let I : List Item → Type 0 = λ xs. All (ItemReads P) xs in
      let K : List ℕ → Type 0 = λ xs. All P xs in
      let R : Option RowQuery → Type 0 = λ r. SomeRowsRead P r in
      record {
        cond = of_where q.cond p.cond bound (first_part wheres (keys ++ orders) behind);
        items = subst I (sym is.items) (kept q.limit (items_of columns q) (ItemReads P) (of_items (columns_of columns q.keys) q.items items));
        keys = subst K (sym is.keys) (kept q.limit (columns_of columns q.keys) P (of_keys q.keys (first_part keys orders last)));
        rows = subst R (sym is.rows) (rows_of q.limit items (second_part keys orders last));
      } where
        kept : {A : Type 0} (limit : Option ℕ) (xs : List A) (Q : A → Type 0) → AllByRecursion Q xs → All Q (without_limit limit xs)
        kept None xs Q b = All-from_recursion Q xs b
        kept (Some n) xs Q b = All-from_recursion Q [] tt

        rows_of : (limit : Option ℕ) → AllByRecursion OfPlace (flat_map item_places q.items) → AllByRecursion OfPlace (map order_place q.order) → SomeRowsRead P (option_map (row_query columns q) limit)
        rows_of None b d = tt
        rows_of (Some n) b d = record {
          columns = All-from_recursion P (flat_map (plain_column columns) q.items) (of_plains q.items b);
          order = All-from_recursion (λ (o : Order). P o.column) (map (order_of columns) q.order) (of_orders q.order d);
        }

-- ---- each place of a query without a refusal names a column that is there, and that the plan names

pub in_row : (n : ℕ) (i : Item) → ItemReads (λ x. x < n) i → IsInRow i n
in_row n CountAll r = tt
in_row n (Count x) r = r
in_row n (Sum x) r = r
in_row n (Min x) r = r
in_row n (Max x) r = r
in_row n (Key j) r = tt

-- a column that a place names is a member
pub named_here : (columns : List Column) (ps : List Place) → length columns ≤ 16 → AllByRecursion (λ (p : Place). column_of columns p.0 < length columns) ps
    → AllByRecursion (λ (p : Place). has (named_columns columns ps) (column_of columns p.0) ≡ true) ps
named_here columns [] few known = tt
named_here columns (p ∷ ps) few known = each (p ∷ ps) known (λ x h. h) where
  member : (x : ℕ) → x < length columns → is_named columns (p ∷ ps) x ≡ true → has (numbers_below (is_named columns (p ∷ ps)) 16) x ≡ true
  member x inside named = has-numbers (is_named columns (p ∷ ps)) 16 x ∙ rw (lt-ltb x 16 (omega arith)) named

  each : (rest : List Place) → AllByRecursion (λ (r : Place). column_of columns r.0 < length columns) rest → ((x : ℕ) → is_named columns rest x ≡ true → is_named columns (p ∷ ps) x ≡ true)
      → AllByRecursion (λ (r : Place). has (numbers_below (is_named columns (p ∷ ps)) 16) (column_of columns r.0) ≡ true) rest
  each [] k some = tt
  each (r ∷ rest) k some = (
    member (column_of columns r.0) k.0 (some (column_of columns r.0) (rw (eq-eqb (column_of columns r.0) (column_of columns r.0) refl) refl)),
    each rest k.1 (λ x h. some x (rw h (or-true (x == column_of columns r.0)))),
  )

known_all : (columns : List Column) (ps : List Place) → find (is_unknown columns) ps ≡ None → AllByRecursion (λ (p : Place). column_of columns p.0 < length columns) ps
known_all columns [] e = tt
known_all columns (p ∷ ps) e = elim (cases_Bool (is_unknown columns p)) [
  | inl so ↦ let no : Some p ≡ None = rw so at e in absurd (cc)
  | inr not ↦ let rest : find (is_unknown columns) ps ≡ None = rw not at e in (known columns p.0 not, known_all columns ps rest)
]

named_below : (columns : List Column) (ps : List Place) (x : ℕ) → AllByRecursion (λ (p : Place). column_of columns p.0 < length columns) ps → is_named columns ps x ≡ true → x < length columns
named_below columns [] x k named = absurd (false≢true named)
named_below columns (p ∷ ps) x k named = elim (cases_Bool (x == column_of columns p.0)) [
  | inl so ↦ let e : x ≡ column_of columns p.0 = eqb-true x (column_of columns p.0) so in omega (arith, e, k.0)
  | inr not ↦ let rest : is_named columns ps x ≡ true = rw not at named in named_below columns ps x k.1 rest
]

all_below : (P : ℕ → Type 0) (test : ℕ → Bool) (n : ℕ) → ((x : ℕ) → test x ≡ true → P x) → All P (numbers_below test n)
unfolding numbers_below
all_below P test zero each = All-from_recursion P [] tt
all_below P test (suc n) each = elim (cases_Bool (test n)) [
  | inl so ↦ rw so (All-append P (numbers_below test n) (n ∷ []) (all_below P test n each) (All-from_recursion P (n ∷ []) (each n so, tt)))
  | inr not ↦ rw not (all_below P test n each)
]

columns_below : (columns : List Column) (ps : List Place) → AllByRecursion (λ (p : Place). column_of columns p.0 < length columns) ps → 0 < length columns → All (λ x. x < length columns) (named_columns columns ps)
columns_below columns [] k some = All-from_recursion (λ x. x < length columns) (0 ∷ []) (some, tt)
columns_below columns (p ∷ ps) k some = all_below (λ x. x < length columns) (is_named columns (p ∷ ps)) 16 (λ x named. named_below columns (p ∷ ps) x k named)

pub reads_its_columns : (columns : List Column) (dicts : List (List (List ℕ))) (q : QueryTree) (p : Plan) → length columns ≤ 16 → refusal_of columns q ≡ None → IsPlanOf columns q p → IsBound columns dicts q.cond p.cond
    → ReadsItsColumns (length columns) p
reads_its_columns columns dicts q p few passes is bound =
    let n = length columns in
    let known = known_all columns (places q) (no_wrong columns q passes).0 in
    let inside = plan_reads columns dicts (λ x. x < n) q p is bound known in
    let Named : List ℕ → Type 0 = λ cs. Reads (λ x. has cs x ≡ true) p in
    let Below : List ℕ → Type 0 = λ cs. All (λ x. x < n) cs in
    record {
      reads = subst Named (sym is.named) (plan_reads columns dicts (λ x. has (named_columns columns (places q)) x ≡ true) q p is bound (named_here columns (places q) few known));
      groups_in = record { items_in = All-weaker (ItemReads (λ x. x < n)) (λ i. IsInRow i n) (λ i r. in_row n i r) p.items.items inside.items; keys_in = inside.keys };
      rows_in = inside.rows;
      columns_in = λ some. subst Below (sym is.named) (columns_below columns (places q) known some);
    }

pub bound_reads : (columns : List Column) (dicts : List (List (List ℕ))) (q : QueryTree) (r : Result Plan BindRefusal) → length columns ≤ 16 → Judges r (refusal_of columns q) → IfOk r (λ p. IsPlanOf columns q p)
    → IfOk r (λ p. IsBound columns dicts q.cond p.cond) → IfOk r (λ p. ReadsItsColumns (length columns) p)
bound_reads columns dicts q (Ok p) few passes is bound = reads_its_columns columns dicts q p few passes is bound
bound_reads columns dicts q (Err e) few passes is bound = tt
