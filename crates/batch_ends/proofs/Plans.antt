-- The plan of a statement is one over its table, and names a column.
use Rattle.std.proofs.Common.{◌≡◌, ◌∙◌, ◌<◌, ◌++◌, ◌∷◌, ℕ, true, List, [], length, map, arith, refl, sym, ap, subst, inl, inr}
use Rattle.std.specs.Prelude.{◌⊎◌, Option, None, Some, option_map, All}
use Rattle.std.specs.List.{AllByRecursion, flat_map}
use Rattle.std.proofs.lemmas.Bool.{false≢true}
use Rattle.std.proofs.lemmas.List.Elements.{recursion_from_All}
use Rattle.table_sets.specs.Sets.{has}
use Rattle.table_core.specs.declared.schema.Column.{Column}
use Rattle.filter_zones.specs.declared.cond.Cond.{Cond}
use Rattle.filter_zones.specs.declared.cond.Cond.TheVariants as cond
use Rattle.query_meaning.specs.Meaning.{first_some, or_else}
use Rattle.query_meaning.specs.declared.item.Item.{Item}
use Rattle.query_meaning.specs.Rows.{RowQuery}
use Rattle.sql_text.specs.Grammar.{QueryText, QueryTree, Tree, groups, query_tree, rows}
use Rattle.sql_text.specs.declared.query.QItem.{QItem}
use Rattle.sql_text.specs.declared.query.QItem.TheVariants as item
use Rattle.sql_bind.specs.Bounds.{HasTruth, IsBound}
use Rattle.sql_bind.specs.Names.{column_of}
use Rattle.sql_bind.specs.Places.{item_places, key_place, order_place, places, where_places}
use Rattle.sql_bind.specs.Plans.{IsPlanOf, columns_of, item_of, items_of, named_columns, plain_column, row_query, without_limit}
use Rattle.sql_bind.specs.Reads.{CondReads, ItemReads, Reads, SomeRowsRead, WhereReads}
use Rattle.sql_bind.specs.Refusals.{first_wrong, not_grouped, plain_outside, refusal_of, unknown_table}
use Rattle.sql_bind.specs.Statements.{IsPlanFor}
use Rattle.sql_bind.specs.declared.judging.Wrong.TheVariants as wrong
use Rattle.sql_bind.specs.declared.plan.Plan.{Plan}
use Rattle.sql_bind.specs.declared.refusal.BindRefusal.{BindRefusal}
use Rattle.sql_bind.specs.declared.refusal.BindRefusal.TheVariants as refusal
use Rattle.batch_ends.specs.Tasks.{FitsWhere, IsPlanOfTable}

no_first : (xs : List ℕ) (x : ℕ) → [] ≡ x ∷ xs → ⊥
no_first xs x e = let n = ap length e in omega (arith, n)

-- ---- a plan that reads no column

module _ (P : ℕ → Type 0) (none : (x : ℕ) → P x → ⊥) (columns : List Column) where
  no_cond : (c : Cond) → CondReads P c → ⊥
  no_cond (cond.Compare x o v) reads = none x reads
  no_cond (cond.IsNull x negated) reads = none x reads
  no_cond (cond.And' p a q b) reads = no_cond a reads.0
  no_cond (cond.Or' p a q b) reads = no_cond a reads.0
  no_cond (cond.Not' p a) reads = no_cond a reads

  no_where : (dicts : List (List (List ℕ))) (t : Option Tree) (c : Option Cond) → IsBound columns dicts t c → WhereReads P c → where_places t ≡ []
  no_where dicts None c is reads = refl
  no_where dicts (Some t) None is reads = absurd is
  no_where dicts (Some t) (Some c) is reads = absurd (no_cond c reads)

  no_keys : (names : List (List ℕ)) → AllByRecursion P (columns_of columns names) → names ≡ []
  no_keys [] reads = refl
  no_keys (c ∷ names) reads = absurd (none (column_of columns c) reads.0)

  no_items : (items : List QItem) → AllByRecursion (ItemReads P) (map (item_of columns []) items) → first_some (plain_outside columns []) items ≡ None → flat_map item_places items ≡ []
  no_items [] reads grouped = refl
  no_items (item.CountAll ∷ items) reads grouped = no_items items reads.1 grouped
  no_items (item.Count c ∷ items) reads grouped = absurd (none (column_of columns c) reads.0)
  no_items (item.Sum c ∷ items) reads grouped = absurd (none (column_of columns c) reads.0)
  no_items (item.Min c ∷ items) reads grouped = absurd (none (column_of columns c) reads.0)
  no_items (item.Max c ∷ items) reads grouped = absurd (none (column_of columns c) reads.0)
  no_items (item.Plain c ∷ items) reads grouped = absurd (cc)

-- a query has no limit and no order, or a limit and a first item that is a plain column
abbrev HasForm : QueryTree → Type 0
HasForm q = ((q.limit ≡ None) × (q.order ≡ [])) ⊎ ((n : ℕ) × (c : List ℕ) × (rest : List QItem) × (q.limit ≡ Some n) × (q.items ≡ item.Plain c ∷ rest))

form_of : (x : QueryText) → HasForm (query_tree x)
form_of (groups l t w k) = inl (refl, refl)
form_of (rows l t w o n) = inr (n, l.0, map item.Plain l.1, refl, refl)

-- a query that isn't refused has no plain item outside its key columns
second : (a b : Option BindRefusal) → or_else a b ≡ None → b ≡ None
second None b e = e
second (Some r) b e = absurd (cc)

none_mapped : (o : Option (List ℕ)) → option_map refusal.NotGrouped o ≡ None → o ≡ None
none_mapped None e = refl
none_mapped (Some name) e = absurd (cc)

all_grouped : (columns : List Column) (q : QueryTree) → refusal_of columns q ≡ None → not_grouped columns (map (column_of columns) q.keys) q.items q.limit ≡ None
all_grouped columns q passes =
    let grouped = option_map refusal.NotGrouped (not_grouped columns (map (column_of columns) q.keys) q.items q.limit) in
    let kinds = option_map refusal.WrongKind (first_wrong wrong.Kind columns (places q)) in
    let names = option_map refusal.UnknownColumn (first_wrong wrong.Name columns (places q)) in
    none_mapped (not_grouped columns (map (column_of columns) q.keys) q.items q.limit)
    (second kinds grouped (second names (or_else kinds grouped) (second (option_map refusal.UnknownTable (unknown_table q.table)) (or_else names (or_else kinds grouped)) passes)))

module _ (columns : List Column) (dicts : List (List (List ℕ))) (q : QueryTree) (p : Plan) (is : IsPlanOf columns q p) (bound : IsBound columns dicts q.cond p.cond) (passes : refusal_of columns q ≡ None) where
  module _ (P : ℕ → Type 0) (none : (x : ℕ) → P x → ⊥) (reads : Reads P p) where
    no_places : (q.limit ≡ None) → (q.order ≡ []) → places q ≡ []
    no_places unlimited unordered =
        let Keys = λ (ks : List ℕ). All P ks in
        let Items = λ (is : List Item). All (ItemReads P) is in
        let keys_are : p.keys.items ≡ columns_of columns q.keys = is.keys ∙ ap (λ o. without_limit o (columns_of columns q.keys)) unlimited in
        let keys : q.keys ≡ [] = no_keys P none columns q.keys (recursion_from_All P (columns_of columns q.keys) (subst Keys keys_are reads.keys)) in
        let items_are : p.items.items ≡ map (item_of columns []) q.items =
        is.items ∙ ap (λ o. without_limit o (items_of columns q)) unlimited ∙ ap (λ (ks : List (List ℕ)). map (item_of columns (columns_of columns ks)) q.items) keys in
        let grouped : first_some (plain_outside columns []) q.items ≡ None =
        sym (ap (λ o. not_grouped columns (map (column_of columns) q.keys) q.items o) unlimited ∙ ap (λ (ks : List (List ℕ)). first_some (plain_outside columns (map (column_of columns) ks)) q.items) keys) ∙ all_grouped columns q passes in
        ap (λ ps. ps ++ (where_places q.cond ++ (map key_place q.keys ++ map order_place q.order)))
        (no_items P none columns q.items (recursion_from_All (ItemReads P) (map (item_of columns []) q.items) (subst Items items_are reads.items)) grouped)
        ∙ ap (λ ps. ps ++ (map key_place q.keys ++ map order_place q.order)) (no_where P none columns dicts q.cond p.cond bound reads.cond)
        ∙ ap (λ ks. map key_place ks ++ map order_place q.order) keys ∙ ap (λ os. map order_place os) unordered

    no_rows : (n : ℕ) (c : List ℕ) (rest : List QItem) → q.limit ≡ Some n → q.items ≡ item.Plain c ∷ rest → ⊥
    no_rows n c rest limited first =
        let Rows = λ (r : Option RowQuery). SomeRowsRead P r in
        let Picked = λ (xs : List ℕ). All P xs in
        let read = subst Rows (is.rows ∙ ap (option_map (row_query columns q)) limited) reads.rows in
        let named = subst Picked (ap (flat_map (plain_column columns)) first) read.columns in
        none (column_of columns c) (recursion_from_All P (column_of columns c ∷ flat_map (plain_column columns) rest) named).0

    names_first : HasForm q → p.columns ≡ 0 ∷ []
    names_first (inl free) = is.named ∙ ap (named_columns columns) (no_places free.0 free.1)
    names_first (inr limited) = absurd (no_rows limited.0 limited.1 limited.2 limited.3 limited.4)

  names_some : HasForm q → (cs : List ℕ) → p.columns ≡ cs → Reads (λ x. has cs x ≡ true) p → 0 < length cs
  names_some form (x ∷ cs) same reads = omega arith
  names_some form [] same reads = absurd (no_first [] 0 (sym same ∙ names_first (λ x. has [] x ≡ true) (λ x is. false≢true is) reads form))

truth_fits : (columns : List Column) (dicts : List (List (List ℕ))) (t : Option Tree) (c : Option Cond) → HasTruth columns dicts t c → FitsWhere columns dicts c
truth_fits columns dicts t None has = tt
truth_fits columns dicts None (Some c) has = absurd has
truth_fits columns dicts (Some t) (Some c) has = has.1

pub plan_fits : (text : List ℕ) (columns : List Column) (dicts : List (List (List ℕ))) (p : Plan) → IsPlanFor text columns dicts p → IsPlanOfTable columns dicts p
plan_fits text columns dicts p is =
    let read = is.text.2.reads in
    let form = subst HasForm read.2 (form_of read.0) in
    record {
      reads = is.reads;
      some = names_some columns dicts is.query p is.plan is.cond is.passes form p.columns refl is.reads.reads;
      cond = truth_fits columns dicts is.query.cond p.cond is.truth;
    }
