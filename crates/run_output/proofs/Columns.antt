-- The columns in which the cells of a plan's result rows are read.
use Rattle.std.proofs.Common.{◌<◌, ℕ, zero, suc, List, [], ◌∷◌, length, sym, subst, inl, inr}
use Rattle.std.specs.Prelude.{All, Option, Some, None, slice_get, slice_index_or}
use Rattle.std.specs.List.{AllByRecursion}
use Rattle.std.proofs.Math.ListN.{get_or-eq_default}
use Rattle.std.proofs.lemmas.Bool.{cases_lt}
use Rattle.std.proofs.lemmas.List.Elements.{All-from_recursion, All-get_or, recursion_from_All}
use Rattle.table_core.specs.declared.schema.Column.{Column}
use Rattle.table_core.specs.Answer.{IsColumn}
use Rattle.query_meaning.specs.declared.item.Item.{Item}
use Rattle.query_meaning.specs.declared.item.Item.TheVariants.{CountAll, Count, Sum, Min, Max, Key}
use Rattle.query_meaning.specs.Places.{IsInRow}
use Rattle.query_meaning.specs.GroupText as groups_text
use Rattle.query_meaning.specs.RowText as rows_text
use Rattle.query_meaning.specs.Rows.{RowQuery}
use Rattle.sql_bind.specs.declared.plan.Plan.{Plan}
use Rattle.sql_bind.specs.Reads.{ReadsItsColumns, SomeRowsRead}
use Rattle.run_stops.specs.declared.outcome.Outcome.{Outcome}
use Rattle.run_stops.specs.declared.outcome.Outcome.TheVariants.{Planned, Refused}
use Rattle.run_output.specs.Answers.{NamesColumns, columns_where}
use Rattle.run_stops.specs.Outcomes.{ComeTo, plans_of}

-- a column at a place is one of so many, where each is
pub column_at : (n : ℕ) (cs : List (Option ℕ)) (i : ℕ) → All (IsColumn n) cs → IsColumn n (slice_index_or cs i None)
column_at n cs i all = elim (cases_lt i (length cs)) [
  | inl low ↦ All-get_or (IsColumn n) cs i None low all
  | inr high ↦ subst (IsColumn n) (sym (get_or-eq_default cs None high)) tt
]

key_column : (n : ℕ) (keys : List ℕ) (j : ℕ) → AllByRecursion (λ x. x < n) keys → IsColumn n (slice_get keys j)
key_column n [] j all = tt
key_column n (k ∷ keys) zero all = all.0
key_column n (k ∷ keys) (suc j) all = key_column n keys j all.1

item_column : (n : ℕ) (keys : List ℕ) (i : Item) → AllByRecursion (λ x. x < n) keys → IsInRow i n → IsColumn n (groups_text.column_of keys i)
item_column n keys CountAll all low = tt
item_column n keys (Count x) all low = tt
item_column n keys (Sum x) all low = low
item_column n keys (Min x) all low = low
item_column n keys (Max x) all low = low
item_column n keys (Key j) all low = key_column n keys j all

item_columns : (n : ℕ) (keys : List ℕ) (items : List Item) → AllByRecursion (λ x. x < n) keys → AllByRecursion (λ i. IsInRow i n) items → AllByRecursion (IsColumn n) (groups_text.columns_of keys items)
item_columns n keys [] all low = tt
item_columns n keys (i ∷ items) all low = (item_column n keys i all low.0, item_columns n keys items all low.1)

row_columns : (n : ℕ) (columns : List ℕ) → AllByRecursion (λ x. x < n) columns → AllByRecursion (IsColumn n) (rows_text.columns_of columns)
row_columns n [] low = tt
row_columns n (x ∷ columns) low = (low.0, row_columns n columns low.1)

-- a plan that reads its columns alone names columns of the table
plan_names : (n : ℕ) (p : Plan) → ReadsItsColumns n p → NamesColumns n p
plan_names n p reads = by p.rows reads.rows_in where
  by : (rows : Option RowQuery) → SomeRowsRead (λ x. x < n) rows → All (IsColumn n) (columns_where p rows)
  by None low = All-from_recursion (IsColumn n) (groups_text.columns_of p.keys.items p.items.items)
      (item_columns n p.keys.items p.items.items (recursion_from_All (λ x. x < n) p.keys.items reads.groups_in.keys_in) (recursion_from_All (λ i. IsInRow i n) p.items.items reads.groups_in.items_in))
  by (Some q) low = All-from_recursion (IsColumn n) (rows_text.columns_of q.columns) (row_columns n q.columns (recursion_from_All (λ x. x < n) q.columns low.columns))

pub names_columns : (columns : List Column) (dicts : List (List (List ℕ))) (texts : List (List ℕ)) (outcomes : List Outcome) → ComeTo columns dicts texts outcomes → AllByRecursion (NamesColumns (length columns)) (plans_of outcomes)
names_columns columns dicts [] [] come = tt
names_columns columns dicts [] (o ∷ outcomes) come = absurd come
names_columns columns dicts (text ∷ texts) [] come = absurd come
names_columns columns dicts (text ∷ texts) (Planned p ∷ outcomes) come = (plan_names (length columns) p come.0.reads, names_columns columns dicts texts outcomes come.1)
names_columns columns dicts (text ∷ texts) (Refused why ∷ outcomes) come = names_columns columns dicts texts outcomes come.1
