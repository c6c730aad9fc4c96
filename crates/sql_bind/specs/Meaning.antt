-- WHAT A QUERY MEANS over rows of values, and what a plan means over rows of cells.
use Rattle.std.specs.Prelude.{◌≡◌, ◌+◌, ℕ, Bool, true, List, [], ◌∷◌, map, filter, All, Option, Some, None, ℤ}
use Rattle.table_core.specs.Fitting.{FitsRow}
use Rattle.table_core.specs.Value.{Value, row_values}
use Rattle.table_core.specs.declared.cell.Cell.{Cell}
use Rattle.table_core.specs.declared.schema.Column.{Column}
use Rattle.filter_zones.specs.Truth.{truth_of}
use Rattle.filter_zones.specs.declared.cond.Cond.{Cond}
pub use Rattle.filter_zones.specs.Truths.{is_true}
use Rattle.table_core.specs.Answer.{values_of, AreCellsOf}
use Rattle.query_meaning.specs.Cells.{codes}
use Rattle.query_meaning.specs.Meaning.{meaning, overflow}
use Rattle.query_meaning.specs.GroupText as groups_text
use Rattle.query_meaning.specs.RowText as rows_text
use Rattle.query_meaning.specs.Rows.{RowQuery, Numbered, rows_meaning}
use Rattle.sql_bind.specs.Texts.{texts}
use Rattle.sql_text.specs.Grammar.{Tree, QueryTree}
use Rattle.sql_bind.specs.declared.plan.Plan.{Plan}
use Rattle.sql_bind.specs.Truth.{truth_over}
use Rattle.sql_bind.specs.Plans.{columns_of, items_of, row_query}

-- rows with their numbers, the first one with this number
abbrev pub numbered : {C : Type 0} → ℕ → List (List C) → List (Numbered C)
numbered n [] = []
numbered n (row ∷ rows) = (n, row) ∷ numbered (n + 1) rows

-- ---- a query over rows of values

-- whether a row matches: the condition is true of it, or there is none
abbrev pub matches_query : List Column → Option Tree → List Value → Bool
matches_query columns None row = true
matches_query columns (Some t) row = is_true (truth_over columns t row)

-- the result rows of a query without a limit, in key order
abbrev pub query_meaning : List Column → QueryTree → List (List Value) → List (List Value)
query_meaning columns q rows = meaning texts (items_of columns q) (columns_of columns q.keys)
    (filter (matches_query columns q.cond) rows)

-- the first sum that is no whole number of 64 bits, with its item
abbrev pub query_overflow : List Column → QueryTree → List (List Value) → Option (ℕ × ℤ)
query_overflow columns q rows = overflow texts (items_of columns q) (columns_of columns q.keys)
    (filter (matches_query columns q.cond) rows)

-- the rows that answer a query with this limit, in its order
abbrev pub query_rows : List Column → QueryTree → ℕ → List (List Value) → List (List Value)
query_rows columns q limit rows = rows_meaning texts (row_query columns q limit)
    (filter (λ (r : Numbered Value). matches_query columns q.cond r.1) (numbered 0 rows))

-- ---- a plan over rows of cells

abbrev pub matches : Option Cond → List Cell → Bool
matches None row = true
matches (Some c) row = is_true (truth_of c row)

abbrev pub plan_meaning : Plan → List (List Cell) → List (List Cell)
plan_meaning p rows = meaning codes p.items.items p.keys.items (filter (matches p.cond) rows)

abbrev pub plan_overflow : Plan → List (List Cell) → Option (ℕ × ℤ)
plan_overflow p rows = overflow codes p.items.items p.keys.items (filter (matches p.cond) rows)

abbrev pub plan_rows : Plan → RowQuery → List (List Cell) → List (List Cell)
plan_rows p r rows = rows_meaning codes r (filter (λ (row : Numbered Cell). matches p.cond row.1) (numbered 0 rows))

-- ---- the plan means what the query means

-- the cells of result rows, read in their columns' dictionaries
abbrev pub result_values : List (List (List ℕ)) → Plan → List (List Cell) → List (List Value)
result_values dicts p rows = map (values_of dicts (groups_text.columns_of p.keys.items p.items.items)) rows

abbrev pub row_result_values : List (List (List ℕ)) → RowQuery → List (List Cell) → List (List Value)
row_result_values dicts r rows = map (values_of dicts (rows_text.columns_of r.columns)) rows

-- over rows that fit the columns the plan has the meaning, the overflow or the first rows that the query has over their
-- values
pub record MeansQuery (columns : List Column) (dicts : List (List (List ℕ))) (q : QueryTree) (p : Plan) : Type 0 where
  pub meaning : (rows : List (List Cell)) → q.limit ≡ None → All (FitsRow columns dicts) rows
      → result_values dicts p (plan_meaning p rows) ≡ query_meaning columns q (map (row_values dicts) rows)
  pub overflow : (rows : List (List Cell)) → q.limit ≡ None → All (FitsRow columns dicts) rows
      → plan_overflow p rows ≡ query_overflow columns q (map (row_values dicts) rows)
  pub first_rows : (rows : List (List Cell)) (limit : ℕ) (r : RowQuery) → q.limit ≡ Some limit → p.rows ≡ Some r
      → All (FitsRow columns dicts) rows
      → row_result_values dicts r (plan_rows p r rows) ≡ query_rows columns q limit (map (row_values dicts) rows)
  -- the cells of these answers can be read in the dictionaries of their columns
  pub readable : (rows : List (List Cell)) → All (FitsRow columns dicts) rows
      → All (AreCellsOf (groups_text.columns_of p.keys.items p.items.items) dicts) (plan_meaning p rows)
  pub readable_rows : (rows : List (List Cell)) (r : RowQuery) → p.rows ≡ Some r → All (FitsRow columns dicts) rows
      → All (AreCellsOf (rows_text.columns_of r.columns) dicts) (plan_rows p r rows)
