-- A query with its names as columns.
use Rattle.std.specs.Prelude.{◌≡◌, ℕ, suc, Bool, if◌then◌else◌, ◌==◌, List}
use Rattle.std.specs.Prelude.{[], ◌∷◌, map, Option, Some, None, option_map}
use Rattle.std.specs.List.{flat_map, list_any}
use Rattle.table_sets.specs.Sets.{numbers_below}
use Rattle.table_sets.specs.declared.limits.TheConstants.{MOST_COLUMNS}
use Rattle.table_core.specs.declared.schema.Column.{Column}
use Rattle.query_meaning.specs.declared.item.Item.{Item}
use Rattle.query_meaning.specs.declared.item.Item.TheVariants.{CountAll, Count, Sum, Min, Max, Key}
use Rattle.query_meaning.specs.declared.order.Order.{Order}
use Rattle.query_meaning.specs.Rows.{RowQuery}
use Rattle.sql_text.specs.declared.query.QItem.{QItem}
use Rattle.sql_text.specs.declared.query.QItem.TheVariants as item
use Rattle.sql_text.specs.declared.query.QOrder.{QOrder}
use Rattle.sql_text.specs.Grammar.{QueryTree}
use Rattle.sql_bind.specs.Names.{column_of}
use Rattle.sql_bind.specs.Places.{Place, places}
use Rattle.sql_bind.specs.declared.plan.Plan.{Plan}

-- the place of a column among key columns; where it is none, how many they are
abbrev pub place_of : List ℕ → ℕ → ℕ
place_of [] x = 0
place_of (k ∷ keys) x = if k == x then 0 else suc (place_of keys x)

-- an item over these key columns; a plain one is the value of its key column
abbrev pub item_of : List Column → List ℕ → QItem → Item
item_of columns keys item.CountAll = CountAll
item_of columns keys (item.Count c) = Count (column_of columns c)
item_of columns keys (item.Sum c) = Sum (column_of columns c)
item_of columns keys (item.Min c) = Min (column_of columns c)
item_of columns keys (item.Max c) = Max (column_of columns c)
item_of columns keys (item.Plain c) = Key (place_of keys (column_of columns c))

-- the columns of some names
abbrev pub columns_of : List Column → List (List ℕ) → List ℕ
columns_of columns names = map (column_of columns) names

-- the items of a query without a limit
abbrev pub items_of : List Column → QueryTree → List Item
items_of columns q = map (item_of columns (columns_of columns q.keys)) q.items

-- the column of a plain item
abbrev pub plain_column : List Column → QItem → List ℕ
plain_column columns (item.Plain c) = column_of columns c ∷ []
plain_column columns _ = []

abbrev pub order_of : List Column → QOrder → Order
order_of columns o = record { column = column_of columns o.column; descending = o.descending }

-- what a query with a limit asks for
abbrev pub row_query : List Column → QueryTree → ℕ → RowQuery
row_query columns q limit = record {
  columns = flat_map (plain_column columns) q.items;
  order = map (order_of columns) q.order;
  limit = limit;
}

-- some place names the column
abbrev pub is_named : List Column → List Place → ℕ → Bool
is_named columns ps x = list_any (λ p. x == column_of columns p.0) ps

-- the columns that the places name; column 0 alone where there is no place
abbrev pub named_columns : List Column → List Place → List ℕ
named_columns columns [] = 0 ∷ []
named_columns columns (p ∷ ps) = numbers_below (is_named columns (p ∷ ps)) MOST_COLUMNS

-- a query with a limit has no items and no key columns
abbrev pub without_limit : {A : Type 0} → Option ℕ → List A → List A
without_limit None xs = xs
without_limit (Some limit) xs = []

-- the plan has the query's items and key columns, the columns that it names, and what it asks for where it has a limit
pub record IsPlanOf (columns : List Column) (q : QueryTree) (p : Plan) : Type 0 where
  pub items : p.items.items ≡ without_limit q.limit (items_of columns q)
  pub keys : p.keys.items ≡ without_limit q.limit (columns_of columns q.keys)
  pub named : p.columns ≡ named_columns columns (places q)
  pub rows : p.rows ≡ option_map (row_query columns q) q.limit
