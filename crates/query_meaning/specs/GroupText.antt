-- In which columns the cells of result rows are read.
use Rattle.std.specs.Prelude.{ℕ, List, map, Option, Some, None, slice_get}
use Rattle.query_meaning.specs.declared.item.Item.{Item}
use Rattle.query_meaning.specs.declared.item.Item.TheVariants.{CountAll, Count, Sum, Min, Max, Key}

-- the column in which an item's cell is read: a count has none
abbrev pub column_of : List ℕ → Item → Option ℕ
column_of keys CountAll = None
column_of keys (Count x) = None
column_of keys (Sum x) = Some x
column_of keys (Min x) = Some x
column_of keys (Max x) = Some x
column_of keys (Key j) = slice_get keys j

abbrev pub columns_of : List ℕ → List Item → List (Option ℕ)
columns_of keys items = map (column_of keys) items
