-- The columns that a groups query names.
use Rattle.std.specs.Prelude.{◌<◌, ℕ, List, All}
use Rattle.query_meaning.specs.declared.item.Item.{Item}
use Rattle.query_meaning.specs.declared.item.Item.TheVariants.{CountAll, Count, Sum, Min, Max, Key}

-- the column of an item is one of so many
abbrev pub IsInRow : Item → ℕ → Type 0
IsInRow CountAll width = Unit {0}
IsInRow (Count x) width = x < width
IsInRow (Sum x) width = x < width
IsInRow (Min x) width = x < width
IsInRow (Max x) width = x < width
IsInRow (Key j) width = Unit {0}

-- each column that the items and the key columns name is one of so many
pub record NamesPlaces (items : List Item) (keys : List ℕ) (width : ℕ) : Type 0 where
  pub items_in : All (λ i. IsInRow i width) items
  pub keys_in : All (λ x. x < width) keys
