-- Kept groups, and the lists of rows that they stand for.
use Rattle.std.specs.Prelude.{◌≡◌, ℕ, List, length, map, Option, Some, ℤ, All, Contains, IsPermutation}
use Rattle.agg_groups.specs.declared.rows.FinishFault.{FinishFault}
use Rattle.agg_groups.specs.declared.rows.FinishFault.TheVariants as fault
use Rattle.table_core.specs.declared.cell.Cell.{Cell}
use Rattle.query_meaning.specs.declared.item.Item.{Item}
use Rattle.agg_groups.specs.declared.running.Running.{Running}
use Rattle.query_meaning.specs.Cells.{codes}
use Rattle.query_meaning.specs.Meaning.{key_of, keys_of, group}
use Rattle.agg_groups.specs.Running.{runnings}

-- a group: its key and the running values of the items
abbrev pub Group : Type 0
Group = List Cell × List Running

-- what is kept: the items, the key columns, the number of rows, and the groups in key order
pub record Kept : Type 0 where
  pub items : List Item
  pub keys : List ℕ
  pub rows : ℕ
  pub groups : List Group

-- the groups of a list of rows: for each key, in key order, the running values of its rows
abbrev pub groups_of : List Item → List ℕ → List (List Cell) → List Group
groups_of items keys rows = map (λ q. (q, runnings items (group codes keys q rows))) (keys_of codes keys rows)

-- the groups stand for these rows
pub record Stands (g : Kept) (rows : List (List Cell)) : Type 0 where
  pub count : g.rows ≡ length rows
  pub groups : g.groups ≡ groups_of g.items g.keys rows

-- a row of this key was met before: one of the groups has it
abbrev pub IsKnown : Kept → List Cell → Type 0
IsKnown g key = Contains (map (λ (h : Group). h.0) g.groups) key

-- a row of the key of each of these rows was met before
abbrev pub KnowsAll : Kept → List (List Cell) → Type 0
KnowsAll g rows = All (λ row. IsKnown g (key_of codes g.keys row)) rows

-- the groups stand for these rows in some order
pub record StandsInSomeOrder (g : Kept) (rows : List (List Cell)) : Type 0 where
  pub order : List (List Cell)
  pub stands : Stands g order
  pub same : IsPermutation order rows

-- what a refusal says of the overflow: out of memory says nothing
abbrev pub IsFault : FinishFault → Option (ℕ × ℤ) → Type 0
IsFault (fault.SumOverflow item total) o = o ≡ Some (item, total)
IsFault fault.Memory o = Unit {0}
