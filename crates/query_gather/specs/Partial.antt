-- What a query's scan gathers, and the rows that it stands for.
use Rattle.std.specs.Prelude.{◌≡◌, ◌<◌, ◌+◌, ◌++◌, ℕ, false, List, [], ◌∷◌, map, filter, Option, Some, None}
use Rattle.table_core.specs.declared.cell.Cell.{Cell}
use Rattle.row_blocks.specs.Blocks.{BlockView, row_at}
use Rattle.filter_zones.specs.declared.cond.Cond.{Cond}
use Rattle.filter_zones.specs.Truth as condition
use Rattle.agg_groups.specs.Groups as groups
use Rattle.query_meaning.specs.Places.{NamesPlaces}
use Rattle.top_rows.specs.Top as top
use Rattle.query_meaning.specs.Rows.{Numbered, AreApart, has_number}
use Rattle.sql_bind.specs.declared.plan.Plan.{Plan}
use Rattle.sql_bind.specs.Meaning.{matches}
use Rattle.query_gather.specs.declared.partial.Partial.{Partial}
use Rattle.query_gather.specs.declared.partial.Partial.TheVariants.{Groups, Top}

-- rows without their numbers
abbrev pub unnumbered : List (Numbered Cell) → List (List Cell)
unnumbered rows = map (λ (r : Numbered Cell). r.1) rows

-- the numbered rows of which the plan's condition is true
abbrev pub matching : Plan → List (Numbered Cell) → List (Numbered Cell)
matching p rows = filter (λ (r : Numbered Cell). matches p.cond r.1) rows

-- first rows for a plan that asks for some, and else groups of its items and key columns
abbrev pub FitsPlan : Plan → Partial → Type 0
FitsPlan p (Groups g) = (p.rows ≡ None) × (g.items ≡ p.items.items) × (g.keys ≡ p.keys.items)
FitsPlan p (Top t) = p.rows ≡ Some t.plan

-- what is gathered stands for these rows, in whatever order they came
abbrev pub Stands : Partial → List (Numbered Cell) → Type 0
Stands (Groups g) rows = groups.StandsInSomeOrder g (unnumbered rows)
Stands (Top t) rows = top.StandsInSomeOrder t rows

-- no row that is gathered has this number; groups know no numbers
abbrev pub IsNew : Partial → List (Numbered Cell) → ℕ → Type 0
IsNew (Groups g) rows n = Unit {0}
IsNew (Top t) rows n = has_number rows n ≡ false

-- the number of each row is below n
abbrev pub AreBelow : ℕ → List (Numbered Cell) → Type 0
AreBelow n [] = Unit {0}
AreBelow n (r ∷ rows) = (r.0 < n) × AreBelow n rows

-- no row is in both lists; groups know no numbers
abbrev pub MayJoin : Partial → List (Numbered Cell) → List (Numbered Cell) → Type 0
MayJoin (Groups g) rows more = Unit {0}
MayJoin (Top t) rows more = AreApart rows more

-- the columns of the items and of the keys are places of a row of so many cells; first rows take any row
abbrev pub HasPlaces : Partial → ℕ → Type 0
HasPlaces (Groups g) width = NamesPlaces g.items g.keys width
HasPlaces (Top t) width = Unit {0}

-- how many rows are counted: first rows count none
abbrev pub row_count : Partial → ℕ
row_count (Groups g) = g.rows
row_count (Top t) = 0

abbrev pub rows_of_all : List Partial → ℕ
rows_of_all [] = 0
rows_of_all (p ∷ ps) = row_count p + rows_of_all ps

-- both can fit one plan
abbrev pub IsAlike : Partial → Partial → Type 0
IsAlike (Groups g) (Groups h) = (h.items ≡ g.items) × (h.keys ≡ g.keys)
IsAlike (Top t) (Top u) = u.plan ≡ t.plan
IsAlike _ _ = ⊥

-- each stands for its own list
abbrev pub StandForEach : List Partial → List (List (Numbered Cell)) → Type 0
StandForEach [] [] = Unit {0}
StandForEach (p ∷ ps) (rows ∷ lists) = Stands p rows × StandForEach ps lists
StandForEach _ _ = ⊥

-- lists joined in order
abbrev pub joined : List (List (Numbered Cell)) → List (Numbered Cell)
joined [] = []
joined (rows ∷ lists) = rows ++ joined lists

-- of the first list and the others no two share a row
abbrev pub MayJoinAll : Partial → List (Numbered Cell) → List (List (Numbered Cell)) → Type 0
MayJoinAll p rows [] = Unit {0}
MayJoinAll p rows (more ∷ lists) = MayJoin p rows more × MayJoinAll p (rows ++ more) lists

-- the condition fits the row, where there is one
abbrev pub FitsCond : Option Cond → List Cell → Type 0
FitsCond None row = Unit {0}
FitsCond (Some c) row = condition.FitsRow c row

-- the columns of the items and of the keys are places of a row of so many cells
abbrev pub FitsWidth : Plan → ℕ → Type 0
FitsWidth p width = NamesPlaces p.items.items p.keys.items width

-- the condition fits each row of a block, where there is one
abbrev pub FitsCondOver : Option Cond → BlockView → Type 0
FitsCondOver c b = (i : ℕ) → i < b.count → FitsCond c (row_at b i)
