-- The running value of an item: what is kept of the rows of a group, and what it shows.
use Rattle.std.specs.Prelude.{◌≡◌, ◌≤◌, ◌<◌, ℕ, ◌+◌, ◌*◌, ◌^◌, ◌==◌, true, if◌then◌else◌, List}
use Rattle.std.specs.Prelude.{[], ◌∷◌, length, map, Option, Some, None, ℤ, pos, neg_ℤ, ◌+ℤ◌, ◌≤ℤ◌}
use Rattle.table_core.specs.declared.cell.Cell.{Cell}
use Rattle.table_core.specs.declared.cell.Cell.TheVariants.{Null, Int}
use Rattle.query_meaning.specs.declared.item.Item.{Item}
use Rattle.query_meaning.specs.declared.item.Item.TheVariants.{CountAll, Count, Sum, Min, Max, Key}
use Rattle.agg_groups.specs.declared.running.Running.{Running}
use Rattle.agg_groups.specs.declared.running.Running.TheVariants as running
use Rattle.query_meaning.specs.Cells.{codes, is_value, int_of}
use Rattle.query_meaning.specs.Meaning.{cell, values, total, least, greatest, lesser, greater, fits}

-- what is kept of the rows of a group
abbrev pub running_of : List (List Cell) → Item → Running
running_of rows CountAll = running.Count (length rows)
running_of rows (Count x) = running.Count (length (values codes x rows))
running_of rows (Sum x) = running.Sum (length (values codes x rows)) (total codes (values codes x rows))
running_of rows (Min x) = running.Best (least codes (values codes x rows))
running_of rows (Max x) = running.Best (greatest codes (values codes x rows))
running_of rows (Key j) = running.Nothing

abbrev pub runnings : List Item → List (List Cell) → List Running
runnings items rows = map (running_of rows) items

-- the cell of an item in the result row of the key q
abbrev pub shown : List Cell → Item → Running → Cell
shown q (Key j) r = cell codes q j
shown q i (running.Count n) = Int (pos n)
shown q i (running.Sum n t) = if n == 0 then Null else Int t
shown q i (running.Best c) = c
shown q i running.Nothing = Null

abbrev pub all_shown : List Cell → List Item → List Running → List Cell
all_shown q [] rs = []
all_shown q (i ∷ items) [] = []
all_shown q (i ∷ items) (r ∷ rs) = shown q i r ∷ all_shown q items rs

-- the first sum that is no whole number of 64 bits, with its item; the first item has the number n
abbrev pub over_shown : ℕ → List Running → Option (ℕ × ℤ)
over_shown n [] = None
over_shown n (running.Sum m t ∷ rs) = if fits t then over_shown (n + 1) rs else Some (n, t)
over_shown n (running.Count m ∷ rs) = over_shown (n + 1) rs
over_shown n (running.Best c ∷ rs) = over_shown (n + 1) rs
over_shown n (running.Nothing ∷ rs) = over_shown (n + 1) rs

-- the cell of a row that an item reads, NULL where it reads none
abbrev pub cell_of : Item → List Cell → Cell
cell_of CountAll row = Null
cell_of (Count x) row = cell codes row x
cell_of (Sum x) row = cell codes row x
cell_of (Min x) row = cell codes row x
cell_of (Max x) row = cell codes row x
cell_of (Key j) row = Null

-- the value with one more cell
abbrev pub next_of : Item → Cell → Running → Running
next_of CountAll c (running.Count n) = running.Count (n + 1)
next_of (Count x) c (running.Count n) = if is_value c then running.Count (n + 1) else running.Count n
next_of (Sum x) c (running.Sum n t) = if is_value c then running.Sum (n + 1) (t +ℤ int_of c) else running.Sum n t
next_of (Min x) c (running.Best b) = if is_value c then running.Best (lesser codes b c) else running.Best b
next_of (Max x) c (running.Best b) = if is_value c then running.Best (greater codes b c) else running.Best b
next_of _ c r = r

-- the value with one more row
abbrev pub next : Item → List Cell → Running → Running
next i row r = next_of i (cell_of i row) r

abbrev pub nexts : List Item → List Cell → List Running → List Running
nexts [] row rs = []
nexts (i ∷ items) row [] = []
nexts (i ∷ items) row (r ∷ rs) = next i row r ∷ nexts items row rs

-- the value over two lists of rows
abbrev pub join : Running → Running → Item → Running
join (running.Count m) (running.Count n) i = running.Count (m + n)
join (running.Sum m s) (running.Sum n t) i = running.Sum (m + n) (s +ℤ t)
join (running.Best a) (running.Best b) (Min x) = running.Best (lesser codes a b)
join (running.Best a) (running.Best b) i = running.Best (greater codes a b)
join a b i = a

abbrev pub joins : List Item → List Running → List Running → List Running
joins [] rs ss = []
joins (i ∷ items) [] ss = []
joins (i ∷ items) (r ∷ rs) [] = []
joins (i ∷ items) (r ∷ rs) (s ∷ ss) = join r s i ∷ joins items rs ss

-- a running value over at most n rows
abbrev pub HasRoom : ℕ → Running → Type 0
HasRoom n (running.Count m) = m ≤ n
HasRoom n (running.Sum m t) = (m ≤ n) × (neg_ℤ (pos (n * 2 ^ 63)) ≤ℤ t) × (t ≤ℤ pos (n * 2 ^ 63))
HasRoom n (running.Best c) = Unit {0}
HasRoom n running.Nothing = Unit {0}

-- a value whose cell can be written
abbrev pub FitsCell : Running → Type 0
FitsCell (running.Count n) = n < 2 ^ 63
FitsCell (running.Sum n t) = fits t ≡ true
FitsCell (running.Best c) = Unit {0}
FitsCell running.Nothing = Unit {0}
