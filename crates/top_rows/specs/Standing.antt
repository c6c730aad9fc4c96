-- Where a row stands among others: its cells in the orders, those of descending ones turned round, and its number.
use Rattle.std.specs.Prelude.{◌≡◌, List, [], ◌∷◌, map, if◌then◌else◌, Vec}
use Rattle.std.specs.Global.{Global}
use Rattle.std.specs.Ordering.{ordering_then, nat_cmp}
use Rattle.std.specs.Cmp.Lexicographic.{slice_cmp}
use Rattle.std.specs.declared.cmp.Ordering.{Ordering}
use Rattle.std.specs.declared.cmp.Ordering.TheVariants.{Less, Greater}
use Rattle.table_core.specs.declared.cell.Cell.{Cell}
use Rattle.table_core.specs.Cell.{cell_cmp}
use Rattle.query_meaning.specs.Cells.{codes}
use Rattle.query_meaning.specs.Meaning.{cell}
use Rattle.query_meaning.specs.declared.order.Order.{Order}
use Rattle.top_rows.specs.declared.standing.Place.{Place}
use Rattle.top_rows.specs.declared.standing.Place.TheVariants.{Up, Down}
use Rattle.top_rows.specs.declared.standing.Standing.{Standing}
use Rattle.query_meaning.specs.Rows.{Numbered}

-- how two places stand
abbrev pub place_cmp : Place → Place → Ordering
place_cmp (Up a) (Up b) = cell_cmp a b
place_cmp (Up a) (Down b) = Less
place_cmp (Down a) (Up b) = Greater
place_cmp (Down a) (Down b) = cell_cmp b.0 a.0

-- how two standings stand: by their places from left to right, then by their numbers
abbrev pub standing_cmp : Standing → Standing → Ordering
standing_cmp p q = ordering_then (slice_cmp place_cmp p.places.items q.places.items) (nat_cmp p.number q.number)

-- a row's place in an order
abbrev pub place_of : Order → List Cell → Place
place_of o row = if o.descending then Down (record { 0 = cell codes row o.column }) else Up (cell codes row o.column)

abbrev pub places_of : List Order → List Cell → List Place
places_of orders row = map (λ o. place_of o row) orders

-- a row as a map keeps it
abbrev pub Entry : Type 0
Entry = Standing × Vec Cell Global

-- the entry's places are those of its row
abbrev pub IsKeyed : List Order → Entry → Type 0
IsKeyed orders e = e.0.places.items ≡ places_of orders e.1.items

abbrev pub AreKeyed : List Order → List Entry → Type 0
AreKeyed orders [] = Unit {0}
AreKeyed orders (e ∷ es) = IsKeyed orders e × AreKeyed orders es

-- the rows of entries, with their numbers
abbrev pub numbered : List Entry → List (Numbered Cell)
numbered es = map (λ (e : Entry). (e.0.number, e.1.items)) es
