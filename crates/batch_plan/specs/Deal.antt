-- Dealing the chunks of a query to its parts.
use Rattle.std.specs.Prelude.{◌%◌, ◌==◌, ◌&&◌, ◌++◌, ℕ, zero, suc, Bool, List, [], length}
use Rattle.table_sets.specs.Sets.{has, numbers_below}

-- the place of a number among the members in rising order, from 0: how many members are below it
abbrev pub place : List ℕ → ℕ → ℕ
place members c = length (numbers_below (has members) c)

-- whether the number is a member whose place, divided by the number of parts, leaves the part's number
abbrev pub is_dealt : List ℕ → ℕ → ℕ → ℕ → Bool
is_dealt members parts part c = has members c && place members c % parts == part

-- the members that are dealt to a part, in rising order
abbrev pub deal : List ℕ → ℕ → ℕ → List ℕ
deal members parts part = numbers_below (is_dealt members parts part) 1024

-- those of the first parts, one part after another
abbrev pub dealt_to : List ℕ → ℕ → ℕ → List ℕ
dealt_to members parts zero = []
dealt_to members parts (suc n) = dealt_to members parts n ++ deal members parts n
