-- In which columns the cells of picked rows are read.
use Rattle.std.specs.Prelude.{ℕ, List, map, Option, Some}

-- the columns in which the cells of a row are read: each cell has one
abbrev pub columns_of : List ℕ → List (Option ℕ)
columns_of columns = map Some columns
