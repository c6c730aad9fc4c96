-- The cells of a column's numbers or codes: their order, and one more of them.
use Rattle.std.proofs.Common.{◌≡◌, ◌<◌, ◌≤◌, ◌+◌, ℕ, List, [], ◌∷◌, ◌++◌, length, get_or, refl, ap, ◌∙◌, arith}
use Rattle.std.specs.Prelude.{Option, None, map}
use Rattle.std.specs.Ordering.{int_cmp, nat_cmp}
use Rattle.std.proofs.lemmas.List.{get_or-map, length-map}
use Rattle.table_core.specs.Columns.{code_cell, number_cell}
use Rattle.table_core.specs.declared.cell.Cell.{Cell}
use Rattle.table_core.specs.declared.cell.Cell.TheVariants.{Null}
use Rattle.filter_zones.specs.Found.{IsOrdered}
use Rattle.filter_zones.specs.Zone.{part}
use Rattle.filter_zones.proofs.Rows.{part-more}

pub numbers_are_ordered : IsOrdered int_cmp number_cell
numbers_are_ordered = record { none = refl; some = λ n. refl; order = λ a b. refl }

pub codes_are_ordered : IsOrdered nat_cmp code_cell
codes_are_ordered = record { none = refl; some = λ k. refl; order = λ a b. refl }

-- the cells of one more of a column's values
pub values-more : {T : Type 0} (cell : Option T → Cell) (values : List (Option T)) (from row : ℕ) → cell None ≡ Null → from ≤ row → row < length values
    → part from (row + 1) (map cell values) ≡ part from row (map cell values) ++ cell (get_or values row None) ∷ []
values-more cell values from row none after low =
    part-more (map cell values) from row after (omega (arith, low, length-map values cell))
    ∙ ap (λ x. part from row (map cell values) ++ x ∷ []) (get_or-map cell values row None Null low)
