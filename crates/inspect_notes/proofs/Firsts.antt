-- The first text that spells no number.
use Rattle.std.proofs.Common.{◌≡◌, ◌<◌, ◌+◌, ◌-◌, ℕ, true, false, List, [], length, get_or, ap, subst, ◌∙◌, arith}
use Rattle.std.specs.Prelude.{All}
use Rattle.std.proofs.lemmas.Bool.{not-true}
use Rattle.std.proofs.lemmas.List.{get_or-map, length-map}
use Rattle.std.proofs.lemmas.List.Elements.{All-map, All-from_get_or}
use Rattle.table_core.specs.Value.{none, value_in, IsCellOf}
use Rattle.table_core.specs.declared.cell.Cell.{Cell}
use Rattle.table_core.specs.declared.cell.Cell.TheVariants.{Code}
use Rattle.filter_zones.specs.Truth.{cell_at}
use Rattle.inspect_notes.specs.Reasons.{is_stranger, spells_number, IsFirstStranger}
use Rattle.inspect_notes.specs.Values.{column_values, value_at}

pub first_is : (dict : List (List ℕ)) (x : ℕ) (rows : List (List Cell)) (row code : ℕ) → row < length rows → All (λ r. IsCellOf dict (cell_at r x)) rows
    → ((i : ℕ) → i < row → is_stranger (value_at dict x (get_or rows i [])) ≡ false) → cell_at (get_or rows row []) x ≡ Code code → is_stranger (value_in dict (Code code)) ≡ true
    → IsFirstStranger dict (column_values dict x rows) (row + 1) code
first_is dict x rows row code low cells before cell stranger =
    let at : (i : ℕ) → i < length rows → get_or (column_values dict x rows) i none ≡ value_at dict x (get_or rows i []) = λ i inside. get_or-map (value_at dict x) rows i [] none inside in
    let back : row + 1 - 1 ≡ row = omega arith in
    record {
      counted = (omega arith, omega (arith, length-map rows (value_at dict x)));
      coded = subst (IsCellOf dict) cell (cells row [] low);
      stands = rw back (at row low ∙ ap (value_in dict) cell);
      spells = not-true (spells_number (get_or dict code [])) stranger;
      before = λ i early. ap is_stranger (at i (omega arith)) ∙ before i (omega arith);
    }

pub none_is : (dict : List (List ℕ)) (x : ℕ) (rows : List (List Cell)) → ((i : ℕ) → i < length rows → is_stranger (value_at dict x (get_or rows i [])) ≡ false) → All (λ v. is_stranger v ≡ false) (column_values dict x rows)
none_is dict x rows each = All-map (λ v. is_stranger v ≡ false) (value_at dict x) rows (All-from_get_or (λ r. is_stranger (value_at dict x r) ≡ false) rows [] each)
