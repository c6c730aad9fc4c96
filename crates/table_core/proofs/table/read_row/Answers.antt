use Rattle.std.proofs.Common.{◌≡◌, ◌∙◌, ◌<◌, ℕ, length, get_or, set, ap, sym, arith, inl, inr}
use Rattle.std.proofs.lemmas.Bool.{cases_eq}
use Rattle.std.proofs.lemmas.List.{get_or-set_other, get_or-set_same, ext_get_or}
use Rattle.table_core.specs.declared.cell.Cell.TheVariants.{Null}
use Rattle.table_core.specs.Columns.{column_cells, row_of_columns}
use Rattle.table_core.proofs.Columns.{cell-is, length-row}
use Rattle.table_core.proofs.table.read_row.Goals as goal

pub loop-place-preserved : goal.loop-place-preserved
loop-place-preserved c = λ x low.
    (let into = c.loop-place.into in
    let i : ℕ = c.loop-place.place in
    let row = row_of_columns c.args.columns.now c.args.row in
    let there : i < length c.args.columns.now = omega (arith, c.loop-place-test.true, c.requires.width) in
    let room : i < length into = omega (arith, c.loop-place-test.true, c.loop-place.auto.into) in
    let read : c.get.result ≡ get_or row i Null =
    c.get.ensures ∙ ap (λ cells. get_or (column_cells cells) c.args.row Null) c.index-columns-place.is
    ∙ sym (cell-is c.args.columns.now c.args.row i c.index-columns-place.result there) in
    elim (cases_eq x i) [
      | inl at ↦ ap (λ y. get_or (set into i c.get.result) y Null) at ∙ (get_or-set_same into i c.get.result Null room ∙ read ∙ ap (λ y. get_or row y Null) (sym at))
      | inr ne ↦ get_or-set_other into i x c.get.result Null ne ∙ c.loop-place.invariant x (omega (arith, low, ne))
    ])

pub returns : goal.returns
returns c =
    ext_get_or Null c.loop-place.into (row_of_columns c.args.columns.now c.args.row)
    (omega (arith, c.loop-place.auto.into, c.requires.width, length-row c.args.columns.now c.args.row))
    (λ x low. c.loop-place.invariant x (omega (arith, low, c.loop-place-test.false, c.loop-place.auto.into)))
