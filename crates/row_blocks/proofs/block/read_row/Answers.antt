use Rattle.std.proofs.Common.{◌∙◌, ◌<◌, ℕ, length, get_or, set, ap, sym, arith, inl, inr}
use Rattle.std.proofs.lemmas.Bool.{cases_eq}
use Rattle.std.proofs.lemmas.List.{get_or-set_other, get_or-set_same}
use Rattle.std.proofs.lemmas.List.FromFn.{fill_by_all}
use Rattle.table_core.specs.declared.cell.Cell.{Cell}
use Rattle.table_core.specs.declared.cell.Cell.TheVariants.{Null}
use Rattle.row_blocks.specs.Lanes.{lane_cell}
use Rattle.row_blocks.specs.Blocks.{lane_in}
use Rattle.row_blocks.proofs.block.read_row.Goals as goal

pub loop-x-preserved : goal.loop-x-preserved
loop-x-preserved c = λ x low.
    (let cells = c.loop-x.cells in
    let i : ℕ = c.loop-x.x in
    let cell : ℕ → Cell = λ y. lane_cell (lane_in c.args.lanes.now y) c.args.row in
    let inside : i < length cells = omega (arith, c.loop-x-test.true, c.loop-x.auto.cells) in
    elim (cases_eq x i) [
      | inl at ↦ ap (λ y. get_or (set cells i c.cell.result) y Null) at ∙ (get_or-set_same cells i c.cell.result Null inside ∙ (c.cell.ensures ∙ ap cell (sym at)))
      | inr ne ↦ get_or-set_other cells i x c.cell.result Null ne ∙ c.loop-x.invariant x (omega (arith, low, ne))
    ])

pub returns : goal.returns
returns c =
    fill_by_all (λ x. lane_cell (lane_in c.args.lanes.now x) c.args.row) c.loop-x.cells (length c.args.cells.now) Null
    (omega (arith, c.loop-x.auto.cells))
    (λ x low. c.loop-x.invariant x (omega (arith, low, c.loop-x-test.false)))
