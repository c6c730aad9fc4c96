use Rattle.std.proofs.Common.{◌∙◌, ◌<◌, ℕ, length, arith}
use Rattle.std.proofs.lemmas.List.{length-set}
use Rattle.piece_format.specs.Shape.{chunk_of}
use Rattle.frame_rows.proofs.Rows.{one_place_more}
use Rattle.frame_rows.proofs.row_cells.read_columns.Goals as goal

pub loop-x-preserved : goal.loop-x-preserved
loop-x-preserved g c =
    let z = c.args.shape.now in
    let i : ℕ = c.loop-x.x in
    let cells = c.loop-x.cells in
    let before = c.loop-x.invariant in
    let there : i < length cells = omega (arith, c.loop-x-test.true, c.loop-x.auto.x-end, before.width, c.requires.width, c.requires.shape.few_columns) in
    record {
      same = c.cell_for.ensures.same ∙ before.same;
      width = length-set cells i c.cell_for.result ∙ before.width;
      read = one_place_more g.C.Content.pieces z (chunk_of z c.args.framed.number) c.args.row c.args.columns.now cells i c.cell_for.result there before.read c.cell_for.ensures.cell;
    }
