use Rattle.std.proofs.Common.{◌+◌, ◌*◌, ◌<◌, ◌∙◌, length, ap, arith}
use Rattle.csv.specs.Records.{fields_of}
use Rattle.prepare_look.specs.Kinds.{index_of, kind_of}
use Rattle.prepare_look.proofs.Cells.{noted-next}
use Rattle.prepare_look.proofs.noting.note_kinds.Goals as goal

pub loop-j-preserved : goal.loop-j-preserved
loop-j-preserved c =
    let is = c.loop-j.invariant in
    let there : c.loop-j.j * 25 + c.index.result < length c.loop-j.cells = omega (arith, is.sized, c.requires.sized, c.index.ensures.low, c.loop-j-test.true) in
    noted-next c.loop-j.cells c.note.new.cells c.args.cells.now (record { line = c.args.line; fields = fields_of c.args.row.now }) c.loop-j.j c.index.result
    c.index.ensures.low is there (c.index.ensures.value ∙ ap index_of (c.kind_of-kind.ensures ∙ ap kind_of c.field_or_none.ensures)) c.note.ensures
