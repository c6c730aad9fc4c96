use Rattle.std.proofs.Common.{◌+◌, ◌<◌, ◌∙◌, ap, arith, length, sym, subst}
use Rattle.piece_format.specs.Cells.{value_word}
use Rattle.piece_format.specs.Encoding.{AreFirst, IsKept, held_cell}
use Rattle.piece_format.proofs.Putting.{column_value_more}
use Rattle.piece_format.proofs.encoding.push_values.Goals as goal

pub loop-row-preserved : goal.loop-row-preserved
loop-row-preserved c =
    let q = c.args.piece in
    let table = c.args.table.now in
    let there : c.args.from + c.loop-row.row < length table.rows = omega (arith, c.requires.rows.there, c.loop-row-test.true) in
    let cell = c.column-column.ensures.cells (c.args.from + c.loop-row.row) there in
    subst (AreFirst q (held_cell q table c.args.from) (c.loop-row.row + 1)) (sym c.in_ok-push.ensures.items)
    (column_value_more q table c.args.from c.loop-row.row c.loop-row.words.items c.value_word_at.result c.requires.layout c.loop-row-test.true c.loop-row.invariant
    (c.value_word_at.ensures.word ∙ ap value_word cell) (subst IsKept cell c.value_word_at.ensures.kept))
