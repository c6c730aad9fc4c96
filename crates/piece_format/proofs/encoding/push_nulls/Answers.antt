use Rattle.std.proofs.Common.{◌≡◌, ◌+◌, ◌-◌, ◌*◌, ◌∙◌, ap, min, arith, sym, subst, get_or}
use Rattle.table_core.specs.Columns.{column_cells}
use Rattle.table_core.specs.declared.cell.Cell.TheVariants.{Null}
use Rattle.piece_format.specs.Cells.{cell_at, is_null}
use Rattle.piece_format.specs.Encoding.{AreFirst, held_cell}
use Rattle.piece_format.proofs.Bits.{bits-same}
use Rattle.piece_format.proofs.Putting.{null_word_more}
use Rattle.piece_format.proofs.encoding.push_nulls.Goals as goal

pub loop-k-preserved : goal.loop-k-preserved
loop-k-preserved c =
    let q = c.args.piece in
    let table = c.args.table.now in
    let start = c.args.from + 64 * c.loop-k.k in
    let count = c.min-count.result in
    let so_many : count ≡ min 64 (q.rows - 64 * c.loop-k.k) = omega (arith, c.min-count.ensures) in
    let word = c.null_word.ensures
    ∙ bits-same (λ b. is_null (get_or (column_cells c.column-column.result.now) (start + b) Null)) (λ b. is_null (cell_at table.rows (start + b) q.group)) count
    (λ b low. ap is_null (c.column-column.ensures.cells (start + b) (omega (arith, low, so_many, c.requires.rows.there)))) in
    subst (AreFirst q (held_cell q table c.args.from) (q.rows + (c.loop-k.k + 1))) (sym c.in_ok-push.ensures.items)
    (null_word_more q table c.args.from c.loop-k.k count c.loop-k.words.items c.null_word.result c.requires.layout so_many c.loop-k.invariant word)
