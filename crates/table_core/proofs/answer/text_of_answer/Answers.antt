use Rattle.std.proofs.Common.{◌∙◌, [], List, sym, ap, subst, arith}
use Rattle.std.specs.Prelude.{Vec}
use Rattle.std.specs.Global.{Global}
use Rattle.table_core.specs.declared.cell.Cell.{Cell}
use Rattle.table_core.specs.Answer.{AreCellsOf}
use Rattle.table_core.proofs.Lists.{lists_at, length-lists}
use Rattle.table_core.proofs.answer.text_of_answer.Goals as goal

pub write_row-requires-clause-cells : goal.write_row-requires-clause-cells
write_row-requires-clause-cells c =
    let rows = c.args.rows.now in
    let i = c.loop-row.row-index in
    let P : List Cell → Type 0 = λ row. AreCellsOf c.args.places.now c.args.dicts.now row in
    subst P (lists_at rows i c.row-item.result c.loop-row-test.true ∙ sym (ap (λ (v : Vec Cell Global). v.items) c.row-item.is) ∙ sym c.deref.ensures.value)
    (c.requires.cells i [] (omega (arith, length-lists rows)))
