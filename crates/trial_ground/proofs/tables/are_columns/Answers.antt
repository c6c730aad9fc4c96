use Rattle.std.proofs.Common.{◌≡◌, ◌∙◌, ap, length, take, sym, arith}
use Rattle.std.proofs.lemmas.List.{take_all}
use Rattle.std.proofs.lemmas.List.Elements.{All-more, All-same}
use Rattle.table_core.specs.Columns.{column_cells}
use Rattle.table_core.specs.declared.cells.Cells.{Cells}
use Rattle.trial_ground.proofs.tables.are_columns.Goals as goal

pub loop-column-preserved : goal.loop-column-preserved
loop-column-preserved c =
    All-more (λ (column : Cells). length (column_cells column) ≡ c.args.rows) c.args.columns.now c.loop-column.column-index c.column-item.result c.loop-column-test.true c.loop-column.invariant
    (ap (λ cells. length (column_cells cells)) (sym c.column-item.is) ∙ sym c.len.ensures ∙ c.if-len-rows.false)

pub returns : goal.returns
returns c =
    let columns = c.args.columns.now in
    record {
      count = c.if-columns-width.false;
      long = All-same (λ (column : Cells). length (column_cells column) ≡ c.args.rows) columns (take c.loop-column.column-index columns) (sym (take_all c.loop-column.column-index columns c.loop-column-test.false)) c.loop-column.invariant;
      none = λ none. absurd (c.if-width-eq0.false none);
    }
