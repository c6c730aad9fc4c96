use Rattle.std.proofs.Common.{◌∙◌, ◌<◌, sym, ap, length, get_or, arith}
use Rattle.table_core.specs.Columns.{column_cells}
use Rattle.table_core.specs.declared.cell.Cell.TheVariants.{Null}
use Rattle.table_core.proofs.Columns.{cell-in, column-long, length-rows}
use Rattle.table_core.proofs.table.Table.column.Goals as goal

pub returns-clause-len : goal.returns-clause-len
returns-clause-len c =
    let column : c.args.column < length c.self.inside.columns.items = omega (arith, c.requires, c.self.invariant.count, ap (λ t. length t.columns) c.self.view_is) in
    rw (← c.self.view_is)
    (column-long (length c.self.inside.schema) c.self.inside.rows c.self.inside.columns.items c.args.column c.index.result.now c.self.invariant column c.index.ensures
    ∙ sym (length-rows c.self.inside.rows c.self.inside.columns.items))

pub returns-clause-cells : goal.returns-clause-cells
returns-clause-cells c row low =
    let column : c.args.column < length c.self.inside.columns.items = omega (arith, c.requires, c.self.invariant.count, ap (λ t. length t.columns) c.self.view_is) in
    let there : row < c.self.inside.rows = omega (arith, low, length-rows c.self.inside.rows c.self.inside.columns.items, ap (λ t. length t.rows) c.self.view_is) in
    rw (← c.self.view_is)
    (ap (λ cells. get_or (column_cells cells) row Null) c.index.ensures
    ∙ sym (cell-in c.self.inside.rows c.self.inside.columns.items row c.args.column c.index.result.now there column))
