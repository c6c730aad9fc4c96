use Rattle.std.proofs.Common.{◌∙◌, ◌<◌, sym, ap, length, get_or, arith}
use Rattle.table_core.specs.Columns.{column_cells}
use Rattle.table_core.specs.declared.cell.Cell.TheVariants.{Null}
use Rattle.table_core.proofs.Columns.{cell-in, column-long, length-rows}
use Rattle.table_core.proofs.table.Table.cell.Goals as goal

pub get-requires : goal.get-requires
get-requires c =
    let row : c.args.row < c.self.inside.rows = omega (arith, c.requires.row, length-rows c.self.inside.rows c.self.inside.columns.items, ap (λ t. length t.rows) c.self.view_is) in
    let column : c.args.column < length c.self.inside.columns.items = omega (arith, c.requires.column, c.self.invariant.count, ap (λ t. length t.columns) c.self.view_is) in
    omega (arith, row, column-long (length c.self.inside.schema) c.self.inside.rows c.self.inside.columns.items c.args.column c.index.result.now c.self.invariant column c.index.ensures)

pub returns : goal.returns
returns c =
    let row : c.args.row < c.self.inside.rows = omega (arith, c.requires.row, length-rows c.self.inside.rows c.self.inside.columns.items, ap (λ t. length t.rows) c.self.view_is) in
    let column : c.args.column < length c.self.inside.columns.items = omega (arith, c.requires.column, c.self.invariant.count, ap (λ t. length t.columns) c.self.view_is) in
    rw (← c.self.view_is)
    (c.get.ensures ∙ ap (λ cells. get_or (column_cells cells) c.args.row Null) c.index.ensures
    ∙ sym (cell-in c.self.inside.rows c.self.inside.columns.items c.args.row c.args.column c.index.result.now row column))
