use Rattle.std.proofs.Common.{◌∙◌, ◌<◌, sym, ap, length, arith}
use Rattle.table_core.specs.Columns.{row_of_columns}
use Rattle.table_core.proofs.Columns.{columns-reach, length-rows, row-is}
use Rattle.table_core.proofs.table.Table.row.Goals as goal

pub read_row-requires-clause-there : goal.read_row-requires-clause-there
read_row-requires-clause-there c =
    let there : c.args.row < c.self.inside.rows = omega (arith, c.requires.there, length-rows c.self.inside.rows c.self.inside.columns.items, ap (λ t. length t.rows) c.self.view_is) in
    rw c.as_slice.ensures.value (columns-reach (length c.self.inside.schema) c.self.inside.rows c.self.inside.columns.items c.args.row c.self.invariant there)

pub returns : goal.returns
returns c =
    let there : c.args.row < c.self.inside.rows = omega (arith, c.requires.there, length-rows c.self.inside.rows c.self.inside.columns.items, ap (λ t. length t.rows) c.self.view_is) in
    rw (← c.self.view_is)
    (c.read_row.ensures ∙ ap (λ columns. row_of_columns columns c.args.row) c.as_slice.ensures.value ∙ sym (row-is c.self.inside.rows c.self.inside.columns.items c.args.row there))
