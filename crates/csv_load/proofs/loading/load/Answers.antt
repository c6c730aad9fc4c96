use Rattle.csv_load.specs.Rows.{table_records}
use Rattle.csv_load.proofs.Assembled.{columns-few, loaded, table-whole, typed-count}
use Rattle.csv_load.proofs.loading.load.Goals as goal

pub schema_of-requires : goal.schema_of-requires
schema_of-requires g c =
    rw c.as_slice.ensures.value
    (typed-count (table_records c.args.bytes.now) c.in_ok-read.read.names.items c.in_ok-read.read.columns.items c.in_ok-read.read.rows c.in_ok-typed.typed.items
    c.in_ok-read.ensures.read c.in_ok-typed.ensures)

pub new-requires : goal.new-requires
new-requires g c =
    table-whole (table_records c.args.bytes.now) c.in_ok-read.read.names.items c.in_ok-read.read.columns.items c.in_ok-read.read.rows c.in_ok-typed.typed.items
    c.in_ok-schema.schema c.in_ok-columns.columns.items c.in_ok-read.ensures.read c.in_ok-typed.ensures (rw c.as_slice.ensures.value at c.in_ok-schema.ensures)
    c.in_ok-columns.ensures.cells

pub returns-clause-loaded : goal.returns-clause-loaded
returns-clause-loaded g c =
    loaded (table_records c.args.bytes.now) c.in_ok-read.read.names.items c.in_ok-read.read.columns.items c.in_ok-read.read.rows c.in_ok-typed.typed.items
    c.in_ok-schema.schema c.in_ok-columns.columns.items c.new.result c.in_ok-columns.dicts.items c.in_ok-read.ensures.read c.in_ok-typed.ensures
    (rw c.as_slice.ensures.value at c.in_ok-schema.ensures) c.in_ok-columns.ensures.cells c.new.ensures.columns c.new.ensures.rows c.in_ok-columns.ensures.dicts

pub returns-clause-places : goal.returns-clause-places
returns-clause-places g c =
    columns-few c.in_ok-read.read.names.items c.in_ok-read.read.columns.items c.in_ok-typed.typed.items c.in_ok-schema.schema c.new.result.columns
    c.in_ok-typed.ensures (rw c.as_slice.ensures.value at c.in_ok-schema.ensures) c.new.ensures.columns
