use Rattle.std.proofs.Common.{◌≡◌, ◌∙◌, length}
use Rattle.run_inputs.specs.GeneratedTable.{table_text}
use Rattle.run_stops.specs.declared.stop.Stop.TheVariants as stop
use Rattle.run_inputs.specs.Order.{long_table}
use Rattle.run_inputs.specs.Sources.{source_of_table}
use Rattle.command_words.specs.Views.{table_view}
use Rattle.run_inputs.proofs.Generated.{table-short}
use Rattle.run_inputs.proofs.Texts.{made-ok, memory-read, not-past, stored-fault, stored-long}
use Rattle.run_inputs.proofs.table.table_bytes.Goals as goal

pub returns-in-Ok-clause-read : goal.returns-in-Ok-clause-read
returns-in-Ok-clause-read g c =
    let small = rw c.in-Generated.is at c.requires.small in
    let text = table_text c.in-Generated.seed c.in-Generated.rows in
    rw c.in-Generated.is
    (made-ok (g.F.Shelf.held c.args.shelf.now) text c.new.result stop.TableFault long_table (g.F.Shelf.faults c.args.shelf.now) (g.F.Shelf.faults c.args.shelf.now)
    (not-past 268435456 (length text) stop.TableTooLong (table-short c.in-Generated.seed c.in-Generated.rows small)) (c.new.ensures.same ∙ c.in-Ok.ensures))

pub returns-in-Ok-clause-within : goal.returns-in-Ok-clause-within
returns-in-Ok-clause-within g c =
    let small = rw c.in-Generated.is at c.requires.small in
    let same : c.new.result ≡ table_text c.in-Generated.seed c.in-Generated.rows = c.new.ensures.same ∙ c.in-Ok.ensures in
    rw same (table-short c.in-Generated.seed c.in-Generated.rows small)

pub returns-in-Err-clause-read : goal.returns-in-Err-clause-read
returns-in-Err-clause-read g c = memory-read (g.F.Shelf.held c.args.shelf.now) (source_of_table (table_view c.args.table)) stop.TableFault long_table _ _

pub returns-in-Err-Fault-clause-read : goal.returns-in-Err-Fault-clause-read
returns-in-Err-Fault-clause-read g c =
    rw c.in-File.is (stored-fault (g.F.Shelf.held c.args.shelf.now) c.in-File.name.now stop.TableFault long_table _ _ (c.in-Err-Fault.ensures.fault (cc c.in-Err-Fault.field-0-is)))

pub returns-in-Err-TooLong-clause-read : goal.returns-in-Err-TooLong-clause-read
returns-in-Err-TooLong-clause-read g c =
    let (same, long, there) = c.in-Err-TooLong.ensures.too_long c.in-Err-TooLong.field-0-0 c.in-Err-TooLong.field-0-is in
    rw c.in-File.is (stored-long (g.F.Shelf.held c.args.shelf.now) c.in-File.name.now 268435456 stop.TableTooLong stop.TableFault _ _ long there)

pub returns-in-Err-Memory-clause-read : goal.returns-in-Err-Memory-clause-read
returns-in-Err-Memory-clause-read g c = memory-read (g.F.Shelf.held c.args.shelf.now) (source_of_table (table_view c.args.table)) stop.TableFault long_table _ _
