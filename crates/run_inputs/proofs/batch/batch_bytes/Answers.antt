use Rattle.run_stops.specs.declared.stop.Stop.TheVariants as stop
use Rattle.run_inputs.specs.Order.{long_batch}
use Rattle.run_inputs.specs.Sources.{source_of_batch}
use Rattle.command_words.specs.Views.{batch_view}
use Rattle.run_inputs.proofs.Texts.{memory-read, stored-fault, stored-long}
use Rattle.run_inputs.proofs.batch.batch_bytes.Goals as goal

pub returns-in-Err-clause-read : goal.returns-in-Err-clause-read
returns-in-Err-clause-read g c = memory-read (g.F.Shelf.held c.args.shelf.now) (source_of_batch (batch_view c.args.batch)) stop.BatchFault long_batch _ _

pub returns-in-Err-Fault-clause-read : goal.returns-in-Err-Fault-clause-read
returns-in-Err-Fault-clause-read g c =
    rw c.in-File.is (stored-fault (g.F.Shelf.held c.args.shelf.now) c.in-File.name.now stop.BatchFault long_batch _ _ (c.in-Err-Fault.ensures.fault (cc c.in-Err-Fault.field-0-is)))

pub returns-in-Err-TooLong-clause-read : goal.returns-in-Err-TooLong-clause-read
returns-in-Err-TooLong-clause-read g c =
    let (same, long, there) = c.in-Err-TooLong.ensures.too_long c.in-Err-TooLong.field-0-0 c.in-Err-TooLong.field-0-is in
    rw c.in-File.is (stored-long (g.F.Shelf.held c.args.shelf.now) c.in-File.name.now 1048576 stop.BatchTooLong stop.BatchFault _ _ long there)

pub returns-in-Err-Memory-clause-read : goal.returns-in-Err-Memory-clause-read
returns-in-Err-Memory-clause-read g c = memory-read (g.F.Shelf.held c.args.shelf.now) (source_of_batch (batch_view c.args.batch)) stop.BatchFault long_batch _ _
