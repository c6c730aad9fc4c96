use Rattle.std.proofs.Common.{◌+◌}
use Rattle.csv.specs.Records.{fields_of}
use Rattle.csv.specs.Writing.{text_written}
use Rattle.prepare_rules.proofs.Going.{then-ok, under-err, under-ok}
use Rattle.prepare_rules.specs.Outcome.{below, under}
use Rattle.prepare_rules.specs.Tally.{no_tally}
use Rattle.prepare_text.specs.Source.{begun, left}
use Rattle.prepare_rules.proofs.preparing.copy_under.Goals as goal

pub returns-in-Ok : goal.returns-in-Ok
returns-in-Ok g c =
    let rules = c.args.rules.now in
    let names = fields_of c.args.names.now in
    let line = begun c.args.reader.now in
    let plan = c.in-Ok.plan in
    let rows = left g.R.Read.remaining c.args.reader.now in
    let old = text_written g.W.Write.contents c.args.writer.now in
    let mid = text_written g.W.Write.contents c.begin.new.writer in
    let new = text_written g.W.Write.contents c.copy_below.new.writer in
    then-ok (below rules plan.names plan.picks.items (rules.skip + 2) no_tally) (under rules names line (rules.skip + 2)) rows rows mid old new c.copy_below.result
    (λ report h. under-ok rules names line (rules.skip + 2) plan rows report old mid new (rw c.in-Ok.is at c.in_ok-plan.ensures.begun) h) (rw c.none.ensures at c.copy_below.ensures)

pub returns-in-Err : goal.returns-in-Err
returns-in-Err g c =
    let rules = c.args.rules.now in
    rw (c.refused.ensures, c.line.ensures) (under-err rules (fields_of c.args.names.now) (begun c.args.reader.now) (rules.skip + 2) c.in-Err.cause (left g.R.Read.remaining c.args.reader.now)
    (text_written g.W.Write.contents c.args.writer.now) (text_written g.W.Write.contents c.begin.new.writer) (rw c.in-Err.is at c.in_ok-plan.ensures.begun))
