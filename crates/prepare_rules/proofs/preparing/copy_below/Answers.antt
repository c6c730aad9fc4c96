use Rattle.std.proofs.Common.{◌≡◌, ◌+◌, ◌==◌, true, Some, arith, refl}
use Rattle.std.proofs.lemmas.Bool.{eq-eqb, ne_eqb}
use Rattle.csv.specs.Records.{fields_of}
use Rattle.csv.specs.Writing.{text_written}
use Rattle.prepare_rules.proofs.Going.{below-full, below-next, below-over, below-refused, made-is, refused-is}
use Rattle.prepare_rules.specs.Made.{row_made, row_told}
use Rattle.prepare_rules.specs.Outcome.{number_past, refused_in, unrefused}
use Rattle.prepare_rules.specs.declared.cause.Cause.TheVariants as cause
use Rattle.prepare_text.specs.Source.{begun, left, record_of}
use Rattle.prepare_rules.proofs.preparing.copy_below.Goals as goal

pub returns-then-not-branch : goal.returns-then-not-branch
returns-then-not-branch g c =
    let plan = c.args.plan.now in
    let text = text_written g.W.Write.contents c.loop-done.writer in
    rw c.all_read.ensures (c.loop-done.invariant.rest (unrefused c.loop-done.tally) text
    (below-over c.args.rules.now plan.names plan.picks.items (c.args.from.number + c.loop-done.done) c.loop-done.tally (left g.R.Read.remaining c.loop-done.reader) text
    ((rw c.if-not-branch.true at c.in_ok-next_record.ensures.ended) refl)))

pub returns-in-Err : goal.returns-in-Err
returns-in-Err g c =
    let rules = c.args.rules.now in
    let plan = c.args.plan.now in
    let told = c.loop-done.tally in
    let row = record_of (begun c.next_record.new.reader) (fields_of c.next_record.new.row) in
    let text = text_written g.W.Write.contents c.loop-done.writer in
    let at = c.args.from.number + c.loop-done.done in
    let is = refused-is (row_made rules plan.names plan.picks.items row.fields) (row_told rules plan.names plan.picks.items row told) c.in-Err.cause
    (fields_of c.make_row.new.room.made) (rw (c.in-Err.is, c.line-line.ensures) at c.in_ok-told.ensures) in
    rw (c.refused_at.ensures, c.line-line.ensures) (c.loop-done.invariant.rest (refused_in at (Some row.line) c.in-Err.cause told) text
    (below-refused rules plan.names plan.picks.items at told (left g.R.Read.remaining c.loop-done.reader)
    (left g.R.Read.remaining c.next_record.new.reader) row c.in-Err.cause text ((rw c.if-not-branch.false at c.in_ok-next_record.ensures.found) refl) is))

pub returns-then-number-past : goal.returns-then-number-past
returns-then-number-past g c =
    let rules = c.args.rules.now in
    let plan = c.args.plan.now in
    let told = c.loop-done.tally in
    let row = record_of (begun c.next_record.new.reader) (fields_of c.next_record.new.row) in
    let made = fields_of c.make_row.new.room.made in
    let text = text_written g.W.Write.contents c.loop-done.writer in
    let new = text_written g.W.Write.contents c.put.new.writer in
    let at = c.args.from.number + c.loop-done.done in
    let full : (at == number_past rules) ≡ true = eq-eqb at (number_past rules) (rw c.number_past-past.ensures at c.if-number-past.true) in
    let is = made-is (row_made rules plan.names plan.picks.items row.fields) (row_told rules plan.names plan.picks.items row told) c.in-Ok.told made
    (rw (c.in-Ok.is, c.line-line.ensures) at c.in_ok-told.ensures) in
    rw (c.refused_at-then-number-past.ensures, c.line-line.ensures, is.1)
    (c.loop-done.invariant.rest (refused_in at (Some row.line) cause.TooManyRows (row_told rules plan.names plan.picks.items row told)) new
    (below-full rules plan.names plan.picks.items at told (left g.R.Read.remaining c.loop-done.reader) (left g.R.Read.remaining c.next_record.new.reader)
    row made text new full ((rw c.if-not-branch.false at c.in_ok-next_record.ensures.found) refl) is.0 c.in_ok-put.ensures.text))

pub loop-done-preserved : goal.loop-done-preserved
loop-done-preserved g c =
    let rules = c.args.rules.now in
    let plan = c.args.plan.now in
    let told = c.loop-done.tally in
    let row = record_of (begun c.next_record.new.reader) (fields_of c.next_record.new.row) in
    let made = fields_of c.make_row.new.room.made in
    let text = text_written g.W.Write.contents c.loop-done.writer in
    let mid = text_written g.W.Write.contents c.put.new.writer in
    let at = c.args.from.number + c.loop-done.done in
    let e : at + 1 ≡ c.args.from.number + (c.loop-done.done + 1) = omega arith in
    let is = made-is (row_made rules plan.names plan.picks.items row.fields) (row_told rules plan.names plan.picks.items row told) c.in-Ok.told made
    (rw (c.in-Ok.is, c.line-line.ensures) at c.in_ok-told.ensures) in
    record {
      writing = c.in_ok-put.ensures.writing;
      rest = λ report new more. c.loop-done.invariant.rest report new
          (below-next rules plan.names plan.picks.items at told (left g.R.Read.remaining c.loop-done.reader) (left g.R.Read.remaining c.next_record.new.reader)
          row made report text mid new (ne_eqb at (number_past rules) (rw c.number_past-past.ensures at c.if-number-past.false)) ((rw c.if-not-branch.false at c.in_ok-next_record.ensures.found) refl) is.0 c.in_ok-put.ensures.text
          (rw (← is.1, e) more));
    }
