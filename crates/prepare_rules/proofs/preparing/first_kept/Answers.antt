use Rattle.std.proofs.Common.{◌≡◌, arith, drop, refl}
use Rattle.std.specs.Prelude.{option_map}
use Rattle.csv.specs.Records.{fields_of}
use Rattle.prepare_rules.proofs.Going.{left-next, left-over, left-takes}
use Rattle.prepare_text.specs.Source.{begun, left, record_of}
use Rattle.prepare_rules.proofs.preparing.first_kept.Goals as goal

pub loop-done-preserved : goal.loop-done-preserved
loop-done-preserved g c =
    let rem = g.R.Read.remaining in
    left-next c.loop-done._done (left rem c.args.reader.now) (left rem c.loop-done.reader) (left rem c.next_record.new.reader)
    (record_of (begun c.next_record.new.reader) (fields_of c.next_record.new.row)) c.loop-done.invariant ((rw c.if-not-branch.false at c.in_ok-next_record.ensures.found) refl)

pub returns-then-not-branch-clause-ended : goal.returns-then-not-branch-clause-ended
returns-then-not-branch-clause-ended g c _ =
    let rem = g.R.Read.remaining in
    left-over c.loop-done._done c.args.skip (left rem c.args.reader.now) (left rem c.loop-done.reader) (omega (arith, c.loop-done-test.true))
    c.loop-done.invariant ((rw c.if-not-branch.true at c.in_ok-next_record.ensures.ended) refl)

pub returns-clause-found : goal.returns-clause-found
returns-clause-found g c h =
    let rem = g.R.Read.remaining in
    let e : c.loop-done._done ≡ c.args.skip = omega (arith, c.loop-done-test.false, c.loop-done.auto._done-end) in
    left-takes (option_map (drop c.args.skip) (left rem c.args.reader.now)) (left rem c.loop-done.reader) (left rem c.next_record-2.new.reader)
    (record_of (begun c.next_record-2.new.reader) (fields_of c.next_record-2.new.row)) (rw e at c.loop-done.invariant) (c.next_record-2.ensures.found h)

pub returns-clause-ended : goal.returns-clause-ended
returns-clause-ended g c h =
    let rem = g.R.Read.remaining in
    left-over c.loop-done._done c.args.skip (left rem c.args.reader.now) (left rem c.loop-done.reader) (omega (arith, c.loop-done.auto._done-end))
    c.loop-done.invariant (c.next_record-2.ensures.ended h)
