use Rattle.std.proofs.Common.{◌≤◌, ◌∙◌, sym, refl, arith}
use Rattle.csv.specs.Records.{fields_of}
use Rattle.prepare_look.proofs.Adding.{drop-next, drop-past}
use Rattle.prepare_look.proofs.surveying.skip_rows.Goals as goal

pub returns-in-None : goal.returns-in-None
returns-in-None c =
    let ended = (rw c.in-None.is at c.in_ok-_line.ensures.ended) refl in
    let over = (rw c.in-None.is at c.in_ok-_line.ensures.over) refl in
    let within : c.loop-done._done ≤ c.args.count = omega (arith, c.loop-done-test.true) in
    over ∙ sym (drop-past c.loop-done._done c.args.count c.args.rows.now (c.loop-done.invariant ∙ ended) within)

pub loop-done-preserved : goal.loop-done-preserved
loop-done-preserved c =
    drop-next c.loop-done._done c.args.rows.now (record { line = c.in-Some._line; fields = fields_of c.next.new.row }) c.next.new.self
    (c.loop-done.invariant ∙ c.in_ok-_line.ensures.found c.in-Some._line (rw c.in-Some.is refl))
