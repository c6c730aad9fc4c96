use Rattle.std.proofs.Common.{◌≡◌, ◌+◌, ◌^◌, ◌∙◌, List, ap, drop, refl, arith}
use Rattle.csv.specs.Records.{fields_of}
use Rattle.prepare_look.proofs.Adding.{adds-first, adds-last, adds-next, low-more, low-next}
use Rattle.prepare_look.specs.Rows.{Row, rows_of}
use Rattle.prepare_look.proofs.surveying.survey_of.Goals as goal

pub loop-done-init : goal.loop-done-init
loop-done-init c =
    let e : c.skip_rows.new.rows ≡ drop c.args.skip (rows_of c.args.marks c.args.text.now) =
    c.in_ok-skip_rows.ensures ∙ ap (λ (l : List Row). drop c.args.skip l) c.new-rows.ensures.all in
    record {
      low = c.in_ok-found.ensures.low;
      sums = rw e (adds-first c.args.width (drop c.args.skip (rows_of c.args.marks c.args.text.now)) _ c.in_ok-found.ensures.seen);
    }

pub add-requires : goal.add-requires
add-requires c = low-more (c.loop-done.done + 1) (2 ^ 62) c.loop-done.found (omega (arith, c.loop-done-test.true)) c.loop-done.invariant.low

pub returns-in-None : goal.returns-in-None
returns-in-None c =
    let ended = (rw c.in-None.is at c.in_ok-line.ensures.ended) refl in
    adds-last c.args.width (drop c.args.skip (rows_of c.args.marks c.args.text.now)) c.loop-done.found (rw ended at c.loop-done.invariant.sums)

pub loop-done-preserved : goal.loop-done-preserved
loop-done-preserved c =
    let found = c.in_ok-line.ensures.found c.in-Some.line (rw c.in-Some.is refl) in
    record {
      low = low-next (c.loop-done.done + 1) c.loop-done.found c.add.new.self (record { line = c.in-Some.line; fields = fields_of c.next.new.row }) c.loop-done.invariant.low c.add.ensures;
      sums = adds-next c.args.width (drop c.args.skip (rows_of c.args.marks c.args.text.now)) c.next.new.self (record { line = c.in-Some.line; fields = fields_of c.next.new.row })
          c.loop-done.found c.add.new.self (rw found at c.loop-done.invariant.sums) c.add.ensures;
    }
