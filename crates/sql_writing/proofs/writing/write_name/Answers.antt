use Rattle.std.proofs.Common.{◌∙◌}
use Rattle.sql_writing.proofs.Quoted.{goes_on_quote, goes_on_plain, ends}
use Rattle.sql_writing.proofs.writing.write_name.Goals.{then-byte-eq34+in_ok-append-2, else-byte-eq34+in_ok-append-3}
use Rattle.sql_writing.proofs.writing.write_name.Goals as goal

pub loop-byte-init : goal.loop-byte-init
loop-byte-init c = c.in_ok-append.ensures.ok

pub loop-byte-preserved : goal.loop-byte-preserved
loop-byte-preserved c = elim c.if-byte-eq34.branch [
  | then-byte-eq34+in_ok-append-2 w ↦ goes_on_quote c.args.out.now c.loop-byte.out c.if-byte-eq34.out c.args.name.now c.loop-byte.byte-index c.loop-byte.invariant c.loop-byte-test.true w.if-byte-eq34.true (w.out-is ∙ w.in_ok-append-2.ensures.ok)
  | else-byte-eq34+in_ok-append-3 w ↦ goes_on_plain c.args.out.now c.loop-byte.out c.if-byte-eq34.out c.args.name.now c.loop-byte.byte-index c.loop-byte.invariant c.loop-byte-test.true w.if-byte-eq34.false (w.out-is ∙ w.in_ok-append-3.ensures.ok)
]

pub returns : goal.returns
returns c = ends c.args.out.now c.loop-byte.out c.append-2.new.self c.args.name.now c.loop-byte.byte-index c.loop-byte.invariant c.loop-byte-test.false c.in_ok-append-4.ensures.ok
