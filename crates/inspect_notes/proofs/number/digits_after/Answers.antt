use Rattle.std.proofs.Common.{rules, arith}
use Rattle.csv_load.proofs.Numerals.{too_big}
use Rattle.inspect_notes.proofs.number.digits_after.Goals as goal

pub returns-then-value-gt922337203685477580 : goal.returns-then-value-gt922337203685477580
returns-then-value-gt922337203685477580 c =
    rw c.loop-left.invariant.so_far (too_big c.loop-left.value c.loop-left.left.now (omega arith) (search rules) (omega arith))
