use Rattle.std.proofs.Common.{◌≡◌, ◌-◌, ◌++◌, take, length}
use Rattle.prepare_numbers.specs.Plain.{zeros}
use Rattle.prepare_numbers.specs.Rounding.{one_more}
use Rattle.prepare_numbers.proofs.rounding.add_one.Given as goal

abbrev pub invariant-loop-done : goal.invariant-loop-done
invariant-loop-done l = record {
  made : l.digits.items ≡ take (l.len - l.done) l.fn.digits.items ++ zeros l.done;
  more : (one_more (take (l.len - l.done) l.fn.digits.items)).digits ++ zeros l.done ≡ (one_more l.fn.digits.items).digits;
  long : l.len ≡ length l.fn.digits.items;
}
