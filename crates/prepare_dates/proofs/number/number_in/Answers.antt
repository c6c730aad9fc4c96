use Rattle.std.proofs.Common.{arith, ◌≤◌, ◌∙◌, length, sym}
use Rattle.std.proofs.Math.Nat.{pow-le-pow_right}
use Rattle.prepare_dates.proofs.Digits.{run_length}
use Rattle.prepare_dates.proofs.number.number_in.Goals as goal

pub returns-then-is_run-clause-bound : goal.returns-then-is_run-clause-bound
returns-then-is_run-clause-bound c =
    let short : length c.args.run.now ≤ c.args.most = run_length c.args.least c.args.most c.args.run.now (sym c.is_run.ensures ∙ c.if-is_run.true) in
    omega (arith, c.worth_of.ensures.bound, pow-le-pow_right {n = 10} (omega arith) short)
