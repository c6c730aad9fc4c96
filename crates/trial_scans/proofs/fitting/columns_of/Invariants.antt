use Rattle.cscan.specs.Scans.{ReadsColumns}
use Rattle.trial_scans.proofs.fitting.columns_of.Given as goal

abbrev pub invariant-loop-x : goal.invariant-loop-x
invariant-loop-x l = ReadsColumns l.s l.q l.columns
