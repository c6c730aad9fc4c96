use Rattle.std.proofs.Common.{take}
use Rattle.setting_text.specs.Rules.{AreGood}
use Rattle.setting_text.proofs.rules.first_broken.Given as goal

abbrev pub invariant-loop-place : goal.invariant-loop-place
invariant-loop-place l = AreGood l.h (take l.place l.needs)
