use Rattle.std.proofs.Common.{◌≡◌, ◌≤◌, ◌↔◌, ℕ}
use Rattle.std.specs.List.{AllByRecursion}
use Rattle.scan_story.specs.Setting.{IsRising}
use Rattle.setting_text.proofs.Keeping.{RisesFrom}
use Rattle.setting_text.proofs.rules.are_rising.Given as goal

abbrev pub invariant-loop-n : goal.invariant-loop-n
invariant-loop-n l = RisesFrom l.next l.n-iterator ↔ IsRising l.numbers
