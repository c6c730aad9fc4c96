use Rattle.std.proofs.Common.{◌≡◌}
use Rattle.scan_story.specs.declared.setting.Setting.{Setting}
use Rattle.scan_story.specs.Views.{History}
use Rattle.scan_story.specs.Numbers.{close}
use Rattle.scan_story.specs.MayFollow.{is_victim}
use Rattle.interest_book.specs.Stands.{Stands}
use Rattle.relevance.specs.Around.{far_from}
use Rattle.relevance.specs.Victims.{fittest_below}
use Rattle.policy_box.proofs.elevator.ElevatorPolicy.pick_victim.Given as goal

abbrev pub invariant-loop-c : goal.invariant-loop-c
invariant-loop-c l = (s : Setting) (h : History) → Stands l.book s h → l.best ≡ fittest_below (is_victim s h) (λ c. record { close = close s h c; key = far_from l.chunks l.self.next c }) l.c
