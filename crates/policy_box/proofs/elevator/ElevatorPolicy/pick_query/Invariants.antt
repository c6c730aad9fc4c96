use Rattle.std.proofs.Common.{◌≡◌, ◌∷◌, []}
use Rattle.scan_story.specs.declared.setting.Setting.{Setting}
use Rattle.scan_story.specs.Views.{History}
use Rattle.scan_story.specs.Policies.{reach}
use Rattle.scan_story.specs.MayFollow.{is_trigger}
use Rattle.interest_book.specs.Stands.{Stands}
use Rattle.relevance.specs.Rated.{lowest_below}
use Rattle.policy_box.proofs.elevator.ElevatorPolicy.pick_query.Given as goal

abbrev pub invariant-loop-q : goal.invariant-loop-q
invariant-loop-q l = (s : Setting) (h : History) → Stands l.book s h → l.best ≡ lowest_below (is_trigger s h) (reach s h (l.self.next ∷ [])) l.q
