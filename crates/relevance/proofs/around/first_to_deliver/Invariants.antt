use Rattle.std.proofs.Common.{◌≡◌, ◌<◌, ℕ, false}
use Rattle.scan_story.specs.declared.setting.Setting.{Setting}
use Rattle.scan_story.specs.Views.{History}
use Rattle.scan_story.specs.MayFollow.{is_ready}
use Rattle.scan_story.specs.Policies.{dist_from}
use Rattle.interest_book.specs.Stands.{Stands}
use Rattle.relevance.proofs.around.first_to_deliver.Given as goal

abbrev pub invariant-loop-far : goal.invariant-loop-far
invariant-loop-far l = (s : Setting) (h : History) → Stands l.book s h → (y : ℕ) → dist_from s l.start y < l.far → is_ready s h l.q y ≡ false
