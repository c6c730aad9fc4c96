use Rattle.std.proofs.Common.{◌≡◌, ◌-◌}
use Rattle.scan_story.specs.declared.setting.Setting.{Setting}
use Rattle.scan_story.specs.Views.{History}
use Rattle.scan_story.specs.Ratios.{keep_ratio}
use Rattle.scan_story.specs.MayFollow.{is_victim}
use Rattle.relevance.specs.Best.{least_below}
use Rattle.interest_book.specs.Stands.{Stands}
use Rattle.relevance.proofs.relevance.RelevancePolicy.pick_victim.Given as goal

abbrev pub invariant-loop-c : goal.invariant-loop-c
invariant-loop-c l = (s : Setting) (h : History) → Stands l.book s h → l.best ≡ least_below (is_victim s h) (keep_ratio s h) l.from

abbrev pub decreases-loop-c : goal.decreases-loop-c
decreases-loop-c l = 1024 - l.from
