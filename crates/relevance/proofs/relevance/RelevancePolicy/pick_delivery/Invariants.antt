use Rattle.std.proofs.Common.{◌≡◌, ◌-◌}
use Rattle.scan_story.specs.declared.setting.Setting.{Setting}
use Rattle.scan_story.specs.Views.{History}
use Rattle.scan_story.specs.Ratios.{use_ratio}
use Rattle.scan_story.specs.MayFollow.{is_ready}
use Rattle.relevance.specs.Best.{greatest_below}
use Rattle.interest_book.specs.Stands.{Stands}
use Rattle.relevance.proofs.relevance.RelevancePolicy.pick_delivery.Given as goal

abbrev pub invariant-loop-c : goal.invariant-loop-c
invariant-loop-c l = (s : Setting) (h : History) → Stands l.book s h → l.best ≡ greatest_below (is_ready s h l.q) (use_ratio s h l.q) l.from

abbrev pub decreases-loop-c : goal.decreases-loop-c
decreases-loop-c l = 1024 - l.from
