use Rattle.std.proofs.Common.{◌≡◌}
use Rattle.scan_story.specs.declared.setting.Setting.{Setting}
use Rattle.scan_story.specs.Views.{History}
use Rattle.scan_story.specs.Numbers.{waiting}
use Rattle.scan_story.specs.MayFollow.{is_trigger}
use Rattle.interest_book.specs.Stands.{Stands}
use Rattle.relevance.specs.Rated.{highest_below}
use Rattle.relevance.proofs.waiting.longest_waiting.Given as goal

abbrev pub invariant-loop-q : goal.invariant-loop-q
invariant-loop-q l = (s : Setting) (h : History) → Stands l.book s h → l.best ≡ highest_below (is_trigger s h) (waiting s h) l.q
