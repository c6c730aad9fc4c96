use Rattle.std.proofs.Common.{◌≡◌}
use Rattle.scan_story.specs.declared.setting.Setting.{Setting}
use Rattle.scan_story.specs.Views.{History}
use Rattle.scan_story.specs.Ratios.{query_rank}
use Rattle.scan_story.specs.MayFollow.{is_trigger}
use Rattle.relevance.specs.Best.{highest_below}
use Rattle.interest_book.specs.Stands.{Stands}
use Rattle.relevance.proofs.relevance.RelevancePolicy.pick_query.Given as goal

abbrev pub invariant-loop-q : goal.invariant-loop-q
invariant-loop-q l = (s : Setting) (h : History) → Stands l.book s h → l.best ≡ highest_below (is_trigger s h) (query_rank s h) l.q
