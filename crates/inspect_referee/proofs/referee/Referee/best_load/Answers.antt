use Rattle.std.proofs.Common.{sym, subst}
use Rattle.scan_story.specs.declared.setting.PolicyName.{PolicyName}
use Rattle.scan_story.specs.Legal.{cursor_at}
use Rattle.interest_book.specs.Picks.{PicksLoad}
use Rattle.inspect_referee.specs.Seen.{setting, seen}
use Rattle.inspect_referee.proofs.Settling.{normal_load}
use Rattle.inspect_referee.proofs.referee.Referee.best_load.Goals as goal

pub returns-in-Normal : goal.returns-in-Normal
returns-in-Normal c =
    let r = c.args.self.now in
    let s = setting r in
    let h = seen r in
    let o = c.nearest_target-in-Normal.result in
    subst (λ (n : PolicyName). PicksLoad n (cursor_at s h) s h c.args.q o) (sym c.in-Normal.is) (normal_load (cursor_at s h) s h c.args.q o c.nearest_target-in-Normal.ensures)
