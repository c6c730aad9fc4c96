use Rattle.std.proofs.Common.{◌∙◌, ℕ, List, get_or, sym, ap}
use Rattle.scan_story.specs.Legal.{cursor_at}
use Rattle.inspect_referee.specs.Seen.{setting, seen}
use Rattle.inspect_referee.proofs.Settling.{reach_found, reach_none}
use Rattle.inspect_referee.proofs.referee.Referee.reach.Goals as goal

pub returns-in-Some : goal.returns-in-Some
returns-in-Some c =
    let r = c.args.self.now in
    let s = setting r in
    let h = seen r in
    c.dist.ensures ∙ reach_found s h (cursor_at s h) c.args.q c.at.result c.in-Some.c (c.at.ensures ∙ ap (λ (xs : List ℕ). get_or xs 0 0) (c.deref.ensures.value ∙ c.requires.reading.cursor)) c.in-Some.ensures

pub returns-in-None : goal.returns-in-None
returns-in-None c = let r = c.args.self.now in reach_none (setting r) (seen r) (cursor_at (setting r) (seen r)) c.args.q c.in-None.ensures
