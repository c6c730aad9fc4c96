use Rattle.std.proofs.Common.{◌≡◌, true, subst}
use Rattle.inspect_referee.specs.declared.rank.Choice.{Choice}
use Rattle.inspect_referee.specs.Ranks.{is_candidate}
use Rattle.inspect_referee.specs.Seen.{setting, seen}
use Rattle.inspect_referee.proofs.Bounds.{trigger_small}
use Rattle.inspect_referee.proofs.referee.Referee.rank_of.Goals as goal

pub trigger_rank-requires-clause-query : goal.trigger_rank-requires-clause-query
trigger_rank-requires-clause-query c =
    let r = c.args.self.now in
    let P : Choice → Type 0 = λ k. is_candidate (setting r) (seen r) k c.args.q c.args.x ≡ true in
    trigger_small r.book (setting r) (seen r) c.args.x c.requires.reading.stands (subst P c.in-Trigger.is c.requires.candidate)
