use Rattle.inspect_referee.specs.Seen.{setting, seen}
use Rattle.inspect_referee.proofs.referee.Referee.better_victim.Goals as goal

pub better_victim_at-requires-clause-unheld : goal.better_victim_at-requires-clause-unheld
better_victim_at-requires-clause-unheld c =
    let r = c.args.self.now in c.unheld-unheld.ensures.unheld (setting r) (seen r) c.requires.reading.stands c.in-Some.y c.in-Some.ensures.below c.in-Some.ensures.least.there
