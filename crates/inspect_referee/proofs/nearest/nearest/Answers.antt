use Rattle.inspect_referee.proofs.Nearing.{nearest_up, picked_around}
use Rattle.inspect_referee.proofs.nearest.nearest.Goals as goal

pub returns-in-Some : goal.returns-in-Some
returns-in-Some c = λ s lt inside. nearest_up s c.args.start c.in-Some.c c.args.chunks.now lt inside c.in-Some.ensures.least

pub returns-in-None : goal.returns-in-None
returns-in-None c = λ s lt inside. picked_around s c.args.start c.args.chunks.now c.least_from-in-None.result lt c.in-None.ensures.none c.least_from-in-None.ensures.none c.least_from-in-None.ensures.least
