use Rattle.run_ends.proofs.DecidedRuns.{compared_tells, lines_are}
use Rattle.run_ends.proofs.Unanswered.{one-has-cause}
use Rattle.coop_run.proofs.comparing.compare.Goals as goal

pub returns-clause-lines : goal.returns-clause-lines
returns-clause-lines g c = lines_are _ _ _ _ _ c.compare_all.result.runs.items c.compare_all.result.ending c.compare_all.ensures.compared

pub returns-clause-licensed : goal.returns-clause-licensed
returns-clause-licensed g c = (compared_tells _ _ _ _ _ c.compare_all.result.runs.items _ c.compare_all.ensures.compared).licensed

pub returns-clause-reads : goal.returns-clause-reads
returns-clause-reads g c = (compared_tells _ _ _ _ _ c.compare_all.result.runs.items _ c.compare_all.ensures.compared).gets

pub returns-clause-one : goal.returns-clause-one
returns-clause-one g c = one-has-cause _ _ _ _ _ c.compare_all.result.runs.items c.compare_all.result.ending c.compare_all.ensures.compared
