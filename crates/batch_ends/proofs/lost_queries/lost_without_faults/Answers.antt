use Rattle.batch_ends.proofs.Faultless.{lost_for_memory}
use Rattle.batch_ends.proofs.lost_queries.lost_without_faults.Goals as goal

pub returns : goal.returns
returns c = λ h faults parts query why licensed low lost. lost_for_memory faults low h licensed parts query 0 parts why lost
