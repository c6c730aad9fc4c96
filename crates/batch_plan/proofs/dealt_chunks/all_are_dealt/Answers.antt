use Rattle.batch_plan.proofs.Dealt.{all_dealt}
use Rattle.batch_plan.proofs.dealt_chunks.all_are_dealt.Goals as goal

pub returns : goal.returns
returns c needed parts rise some = all_dealt needed parts some rise
