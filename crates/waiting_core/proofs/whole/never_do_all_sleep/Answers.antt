use Rattle.waiting_core.proofs.Wholes.{never_do_all_sleep}
use Rattle.waiting_core.proofs.whole.never_do_all_sleep.Goals as goal

pub returns : goal.returns
returns c = never_do_all_sleep
