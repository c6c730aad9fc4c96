use Rattle.relevance.proofs.Chosen.{active_small}
use Rattle.policy_plain.proofs.Attaching.{active_least}
use Rattle.policy_plain.proofs.attach.AttachPolicy.pick_load.Goals as goal

pub start_of-requires-clause-least : goal.start_of-requires-clause-least
start_of-requires-clause-least c = active_least c.args.book.now c.args.q c.requires

pub start_of-requires-clause-most : goal.start_of-requires-clause-most
start_of-requires-clause-most c = active_small c.args.book.now c.args.q c.requires

pub first_to_load-requires : goal.first_to_load-requires
first_to_load-requires c = active_small c.args.book.now c.args.q c.requires

pub serve-requires-clause-least : goal.serve-requires-clause-least
serve-requires-clause-least c = active_least c.args.book.now c.args.q c.requires

pub serve-requires-clause-most : goal.serve-requires-clause-most
serve-requires-clause-most c = active_small c.args.book.now c.args.q c.requires
