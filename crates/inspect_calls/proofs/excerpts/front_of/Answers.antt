use Rattle.inspect_calls.proofs.Cutting.{front_is}
use Rattle.inspect_calls.proofs.excerpts.front_of.Goals as goal

pub returns : goal.returns
returns c = front_is c.args.text.now c.shown_len-end.result c.shown_len-end.ensures.0 c.if-text-le-MOST_SHOWN.false c.shown_len-end.ensures.1
