use Rattle.prepare_words.proofs.Steps.{one_more}
use Rattle.std.proofs.Common.{◌∙◌, ap}
use Rattle.prepare_words.specs.Views.{columns_view}
use Rattle.prepare_words.proofs.columns.push_places.Goals as goal

pub loop-i-preserved : goal.loop-i-preserved
loop-i-preserved c = ap columns_view c.in_ok-push.ensures.items ∙ one_more c.loop-i.columns.items _ c.args.from c.loop-i.i c.loop-i.invariant
