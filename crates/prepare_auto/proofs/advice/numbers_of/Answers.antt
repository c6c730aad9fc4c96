use Rattle.std.proofs.Common.{rules}
use Rattle.prepare_page.specs.Advice.{needs_rules}
use Rattle.prepare_auto.specs.Advised.{places_below}
use Rattle.prepare_auto.proofs.Keeping.{places-more}
use Rattle.prepare_auto.proofs.advice.numbers_of.Goals as goal

pub loop-column-init : goal.loop-column-init
unfolding places_below
loop-column-init c = search rules

pub loop-column-preserved : goal.loop-column-preserved
loop-column-preserved c = rw (places-more (needs_rules c.args.survey.now c.args.reading) c.loop-column.column) (search rules)
