use Rattle.prepare_auto.proofs.Coming.{a-table, only-titles}
use Rattle.prepare_auto.proofs.writing.write_auto.Goals as goal

pub returns-then-has_titles : goal.returns-then-has_titles
returns-then-has_titles g c = rw c.none.ensures (only-titles c.args.asked.now c.args.given c.args.text.now c.in-Ok.look c.hint.result c.has_titles.result _
    c.hint.ensures c.in-Ok.ensures c.has_titles.ensures c.if-has_titles.true)

pub returns : goal.returns
returns g c = a-table c.args.asked.now c.args.given c.args.text.now c.in-Ok.look c.hint.result c.has_titles.result c.in_ok-done.done.1 c.of.result _ _
    c.hint.ensures c.in-Ok.ensures c.has_titles.ensures c.if-has_titles.false c.of.ensures c.in_ok-done.ensures
