use Rattle.batch_ends.proofs.Results.{alike_parts, answers_parts, few_parts, front}
use Rattle.batch_ends.proofs.answering.join.Goals as goal

pub join_parts-requires-clause-alike : goal.join_parts-requires-clause-alike
join_parts-requires-clause-alike c =
    let left = c.remove-first.new.self.items in
    let first = c.remove-first.result in
    alike_parts c.args.all.items left first (front c.args.all.items left first c.requires.some c.remove-first.ensures.value c.remove-first.ensures.items) c.requires

pub join_parts-requires-clause-few : goal.join_parts-requires-clause-few
join_parts-requires-clause-few c =
    let left = c.remove-first.new.self.items in
    let first = c.remove-first.result in
    few_parts c.args.all.items left first (front c.args.all.items left first c.requires.some c.remove-first.ensures.value c.remove-first.ensures.items) c.requires

pub returns-in-Ok-clause-over : goal.returns-in-Ok-clause-over
returns-in-Ok-clause-over c =
    let left = c.remove-first.new.self.items in
    let first = c.remove-first.result in
    answers_parts c.args.all.items left first (front c.args.all.items left first c.requires.some c.remove-first.ensures.value c.remove-first.ensures.items) c.in-Ok.whole c.finish.result c.in-Ok.ensures.stands c.in-Ok.ensures.plan c.finish.ensures.answer
