use Rattle.std.proofs.Common.{◌∙◌}
use Rattle.trial_words.proofs.outputs.is_lost.Goals as goal

pub prints-requires-clause-answers : goal.prints-requires-clause-answers
prints-requires-clause-answers g c = λ dicts one.
    let outcomes = c.deref.ensures.value ∙ c.in_ok-outcomes.ensures.items in
    let answers = c.deref-2.ensures.value ∙ c.in_ok-answers.ensures.items in
    rw outcomes (rw answers (c.requires dicts c.in_ok-plan.plan c.in_ok-plan.ensures.rows c.in_ok-plan.ensures.items, tt))
