use Rattle.std.proofs.Common.{◌∙◌}
use Rattle.trial_words.proofs.outputs.a_run_without_refusals_has_status_0.Goals as goal

pub prints-requires-clause-answers : goal.prints-requires-clause-answers
prints-requires-clause-answers g c = λ dicts one.
    let outcomes = c.deref.ensures.value ∙ c.in_ok-outcomes.ensures.items in
    let answers = c.deref-2.ensures.value ∙ c.in_ok-answers.ensures.items in
    rw outcomes (rw answers (c.in_ok-count.ensures.cells dicts, (c.in_ok-sums.ensures.cells dicts one, tt)))
