use Rattle.std.proofs.Common.{◌∙◌, ap, sym, Err, Some}
use Rattle.inspect_words.specs.Asked.{judge_is}
use Rattle.command_words.specs.Views.{request_view}
use Rattle.inspect_words.proofs.Asking.{judges}
use Rattle.inspect_words.proofs.asked_words.judged.Goals as goal

pub returns-in-Ok-clause-asked : goal.returns-in-Ok-clause-asked
returns-in-Ok-clause-asked c = judges c.args.words.now c.in-Some.before.now c.in-Some.output.now _ c.in-Some.ensures.cases.0 c.in-Ok.ensures.ok
    ∙ ap (λ name. Some (judge_is (request_view c.in-Ok.run') name)) (sym c.deref.ensures)

pub returns-in-Err-Usage-clause-refused : goal.returns-in-Err-Usage-clause-refused
returns-in-Err-Usage-clause-refused c =
    judges c.args.words.now c.in-Some.before.now c.in-Some.output.now _ c.in-Some.ensures.cases.0 (c.in-Err-Usage.ensures.usage (ap Err c.in-Err-Usage.field-0-is))
