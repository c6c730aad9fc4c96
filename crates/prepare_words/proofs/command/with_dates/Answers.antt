use Rattle.std.proofs.lemmas.Result.{IfOk-weaker}
use Rattle.prepare_words.specs.Command.{date_rules}
use Rattle.prepare_words.proofs.Growing.{all}
use Rattle.prepare_words.proofs.command.with_dates.Goals as goal

pub returns : goal.returns
returns c = λ a is. IfOk-weaker c.args-2.result _ _
    (λ new. all c.args.command c.in_ok-rules.rules.items new a date_rules (rw c.in_ok-rules.ensures.items (c.options.ensures.rule, c.options.ensures.local, (c.option.ensures.rule, c.option.ensures.local, tt))) is)
    c.args-2.ensures
