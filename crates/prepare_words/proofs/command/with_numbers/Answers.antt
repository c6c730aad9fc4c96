use Rattle.std.proofs.lemmas.Result.{IfOk-weaker}
use Rattle.prepare_words.specs.Command.{number_rules}
use Rattle.prepare_words.proofs.Growing.{all}
use Rattle.prepare_words.proofs.command.with_numbers.Goals as goal

pub returns : goal.returns
returns c = λ a is. IfOk-weaker c.args-2.result _ _
    (λ new. all c.args.command c.in_ok-rules.rules.items new a number_rules (rw c.in_ok-rules.ensures.items (c.options.ensures.rule, c.options.ensures.local, (c.options-2.ensures.rule, c.options-2.ensures.local, (c.flag.ensures.rule, c.flag.ensures.local, (c.option.ensures.rule, c.option.ensures.local, (c.flag-2.ensures.rule, c.flag-2.ensures.local, (c.option-2.ensures.rule, c.option-2.ensures.local, (c.flag-3.ensures.rule, c.flag-3.ensures.local, tt)))))))) is)
    c.args-2.ensures
