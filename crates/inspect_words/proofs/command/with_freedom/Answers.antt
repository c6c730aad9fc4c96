use Rattle.std.proofs.lemmas.Result.{IfOk-weaker}
use Rattle.inspect_words.specs.Command.{freedom_rules}
use Rattle.inspect_words.proofs.Growing.{all}
use Rattle.inspect_words.proofs.command.with_freedom.Goals as goal

pub returns : goal.returns
returns c = λ a is. IfOk-weaker c.args-2.result _ _
    (λ new. all c.args.command c.in_ok-options.options.items new a freedom_rules (rw c.in_ok-options.ensures.items (c.option.ensures.rule, c.option.ensures.local, (c.option-2.ensures.rule, c.option-2.ensures.local, tt))) is)
    c.args-2.ensures
