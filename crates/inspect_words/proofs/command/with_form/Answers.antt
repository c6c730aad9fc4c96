use Rattle.std.proofs.lemmas.Result.{IfOk-weaker}
use Rattle.inspect_words.proofs.Growing.{next}
use Rattle.inspect_words.proofs.command.with_form.Goals as goal

pub returns : goal.returns
returns c = λ a is. IfOk-weaker c.arg.result _ _ (λ new. next _ _ new a _ is c.flag.ensures.rule c.flag.ensures.local) c.arg.ensures
