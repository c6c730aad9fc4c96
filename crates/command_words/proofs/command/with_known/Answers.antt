use Rattle.std.proofs.lemmas.Result.{IfOk-weaker}
use Rattle.command_words.proofs.Adding.{next}
use Rattle.command_words.proofs.command.with_known.Goals as goal

pub returns-in_ok-arg-in-RunBoxed : goal.returns-in_ok-arg-in-RunBoxed
returns-in_ok-arg-in-RunBoxed c =
    let policy = next _ _ _ _ _ c.in_ok-plain.ensures c.option.ensures.rule c.option.ensures.local c.in_ok-arg-in-RunBoxed.ensures in
    rw c.in-RunBoxed.is (IfOk-weaker c.arg-in-RunBoxed.result _ _ (λ new. next _ _ _ _ _ policy c.flag.ensures.rule c.flag.ensures.local) c.arg-in-RunBoxed.ensures)
