use Rattle.std.proofs.Common.{refl}
use Rattle.std.proofs.lemmas.Result.{IfOk-weaker}
use Rattle.command_words.proofs.Adding.{next}
use Rattle.command_words.proofs.command.with_plain.Goals as goal

pub returns : goal.returns
returns c =
    let threads = next _ _ _ _ _ refl c.option.ensures.rule c.option.ensures.local c.in_ok-arg.ensures in
    let frames = next _ _ _ _ _ threads c.option-2.ensures.rule c.option-2.ensures.local c.in_ok-arg-2.ensures in
    let rows = next _ _ _ _ _ frames c.option-3.ensures.rule c.option-3.ensures.local c.in_ok-arg-3.ensures in
    let layout = next _ _ _ _ _ rows c.option-4.ensures.rule c.option-4.ensures.local c.in_ok-arg-4.ensures in
    let parts = next _ _ _ _ _ layout c.option-5.ensures.rule c.option-5.ensures.local c.in_ok-arg-5.ensures in
    let scratch = next _ _ _ _ _ parts c.option-6.ensures.rule c.option-6.ensures.local c.in_ok-arg-6.ensures in
    let summary = next _ _ _ _ _ scratch c.flag.ensures.rule c.flag.ensures.local c.in_ok-arg-7.ensures in
    IfOk-weaker c.arg-8.result _ _ (λ new. next _ _ _ _ _ summary c.flag-2.ensures.rule c.flag-2.ensures.local) c.arg-8.ensures
