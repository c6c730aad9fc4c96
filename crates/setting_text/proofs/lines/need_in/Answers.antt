use Rattle.std.proofs.Common.{◌∙◌, Some, ap, map, sym}
use Rattle.setting_text.proofs.Wording.{need_other, need_split}
use Rattle.setting_text.proofs.lines.need_in.Goals as goal

pub returns-in_default-clause-none : goal.returns-in_default-clause-none
returns-in_default-clause-none c = λ n fits is.
    let told = c.in_ok-n.ensures.reads n fits (ap (map _) c.deref.ensures.value ∙ (c.in_ok-words.ensures ∙ need_split c.args.line.now n fits is)) in
    let none = c.in_default.is in
    absurd cc

pub returns-clause-none : goal.returns-clause-none
returns-clause-none c = λ n fits is.
    let words = ap (map _) c.deref.ensures.value ∙ (c.in_ok-words.ensures ∙ need_split c.args.line.now n fits is) in
    need_other _ n c.args.line.now c.as_bytes.result.now c.is_same.result (sym c.in-Some.is ∙ c.in_ok-n.ensures.reads n fits words) (c.as_bytes.ensures.value ∙ c.in_ok-text.ensures) is c.is_same.ensures.1 c.if-is_same.false
