use Rattle.std.proofs.Common.{◌∙◌, Some, ap, map, sym}
use Rattle.setting_text.proofs.Wording.{dash_is, list_split}
use Rattle.setting_text.proofs.lists.numbers_in.Goals as goal

pub returns-then-is_dash-clause-reads : goal.returns-then-is_dash-clause-reads
returns-then-is_dash-clause-reads c = λ ns short is. ap Some (c.new.ensures ∙ dash_is ns short (sym (c.is_dash.ensures.0 c.if-is_dash.true) ∙ is))

pub returns-clause-reads : goal.returns-clause-reads
returns-clause-reads c = λ ns short is.
    c.in_ok-list.ensures.reads ns short (ap (map _) c.deref.ensures.value ∙ (c.in_ok-parts.ensures ∙ list_split c.args.word.now ns short (λ e. (let yes = c.is_dash.ensures.1 e in let no = c.if-is_dash.false in absurd cc)) is))
