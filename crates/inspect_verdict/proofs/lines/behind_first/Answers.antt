use Rattle.std.proofs.Common.{◌∙◌, sym}
use Rattle.story_text.proofs.Cuts.{cut_here, none_here}
use Rattle.inspect_verdict.proofs.Linewise.{behind_cut, behind_first_none}
use Rattle.inspect_verdict.proofs.lines.behind_first.Goals as goal

pub returns-in-Some : goal.returns-in-Some
returns-in-Some c = behind_cut c.args.text.now _ _ (cut_here 10 c.args.text.now c.in-Some.end (sym c.in-Some.ensures.place))

pub returns-in-None : goal.returns-in-None
returns-in-None c = c.as_slice.ensures ∙ sym (behind_first_none c.args.text.now (none_here 10 c.args.text.now (sym c.in-None.ensures.place)))
