use Rattle.std.proofs.Common.{sym}
use Rattle.story_text.proofs.Cuts.{cut_here, none_here}
use Rattle.inspect_verdict.proofs.Linewise.{first_cut, first_line_none}
use Rattle.inspect_verdict.proofs.lines.first_line.Goals as goal

pub returns-in-Some : goal.returns-in-Some
returns-in-Some c = first_cut c.args.text.now c.in-Some.end _ (cut_here 10 c.args.text.now c.in-Some.end (sym c.in-Some.ensures.place)) c.in-Some.ensures.there

pub returns-in-None : goal.returns-in-None
returns-in-None c = sym (first_line_none c.args.text.now (none_here 10 c.args.text.now (sym c.in-None.ensures.place)))
