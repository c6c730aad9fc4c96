use Rattle.std.proofs.Common.{sym, ◌∙◌}
use Rattle.story_text.proofs.Cuts.{cut_here, none_here, one_cut, no_cut}
use Rattle.inspect_verdict.proofs.PartLines.{cut_end}
use Rattle.inspect_verdict.proofs.part.behind_line.Goals as goal

pub returns-in-Some-clause-line : goal.returns-in-Some-clause-line
returns-in-Some-clause-line c = (_, cut_here 10 c.args.text.now c.in-Some.end (sym c.in-Some.ensures.place))

pub returns-in-Some-clause-end : goal.returns-in-Some-clause-end
returns-in-Some-clause-end c = cut_end 10 _ _ _ (cut_here 10 c.args.text.now c.in-Some.end (sym c.in-Some.ensures.place))

pub returns-in-Some-clause-rest : goal.returns-in-Some-clause-rest
returns-in-Some-clause-rest c words rest clean is =
    let cut = cut_here 10 c.args.text.now c.in-Some.end (sym c.in-Some.ensures.place) in
    (one_cut 10 _ words _ rest cut.first clean (sym cut.joined ∙ is)).1

pub returns-in-None-clause-rest : goal.returns-in-None-clause-rest
returns-in-None-clause-rest c words rest clean is = no_cut 10 c.args.text.now words rest (none_here 10 c.args.text.now (sym c.in-None.ensures.place)) is
