use Rattle.std.proofs.Common.{sym, ◌∙◌}
use Rattle.story_text.proofs.Cuts.{cut_here, none_here, one_cut, no_cut}
use Rattle.inspect_story.proofs.begun.behind_line.Goals as goal

pub returns-in-Some : goal.returns-in-Some
returns-in-Some c = λ line rest clean is.
    let cut = cut_here 10 c.args.text.now c.in-Some.end (sym c.in-Some.ensures.place) in
    (one_cut 10 _ line _ rest cut.first clean (sym cut.joined ∙ is)).1

pub returns-in-None : goal.returns-in-None
returns-in-None c = λ line rest clean is. absurd (no_cut 10 c.args.text.now line rest (none_here 10 c.args.text.now (sym c.in-None.ensures.place)) is)
