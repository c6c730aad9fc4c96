use Rattle.std.proofs.Common.{sym}
use Rattle.story_text.proofs.Cuts.{cut_here, none_here}
use Rattle.story_text.proofs.read.cut.Goals as goal

pub returns-in-Some-clause-parts : goal.returns-in-Some-clause-parts
returns-in-Some-clause-parts c = cut_here c.args.mark c.args.bytes.now c.in-Some.i (sym c.in-Some.ensures.value)

pub returns-in-None-clause-whole : goal.returns-in-None-clause-whole
returns-in-None-clause-whole c e = none_here c.args.mark c.args.bytes.now (sym c.in-None.ensures.value)
