use Rattle.std.proofs.Common.{subst}
use Rattle.story_text.specs.Reading.{IsEntryOf}
use Rattle.story_text.proofs.Lines.{other_bad}
use Rattle.story_text.proofs.read.first_line.Goals as goal

pub returns-in-Ok-None-clause-none : goal.returns-in-Ok-None-clause-none
returns-in-Ok-None-clause-none c e =
    other_bad c.args.text.now c.in-Some.line.now c.in-Some.rest.now c.requires c.in-Some.ensures.parts
    (subst (IsEntryOf c.in-Some.line.now) c.in-Ok-None.field-0-is c.in-Ok-None.ensures)
