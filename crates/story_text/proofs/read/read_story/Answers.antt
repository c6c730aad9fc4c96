use Rattle.std.proofs.Common.{rules, ◌≡◌, ◌+◌, length}
use Rattle.story_text.specs.Reading.{IsFirstBad, BeginsBadly}
use Rattle.story_text.proofs.Lines.{bad_is_none}
use Rattle.story_text.proofs.read.read_story.Goals as goal

pub returns-in-Ok-None-clause-no_story : goal.returns-in-Ok-None-clause-no_story
returns-in-Ok-None-clause-no_story c es fit is line same =
    let number : length c.loop-rest.entries.items + 1 ≡ c.len.result + 1 = search rules in
    let bad : BeginsBadly c.loop-rest.rest.now = search rules in
    let first : IsFirstBad c.args.bytes.now (c.len.result + 1) =
    record { entries = c.loop-rest.entries.items; fit = c.loop-rest.invariant.fit; rest = c.loop-rest.rest.now; joined = c.loop-rest.invariant.joined; number = number; bad = bad } in
    bad_is_none c.args.bytes.now (c.len.result + 1) first es fit is
