use Rattle.std.proofs.Common.{length, ap, arith, length-drop}
use Rattle.inspect_picture.proofs.Sizes.{entries_within}
use Rattle.inspect_picture.proofs.trace.story_of_output.Goals as goal

pub returns-in-Ok-clause-size : goal.returns-in-Ok-clause-size
returns-in-Ok-clause-size c =
    let within = entries_within c.in-Ok.entries.items in
    let same = ap length c.in-Ok.ensures.story in
    omega (arith, within, same, length-drop c.start_of-start.result.place c.args.printed.now, c.requires.size)
