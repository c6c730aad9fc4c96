use Rattle.story_ends.proofs.Agreeing.{pins_and_fills_apart}
use Rattle.story_ends.proofs.frames.pins_and_fills_are_apart.Goals as goal

pub returns : goal.returns
returns c = pins_and_fills_apart
