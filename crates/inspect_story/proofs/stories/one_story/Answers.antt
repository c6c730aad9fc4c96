use Rattle.inspect_story.proofs.OneStory.{one_story}
use Rattle.inspect_story.proofs.stories.one_story.Goals as goal

pub returns : goal.returns
returns c = one_story
