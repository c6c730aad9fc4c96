use Rattle.story_laws.proofs.Laws.{next_has_room}
use Rattle.story_laws.proofs.bounds.next_entry_has_room.Goals as goal

pub returns : goal.returns
returns c = next_has_room
