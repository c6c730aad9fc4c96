use Rattle.std.proofs.Common.{◌≡◌, length}
use Rattle.sql_text.specs.Reading.{all_at}
use Rattle.sql_text.specs.Words.{tokens_of}
use Rattle.sql_text.proofs.ReadLists.{follow}
use Rattle.sql_text.proofs.lists.all_at.Given as goal

abbrev pub invariant-loop-more : goal.invariant-loop-more
invariant-loop-more g l = (let thing = g.T.Listed.thing_at in follow thing l.things.items (tokens_of l.left) ≡ all_at thing (tokens_of l.fn.words))

abbrev pub decreases-loop-more : goal.decreases-loop-more
decreases-loop-more g l = length (tokens_of l.left)
