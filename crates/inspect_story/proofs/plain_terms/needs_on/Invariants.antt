use Rattle.std.proofs.Common.{◌≡◌, map, take}
use Rattle.chunk_interest.specs.Fresh.{as_need}
use Rattle.inspect_story.specs.Freedom.{needs_for}
use Rattle.inspect_story.proofs.plain_terms.needs_on.Given as goal

abbrev pub invariant-loop-need : goal.invariant-loop-need
invariant-loop-need l = map as_need l.dealt.items ≡ needs_for l.freedom l.workers l.entries (take l.need-index l.needs)
