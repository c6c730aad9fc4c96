-- proofs/places/+note/Invariants.antt
use Rattle.std.proofs.Common.{length}
use Rattle.policy_plain.proofs.places.+note.Given as goal

abbrev pub decreases-note : goal.decreases-note
decreases-note l = length l.list.now
