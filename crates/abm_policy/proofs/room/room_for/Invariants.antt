use Rattle.std.proofs.Common.{◌≡◌, take}
use Rattle.abm_policy.proofs.Sizes.{wanted}
use Rattle.abm_policy.proofs.room.room_for.Given as goal

abbrev pub invariant-loop-need : goal.invariant-loop-need
invariant-loop-need l = l.wanted ≡ wanted (take l.need-index l.needs)
