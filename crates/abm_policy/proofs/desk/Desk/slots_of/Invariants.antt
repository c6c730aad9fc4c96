use Rattle.std.proofs.Common.{◌≡◌, length, take}
use Rattle.scan_story.specs.Views.{past}
use Rattle.abm_policy.specs.Loads.{pieces}
use Rattle.abm_policy.specs.Turns.{StandIn}
use Rattle.abm_policy.proofs.desk.Desk.slots_of.Given as goal

abbrev pub invariant-loop-i : goal.invariant-loop-i
invariant-loop-i g l = record {
  same : pieces l.slots ≡ take l.i l.read;
  count : length l.slots ≡ l.i;
  frames : StandIn g.S.Origin.origin.setting (past l.self) l.slots;
}
