use Rattle.std.proofs.Common.{◌≡◌, ◌-◌}
use Rattle.scan_story.specs.Views.{past}
use Rattle.scan_story.specs.Loads.{underway, free_frames}
use Rattle.abm_policy.specs.Loads.{AddsEvicts}
use Rattle.abm_policy.proofs.desk.Desk.make_room.Given as goal

abbrev pub invariant-loop-self : goal.invariant-loop-self
invariant-loop-self g l = record {
  added : AddsEvicts l.w l.fn.self l.self;
  load : underway g.S.Origin.origin.setting (past l.self) ≡ underway g.S.Origin.origin.setting (past l.fn.self);
}

abbrev pub decreases-loop-self : goal.decreases-loop-self
decreases-loop-self g l = l.need - free_frames g.S.Origin.origin.setting (past l.self)
