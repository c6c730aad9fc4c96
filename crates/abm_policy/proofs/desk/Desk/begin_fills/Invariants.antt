use Rattle.std.proofs.Common.{◌≡◌, ◌≤◌, ◌+◌, ◌++◌, [], Some, length, take}
use Rattle.scan_story.specs.Views.{past}
use Rattle.scan_story.specs.Loads.{underway, free_frames}
use Rattle.abm_policy.specs.Loads.{load_at, fills, pieces, AreLeastFills}
use Rattle.abm_policy.proofs.desk.Desk.begin_fills.Given as goal

abbrev pub invariant-loop-i : goal.invariant-loop-i
invariant-loop-i g l = record {
  entries : l.self ≡ l.fn.self ++ fills l.w l.slots;
  same : pieces l.slots ≡ take l.i l.missing;
  count : length l.slots ≡ l.i;
  load : underway g.S.Origin.origin.setting (past l.self) ≡ Some (load_at l.w l.query l.chunk l.missing l.slots []);
  free : length l.missing ≤ free_frames g.S.Origin.origin.setting (past l.self) + l.i;
  least : AreLeastFills g.S.Origin.origin.setting (past l.fn.self) l.w l.slots;
}
