use Rattle.std.proofs.Common.{◌≡◌, ◌+◌, ◌++◌, Some, take}
use Rattle.scan_story.specs.Views.{past}
use Rattle.scan_story.specs.Loads.{underway}
use Rattle.scan_story.specs.Spent.{reads}
use Rattle.scan_story.specs.Causes.{last_fault}
use Rattle.abm_policy.specs.Loads.{load_at, all_filled, pieces}
use Rattle.abm_policy.proofs.desk.Desk.finish_first.Given as goal

abbrev pub invariant-loop-i : goal.invariant-loop-i
invariant-loop-i g l = record {
  entries : l.self ≡ l.fn.self ++ all_filled l.w (take l.i l.slots);
  load : underway g.S.Origin.origin.setting (past l.self) ≡ Some (load_at l.w l.query l.chunk (pieces l.slots) l.slots (take l.i (pieces l.slots)));
  reads : reads (past l.self) ≡ reads (past l.fn.self) + l.i;
  last_fault : last_fault g.S.Origin.origin.faults (past l.self) ≡ last_fault g.S.Origin.origin.faults (past l.fn.self);
}
