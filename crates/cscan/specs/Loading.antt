-- What the end of a load adds to the story.
use Rattle.std.specs.Prelude.{◌≡◌, ◌++◌, ℕ, List}
use Rattle.scan_story.specs.declared.entry.Entry.{Entry}
use Rattle.scan_story.specs.declared.setting.Setting.{Setting}
use Rattle.scan_story.specs.Makers.{AllBy}
use Rattle.scan_story.specs.Views.{past}
use Rattle.scan_story.specs.Legal.{Legal}
use Rattle.abm_policy.specs.Turns.{RunsOn, MayTurn}
use Rattle.baton.specs.Passes.{PassView, Went}
use Rattle.cscan.specs.Answers.{AreOfLoads}

-- the worker added entries of loads of its own
pub record Settles (w : ℕ) (old new : List Entry) : Type 0 where
  pub added : List Entry
  pub is : new ≡ old ++ added
  pub by_worker : AllBy w added
  pub of_loads : AreOfLoads added

-- the worker's load has ended, and whose query runs on it may turn again
pub record IsSettled (s : Setting) (w : ℕ) (p r : PassView) : Type 0 where
  pub added : List Entry
  pub of_loads : AreOfLoads added
  pub went : Went p r added
  pub legal : Legal s (past r.seen)
  pub may : (q : ℕ) → RunsOn s (past p.seen) q w → MayTurn s (past r.seen) w q
