-- What the workers of a run did.
use Rattle.std.specs.Prelude.{ℕ, List}
use Rattle.scan_story.specs.declared.entry.Entry.{Entry}
use Rattle.scan_story.specs.declared.setting.PolicyName.{PolicyName}
use Rattle.batch_ends.specs.declared.taken.Taken.{Taken}
use Rattle.run_ends.specs.Devices.{DepotAt}

-- the work of a run: the name and the first cursor of its policy, its depot before and after, the story of its workers,
-- the oldest entry first, and the chunks that its scans took; story and chunks are none where no worker ran
pub record Work : Type 0 where
  pub policy : PolicyName
  pub cursor : List ℕ
  pub old : DepotAt
  pub new : DepotAt
  pub story : List Entry
  pub taken : List Taken

abbrev pub work : PolicyName → List ℕ → DepotAt → DepotAt → List Entry → List Taken → Work
work policy cursor old new story taken = record {
  policy = policy;
  cursor = cursor;
  old = old;
  new = new;
  story = story;
  taken = taken;
}
