-- What a run did.
use Rattle.std.specs.Prelude.{ℕ, List}
use Rattle.scan_story.specs.declared.entry.Entry.{Entry}
use Rattle.interest_book.specs.declared.policy.Policy.{Ghosts as Policy}
use Rattle.batch_ends.specs.declared.taken.Taken.{Taken}
use Rattle.run_ends.specs.Work.{Work, work}
use Rattle.run_ends.specs.Policies.{PolicyAt, policy_at}
use Rattle.run_ends.specs.OverDevices.{Devices}

-- WHAT A RUN DID under a policy: how it ended, what its workers recorded, the oldest entry first, and the chunks that
-- its scans took; story and chunks are none where no worker ran
pub record Did : Type 0 where
  pub policy : PolicyAt
  pub status : ℕ
  pub story : List Entry
  pub taken : List Taken

abbrev pub did_with : PolicyAt → ℕ → List Entry → List Taken → Did
did_with policy status story taken = record { policy = policy; status = status; story = story; taken = taken }

-- a policy of a type, as it is handed in
abbrev pub policy_of : {P : Type 0} → Policy P → P → PolicyAt
policy_of P p = policy_at (P.name p) (P.cursor p)

-- the work of its workers, from one depot to another
abbrev pub work_of : Devices → Did → Work
work_of over did = work did.policy.name did.policy.cursor over.depot.old over.depot.new did.story did.taken
