-- How much each worker may yet do before somebody writes, as a number that falls at each step which writes nothing.
use Rattle.std.proofs.Common.{◌==◌, ◌+◌, ◌-◌, ◌*◌, true, false, ℕ, Bool}
use Rattle.waiting_core.specs.Lobby as lobby
use Rattle.waiting_core.specs.Bell as bell
use Rattle.waiting_core.specs.Lobby.Stage.{Out, Holds, Comes, Read, Entered, Looked, Asleep, Gave, Found, Taken, Raised}
use Rattle.waiting_core.specs.Bell.Ring.{Idle, Rings, Cleared, Counted}
use Rattle.waiting_core.specs.Whole.{Task, After}
use Rattle.waiting_core.specs.Whole.After.{Turning, Working, Loading, Over}
use Rattle.waiting_core.specs.Whole.Task.{Away, Turns, LiesDown, Rests, Rises, Works, Loads, Looks, Sees, RingsFor}
use Rattle.waiting_core.proofs.Sounds.{has_query, rises}
use Rattle.waiting_ends.specs.Order.{Crew}
use Rattle.waiting_ends.proofs.Totals.{total}

-- All that counts of one worker

pub record Parts : Type 0 where
  pub calls : ℕ
  pub task : Task
  pub active : Bool
  pub rest : bell.Rest
  pub rings : ℕ
  pub ring : bell.Ring
  pub adds : Bool
  pub owes : Bool
  pub due : ℕ → Bool
  pub at : lobby.Stage
  pub served : Bool

abbrev pub parts : Crew → ℕ → Parts
parts r v = record {
  calls = r.whole.lobby.calls;
  task = r.whole.task v;
  active = r.whole.active v;
  rest = r.whole.bell.rest v;
  rings = r.whole.bell.rings v;
  ring = r.whole.bell.ring v;
  adds = r.whole.adds v;
  owes = r.whole.owes v;
  due = r.whole.due v;
  at = r.whole.lobby.at v;
  served = r.served v;
}

-- In the lobby, where somebody was called c times

-- whoever read fewer calls looks once more
abbrev pub late : Bool → ℕ
late true = 0
late false = 5

abbrev pub stage : ℕ → ℕ → lobby.Stage → ℕ
stage k c Out = 0
stage k c Holds = 5 * k + 9
stage k c Comes = 4
stage k c (Read n) = 3 + late (n == c)
stage k c (Entered n) = 2 + late (n == c)
stage k c (Looked n) = 1 + late (n == c)
stage k c (Asleep n) = 0
stage k c Gave = 5 * k + 8
stage k c Found = 5 * k + 7
stage k c Taken = 5 * k + 6
stage k c Raised = 5

-- until it has the desk, for what it doesn't come for yet
abbrev pub ahead : ℕ → lobby.Stage → Bool → ℕ
ahead k Out b = 5 * k + 13
ahead k Holds true = 5 * k + 13
ahead k Holds false = 0
ahead k Comes b = 5 * k + 8
ahead k (Read n) b = 5 * k + 8
ahead k (Entered n) b = 5 * k + 8
ahead k (Looked n) b = 5 * k + 8
ahead k (Asleep n) b = 5 * k + 8
ahead k Gave b = 5 * k + 13
ahead k Found b = 5 * k + 13
ahead k Taken b = 5 * k + 13
ahead k Raised b = 5 * k + 13

-- Its task

abbrev pub after : ℕ → After → ℕ
after k Turning = 5 * k + 20
after k Working = 5 * k + 21
after k Loading = 0
after k Over = 0

abbrev pub base : ℕ → Task → ℕ
base k Away = 0
base k Turns = 5 * k + 20
base k LiesDown = 0
base k Rests = 0
base k Rises = 5 * k + 25
base k Works = 5 * k + 21
base k Loads = 0
base k (RingsFor a) = after k a + 1
base k (Looks i a) = after k a + (k - i) + 10 * k + 73
base k (Sees i b a) = after k a + 2 + total (λ v. 10 * k + 72) (k - i)

-- the turn that finds its query stopped
abbrev pub stopped : ℕ → Bool → Bool → ℕ
stopped k false b = 0
stopped k true true = 0
stopped k true false = 11 * k + 70

-- At the bell, where it was rung for n times

abbrev pub missed : ℕ → Bool → ℕ
missed k true = 0
missed k false = 5 * k + 32

abbrev pub lying : ℕ → ℕ → bell.Rest → ℕ
lying k n bell.Rest.Up = 3
lying k n (bell.Rest.Reads m) = 2 + missed k (m == n)
lying k n (bell.Rest.Lies m) = 0
lying k n (bell.Rest.Asleep m) = 0

abbrev pub sleeping : ℕ → ℕ → bell.Rest → ℕ
sleeping k n bell.Rest.Up = 5 * k + 32
sleeping k n (bell.Rest.Reads m) = 0
sleeping k n (bell.Rest.Lies m) = 1 + missed k (m == n)
sleeping k n (bell.Rest.Asleep m) = 0

abbrev pub resting : ℕ → ℕ → Task → bell.Rest → ℕ
resting k n LiesDown y = lying k n y
resting k n Rests y = sleeping k n y
resting k n _ y = 0

-- a ring: for itself where it rises
abbrev pub ringing : ℕ → Bool → bell.Ring → ℕ
ringing k true Idle = 0
ringing k true (Rings v) = 0
ringing k true (Cleared v) = 3
ringing k true (Counted v m) = 2
ringing k true (bell.Ring.Raised v) = 1
ringing k false Idle = 1
ringing k false (Rings v) = 10 * k + 70
ringing k false (Cleared v) = 10 * k + 68
ringing k false (Counted v m) = 10 * k + 67
ringing k false (bell.Ring.Raised v) = 5 * k + 34

abbrev pub adding : Task → Bool → ℕ
adding LiesDown false = 1
adding LiesDown true = 0
adding _ b = 0

abbrev pub owing : Bool → ℕ
owing true = 1
owing false = 0

-- for whom it is to ring, but for the one for which it is about to
abbrev pub is_rung : bell.Ring → ℕ → Bool
is_rung (Rings v) u = u == v
is_rung _ u = false

abbrev pub one_due : ℕ → Bool → Bool → ℕ
one_due k false b = 0
one_due k true true = 0
one_due k true false = 10 * k + 71

abbrev pub dues : ℕ → bell.Ring → (ℕ → Bool) → ℕ
dues k g d = total (λ u. one_due k (d u) (is_rung g u)) k

-- Together

abbrev pub weigh : ℕ → Parts → ℕ
weigh k p = base k p.task + stopped k (has_query p.task) p.active + resting k p.rings p.task p.rest
    + ringing k (rises p.task) p.ring + adding p.task p.adds + owing p.owes + dues k p.ring p.due
    + ahead k p.at p.served + stage k p.calls p.at

abbrev pub weight : ℕ → Crew → ℕ
weight k r = total (λ v. weigh k (parts r v)) k
