-- The machine of the waiting in the order of the program: what of its steps a worker's next one may be.
use Rattle.std.specs.Prelude.{◌≡◌, ◌+◌, ◌<◌, ◌⊎◌, true, false, ℕ, Bool}
use Rattle.waiting_core.specs.Put.{put}
use Rattle.waiting_core.specs.Lobby as lobby
use Rattle.waiting_core.specs.Bell as bell
use Rattle.waiting_core.specs.Whole as machine
use Rattle.waiting_core.specs.Lobby.Stage.{Holds, Looked}
use Rattle.waiting_core.specs.Whole.{Whole, Task, After, Does, Sleeps, beginning}
use Rattle.waiting_core.specs.Whole.After.{Turning}
use Rattle.waiting_core.specs.Whole.Task.{Works, Looks, Sees}
use Rattle.waiting_core.specs.Whole.Does.{InLobby, Registers, Decides, TurnsTo, FindsNobody, Settles, Stops, StopsLate}
use Rattle.waiting_core.specs.Whole.Does.{SeesNobody, SeesAnother, StaysUp, CountsRings}

-- the machine, and who has done at the desk what it came for
pub record Crew : Type 0 where
  pub whole : Whole
  pub served : ℕ → Bool

-- a step of the machine; or a worker releases its chunk at the desk, which changes nothing of the waiting
pub data Act : Type 0 where
  Makes : Does → Act
  Releases : Act

-- a place that a worker looks at
abbrev pub IsPlace : ℕ → Task → Type 0
IsPlace k (Looks i a) = i < k
IsPlace k (Sees i b a) = i < k
IsPlace k _ = ⊥

-- when w, of k workers, makes a step that the machine allows
abbrev pub InOrder : ℕ → ℕ → Does → Crew → Type 0
-- at the desk it does one of these once, and doesn't give the desk back before
InOrder k w (InLobby lobby.Does.Gives) r = r.served w ≡ true
InOrder k w Registers r = r.served w ≡ false
InOrder k w Decides r = r.served w ≡ false
InOrder k w Settles r = r.served w ≡ false
InOrder k w Stops r = r.served w ≡ false
InOrder k w StopsLate r = r.served w ≡ false
-- a turn comes to something: whose turn would be for nothing lies down
InOrder k w (TurnsTo a) r = (r.served w ≡ false) × (a ≡ Turning → ⊥)
-- who is about to sleep doesn't, just where it was called or rung for since it read the count
InOrder k w (InLobby lobby.Does.Stays) r = r.whole.lobby.at w ≡ Looked r.whole.lobby.calls → ⊥
InOrder k w StaysUp r = r.whole.bell.rest w ≡ bell.Rest.Lies (r.whole.bell.rings w) → ⊥
-- who finds nobody that waits calls nobody
InOrder k w (InLobby lobby.Does.SeesSome) r = 0 < r.whole.lobby.waiting
-- it looks at the place of each worker once
InOrder k w FindsNobody r = IsPlace k (r.whole.task w)
InOrder k w SeesNobody r = IsPlace k (r.whole.task w)
InOrder k w SeesAnother r = IsPlace k (r.whole.task w)
-- it lowers the count, and then reads the rings
InOrder k w CountsRings r = r.whole.owes w ≡ false
InOrder k w _ r = Unit {0}

-- whether it has done what it came for, after the step, by whether it had before
abbrev pub is_served : Does → Bool → Bool
is_served (InLobby lobby.Does.Takes) b = false
is_served (InLobby lobby.Does.Finds) b = false
is_served Registers b = true
is_served Decides b = true
is_served Settles b = true
is_served Stops b = true
is_served StopsLate b = true
is_served (TurnsTo a) b = true
is_served _ b = b

-- worker w, of k, takes the step from r to t
abbrev pub Step : ℕ → ℕ → Act → Crew → Crew → Type 0
Step k w (Makes d) r t = (s : Whole) × machine.Step k w d r.whole s × InOrder k w d r
    × (t ≡ record { whole = s; served = put r.served w (is_served d (r.served w)) })
Step k w Releases r t = (r.whole.lobby.at w ≡ Holds) × (r.whole.task w ≡ Works) × (r.served w ≡ false)
    × (t ≡ record r { served = put r.served w true })

abbrev pub first_crew : Crew
first_crew = record { whole = beginning; served = λ v. false }

-- a step other than out of a sleep by itself
abbrev pub is_own : Act → Bool
is_own (Makes d) = machine.is_own d
is_own Releases = true

-- w writes an entry at the step: each but a decision to lie down, and a turn or a stop of a query that was stopped
-- before
abbrev pub writes : ℕ → Act → Crew → Bool
writes w Releases r = true
writes w (Makes Registers) r = true
writes w (Makes Settles) r = true
writes w (Makes Stops) r = true
writes w (Makes (TurnsTo a)) r = r.whole.active w
writes w (Makes _) r = false

-- Runs of the machine in this order

pub record IsOrdered (k : ℕ) (at : ℕ → Crew) : Type 0 where
  pub begins : at 0 ≡ first_crew
  pub steps : (n : ℕ)
      → (at (n + 1) ≡ at n) ⊎ ((w : ℕ) × (a : Act) × (w < k) × Step k w a (at n) (at (n + 1)))

-- a step that w may take unless it sleeps
pub record MayStep (k w : ℕ) (r : Crew) : Type 0 where
  pub act : Act
  pub to : Crew
  pub own : is_own act ≡ true
  pub step : Step k w act r to

-- at each time of a run each worker sleeps, or may take a step
abbrev pub NobodyIsStuck : Type 0
NobodyIsStuck = (k : ℕ) (at : ℕ → Crew) → IsOrdered k at → (n w : ℕ) → w < k
    → Sleeps (at n).whole w ⊎ MayStep k w (at n)
