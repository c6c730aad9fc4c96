-- The whole: workers that hand the desk on, turn, load, lie down and ring. Each step is one atomic step of one worker.
use Rattle.std.specs.Prelude.{◌≡◌, ◌==◌, ◌+◌, ◌<◌, ◌⊎◌, ◌&&◌, not, true, false, ℕ, Bool, if◌then◌else◌}
use Rattle.waiting_core.specs.Put.{put}
use Rattle.waiting_core.specs.Lobby as lobby
use Rattle.waiting_core.specs.Bell as bell
use Rattle.waiting_core.specs.Count as count
use Rattle.waiting_core.specs.Lobby.Stage.{Out, Holds}
use Rattle.waiting_core.specs.Bell.Ring.{Idle}

-- what a worker goes on with, once it has rung
pub data After : Type 0 where
  Turning : After  -- turns again
  Working : After  -- works on a chunk that it took
  Loading : After  -- reads pieces
  Over : After  -- its query is over

pub data Task : Type 0 where
  Away : Task  -- has no query
  Turns : Task  -- is to turn for its query
  LiesDown : Task  -- lies down, while it has the desk
  Rests : Task  -- has noted in its place that it lies
  Rises : Task  -- has noted that it is up, and rings for itself where nobody has yet
  Works : Task  -- works on a chunk, or has registered its query
  Loads : Task  -- reads pieces
  Looks : ℕ → After → Task  -- after a turn: so many places, from the first, say that nobody lies there
  Sees : ℕ → Bool → After → Task  -- after a load: has looked at so many places; is one due that is hungry?
  RingsFor : After → Task  -- rings for those that are due

pub record Whole : Type 0 where
  pub lobby : lobby.Lobby
  pub bell : bell.Bell
  pub asleep : ℕ  -- the bell's count
  pub adds : ℕ → Bool  -- has raised the count, and is about to note that it lies
  pub owes : ℕ → Bool  -- has noted that one that lay is up, and is about to lower the count
  pub task : ℕ → Task
  pub due : ℕ → ℕ → Bool  -- the first is to ring for the second
  pub active : ℕ → Bool  -- the worker's query is active
  pub has_chunk : ℕ → Bool  -- and has a chunk to take

-- the bell's count beside its places
abbrev pub tally : Whole → count.Count
tally s = record { asleep = s.asleep; lies = s.bell.lies; adds = s.adds; owes = s.owes }

-- What a task is

-- it asks for the desk
abbrev pub wants : Task → Bool
wants Away = true
wants Turns = true
wants Works = true
wants Loads = true
wants _ = false

-- it keeps the desk
abbrev pub keeps_desk : Task → Bool
keeps_desk LiesDown = true
keeps_desk (Looks i a) = true
keeps_desk (Sees i b a) = true
keeps_desk _ = false

abbrev pub goes_on : After → Task
goes_on Turning = Turns
goes_on Working = Works
goes_on Loading = Loads
goes_on Over = Away

abbrev pub is_load : After → Bool
is_load Loading = true
is_load _ = false

-- a load is underway by it
abbrev pub is_loading : Task → Bool
is_loading Loads = true
is_loading (Looks i a) = is_load a
is_loading (Sees i b a) = is_load a
is_loading (RingsFor a) = is_load a
is_loading _ = false

-- What the desk says

-- its query is active, and has no chunk to take
abbrev pub is_hungry : Whole → ℕ → Bool
is_hungry s v = s.active v && not (s.has_chunk v)

-- a load is underway
pub record IsLoading (k : ℕ) (s : Whole) : Type 0 where
  pub worker : ℕ
  pub is_one : worker < k
  pub loads : is_loading (s.task worker) ≡ true

-- another query is active and has a chunk to take
pub record IsFed (k w : ℕ) (s : Whole) : Type 0 where
  pub worker : ℕ
  pub is_one : worker < k
  pub other : (worker == w) ≡ false
  pub active : s.active worker ≡ true
  pub fed : s.has_chunk worker ≡ true

-- for which a worker may lie down, and needs to wake nobody
abbrev pub HasReason : ℕ → ℕ → Whole → Type 0
HasReason k w s = IsLoading k s ⊎ IsFed k w s

-- The steps of worker w, of k workers

pub data Does : Type 0 where
  InLobby : lobby.Does → Does
  Registers : Does
  Decides : Does  -- to lie down
  CountsItself : Does
  ReadsRings : Does
  NotesPlace : Does
  FallsAsleep : Does
  StaysUp : Does
  Starts : Does  -- out of its sleep, by itself
  GetsUp : Does
  HasRisen : Does
  CountsDown : Does
  TurnsTo : After → Does
  RingsForNone : Does
  FindsNobody : Does
  FindsOne : Does
  FindsNone : Does
  Settles : Does  -- a load
  Stops : Does
  StopsLate : Does  -- finds that its query was stopped before
  SeesNobody : Does
  SeesFed : Does
  SeesHungry : Does
  SeesAnother : Does
  HasSeen : Does
  IsToRing : ℕ → Does
  ClearsPlace : Does
  CountsRings : Does
  RaisesRings : Does
  WakesOther : Does
  WakesNobody : Does
  HasRung : Does
  CallsNext : Does

-- the desk is asked for where the task says so, and kept where it says so
abbrev pub is_allowed : lobby.Does → Task → Bool
is_allowed lobby.Does.Wants x = wants x
is_allowed lobby.Does.Gives x = not (keeps_desk x)
is_allowed _ x = true

-- a query that isn't active is over with the turn
abbrev pub may_turn : After → Bool → Bool
may_turn Over b = true
may_turn _ b = b

abbrev pub stays_active : After → Bool → Bool
stays_active Over b = false
stays_active _ b = b

-- w owes the count one, where v's place said that it lies
abbrev pub owed : Whole → ℕ → ℕ → ℕ → Bool
owed s w v = if s.bell.lies v then put s.owes w true else s.owes

-- w is to ring for v, or isn't any more
abbrev pub made_due : Whole → ℕ → ℕ → Bool → ℕ → ℕ → Bool
made_due s w v b = put s.due w (put (s.due w) v b)

abbrev pub does_next : Whole → ℕ → Task → Whole
does_next s w x = record s { task = put s.task w x }

abbrev pub Step : ℕ → ℕ → Does → Whole → Whole → Type 0
Step k w (InLobby d) r t = (l : lobby.Lobby) × (is_allowed d (r.task w) ≡ true) × lobby.Step k w d r.lobby l
    × (t ≡ record r { lobby = l })
Step k w Registers r t = (c : Bool) × (r.lobby.at w ≡ Holds) × (r.task w ≡ Away)
    × (t ≡ record (does_next r w Works) { active = put r.active w true; has_chunk = put r.has_chunk w c })
Step k w Decides r t = (r.lobby.at w ≡ Holds) × (r.task w ≡ Turns) × (is_hungry r w ≡ true) × HasReason k w r
    × (t ≡ does_next r w LiesDown)
Step k w CountsItself r t = (r.task w ≡ LiesDown) × (r.adds w ≡ false)
    × (t ≡ record r { asleep = r.asleep + 1; adds = put r.adds w true })
Step k w ReadsRings r t = (b : bell.Bell) × (r.task w ≡ LiesDown) × bell.Step w bell.Does.ReadsRings r.bell b
    × (t ≡ record r { bell = b })
Step k w NotesPlace r t = (b : bell.Bell) × (r.task w ≡ LiesDown) × (r.adds w ≡ true)
    × bell.Step w bell.Does.LiesDown r.bell b
    × (t ≡ record (does_next r w Rests) { bell = b; adds = put r.adds w false })
Step k w FallsAsleep r t = (b : bell.Bell) × (r.task w ≡ Rests) × (r.lobby.at w ≡ Out)
    × bell.Step w bell.Does.FallsAsleep r.bell b × (t ≡ record r { bell = b })
Step k w StaysUp r t = (b : bell.Bell) × (r.task w ≡ Rests) × (r.lobby.at w ≡ Out)
    × bell.Step w bell.Does.StaysUp r.bell b × (t ≡ record r { bell = b })
Step k w Starts r t = (b : bell.Bell) × bell.Step w bell.Does.Wakes r.bell b × (t ≡ record r { bell = b })
Step k w GetsUp r t = (r.task w ≡ Rests) × (r.lobby.at w ≡ Out) × (r.bell.rest w ≡ bell.Rest.Up) × (r.owes w ≡ false)
    × (t ≡ record (does_next r w Rises) { bell = bell.is_up r.bell w; owes = owed r w w })
Step k w HasRisen r t = (r.task w ≡ Rises) × ((r.bell.ring w ≡ Idle) ⊎ (r.bell.ring w ≡ bell.Ring.Raised w))
    × (t ≡ record (does_next r w Turns) { bell = record r.bell { ring = put r.bell.ring w Idle } })
Step k w CountsDown r t = (m : ℕ) × (r.owes w ≡ true) × (r.asleep ≡ m + 1)
    × (t ≡ record r { asleep = m; owes = put r.owes w false })
Step k w (TurnsTo a) r t = (chunk : ℕ → Bool) × (r.lobby.at w ≡ Holds) × (r.task w ≡ Turns)
    × (may_turn a (r.active w) ≡ true)
    × ((v : ℕ) → (v == w) ≡ false → chunk v ≡ true → r.has_chunk v ≡ true)
    × (t ≡ record (does_next r w (Looks 0 a)) {
      active = put r.active w (stays_active a (r.active w));
      has_chunk = chunk;
    })
Step k w RingsForNone r t = (a : After) × (r.task w ≡ Looks 0 a) × ((r.asleep ≡ 0) ⊎ HasReason k w r)
    × (t ≡ does_next r w (RingsFor a))
Step k w FindsNobody r t = (i : ℕ) × (a : After) × (r.task w ≡ Looks i a) × (r.bell.lies i ≡ false)
    × (t ≡ does_next r w (Looks (i + 1) a))
Step k w FindsOne r t = (i : ℕ) × (a : After) × (r.task w ≡ Looks i a) × (i < k) × (r.bell.lies i ≡ true)
    × (t ≡ record (does_next r w (RingsFor a)) { due = made_due r w i true })
Step k w FindsNone r t = (a : After) × (r.task w ≡ Looks k a) × (t ≡ does_next r w (RingsFor a))
Step k w Settles r t = (active chunk : ℕ → Bool) × (r.lobby.at w ≡ Holds) × (r.task w ≡ Loads)
    × ((v : ℕ) → active v ≡ true → r.active v ≡ true)
    × (t ≡ record (does_next r w (Sees 0 false Turning)) { active = active; has_chunk = chunk })
Step k w Stops r t = (r.lobby.at w ≡ Holds) × (r.task w ≡ Works) × (r.active w ≡ true)
    × (t ≡ record (does_next r w (Sees 0 false Over)) { active = put r.active w false })
Step k w StopsLate r t = (r.lobby.at w ≡ Holds) × (r.task w ≡ Works) × (r.active w ≡ false) × (t ≡ does_next r w Away)
Step k w SeesNobody r t = (i : ℕ) × (b : Bool) × (a : After) × (r.task w ≡ Sees i b a) × (r.bell.lies i ≡ false)
    × (t ≡ does_next r w (Sees (i + 1) b a))
Step k w SeesFed r t = (i : ℕ) × (b : Bool) × (a : After) × (r.task w ≡ Sees i b a) × (i < k)
    × (r.bell.lies i ≡ true) × (is_hungry r i ≡ false)
    × (t ≡ record (does_next r w (Sees (i + 1) b a)) { due = made_due r w i true })
Step k w SeesHungry r t = (i : ℕ) × (a : After) × (r.task w ≡ Sees i false a) × (i < k) × (r.bell.lies i ≡ true)
    × (is_hungry r i ≡ true)
    × (t ≡ record (does_next r w (Sees (i + 1) true a)) { due = made_due r w i true })
Step k w SeesAnother r t = (i : ℕ) × (a : After) × (r.task w ≡ Sees i true a) × (r.bell.lies i ≡ true)
    × (is_hungry r i ≡ true)
    × (t ≡ does_next r w (Sees (i + 1) true a))
Step k w HasSeen r t = (b : Bool) × (a : After) × (r.task w ≡ Sees k b a) × (t ≡ does_next r w (RingsFor a))
Step k w (IsToRing v) r t = (b : bell.Bell) × (a : After) × (r.task w ≡ RingsFor a) × (r.lobby.at w ≡ Out)
    × (r.due w v ≡ true)
    × bell.Step w (bell.Does.IsToRing v) r.bell b × (t ≡ record r { bell = b })
Step k w ClearsPlace r t = (v : ℕ) × (a : After) × (r.task w ≡ RingsFor a) × (r.bell.ring w ≡ bell.Ring.Rings v)
    × (r.owes w ≡ false)
    × (t ≡ record r { bell = bell.cleared r.bell w v; owes = owed r w v; due = made_due r w v false })
Step k w CountsRings r t = (b : bell.Bell) × bell.Step w bell.Does.Counts r.bell b × (t ≡ record r { bell = b })
Step k w RaisesRings r t = (b : bell.Bell) × bell.Step w bell.Does.Raises r.bell b × (t ≡ record r { bell = b })
Step k w WakesOther r t = (b : bell.Bell) × (a : After) × (r.task w ≡ RingsFor a)
    × bell.Step w bell.Does.WakesOther r.bell b × (t ≡ record r { bell = b })
Step k w WakesNobody r t = (b : bell.Bell) × (a : After) × (r.task w ≡ RingsFor a)
    × bell.Step w bell.Does.WakesNobody r.bell b × (t ≡ record r { bell = b })
Step k w HasRung r t = (a : After) × (r.task w ≡ RingsFor a) × (r.lobby.at w ≡ Out) × ((v : ℕ) → r.due w v ≡ false)
    × (r.bell.ring w ≡ Idle)
    × (t ≡ does_next r w (goes_on a))
Step k w CallsNext r t = (r.lobby.at w ≡ Out) × (r.task w ≡ Works) × (t ≡ does_next r w Turns)

-- Runs

-- the desk is free, nobody waits, each place is free, and no worker has a query
abbrev pub beginning : Whole
beginning = record {
  lobby = record { free = true; waiting = 0; calls = 0; at = λ v. Out };
  bell = record { lies = λ v. false; rings = λ v. 0; rest = λ v. bell.Rest.Up; ring = λ v. Idle };
  asleep = 0;
  adds = λ v. false;
  owes = λ v. false;
  task = λ v. Away;
  due = λ v. λ u. false;
  active = λ v. false;
  has_chunk = λ v. false;
}

-- at each time some worker takes a step, or none does
pub record IsRun (k : ℕ) (at : ℕ → Whole) : Type 0 where
  pub begins : at 0 ≡ beginning
  pub steps : (n : ℕ) → (at (n + 1) ≡ at n) ⊎ ((w : ℕ) × (does : Does) × (w < k) × Step k w does (at n) (at (n + 1)))

-- a worker sleeps, in the lobby or at the bell
abbrev pub Sleeps : Whole → ℕ → Type 0
Sleeps s v = ((n : ℕ) × (s.lobby.at v ≡ lobby.Stage.Asleep n)) ⊎ ((n : ℕ) × (s.bell.rest v ≡ bell.Rest.Asleep n))

-- it has no query, and asks for nothing
abbrev pub IsAway : Whole → ℕ → Type 0
IsAway s v = (s.task v ≡ Away) × (s.lobby.at v ≡ Out)

-- at no time of a run do all sleep that have a query
abbrev pub NeverDoAllSleep : Type 0
NeverDoAllSleep = (k : ℕ) (at : ℕ → Whole) → IsRun k at → (n : ℕ)
    → ((v : ℕ) → v < k → Sleeps (at n) v ⊎ IsAway (at n) v) → (v : ℕ) → v < k → IsAway (at n) v

-- a step that a worker takes unless it sleeps
abbrev pub is_own : Does → Bool
is_own Starts = false
is_own (InLobby lobby.Does.Starts) = false
is_own _ = true

pub record GoesOn (k w : ℕ) (s : Whole) : Type 0 where
  pub does : Does
  pub to : Whole
  pub own : is_own does ≡ true
  pub step : Step k w does s to

-- at each time of a run no worker has a query, or some worker may take a step that doesn't end a sleep by itself
abbrev pub NeverStandsStill : Type 0
NeverStandsStill = (k : ℕ) (at : ℕ → Whole) → IsRun k at → (n : ℕ)
    → ((v : ℕ) → v < k → IsAway (at n) v) ⊎ ((w : ℕ) × (w < k) × GoesOn k w (at n))
