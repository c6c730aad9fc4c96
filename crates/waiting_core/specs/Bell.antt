-- The bell: places of workers, at which they lie down, sleep, are rung for, and get up. Each step is one atomic step.
use Rattle.std.specs.Prelude.{◌≡◌, ◌+◌, ◌<◌, ◌≤◌, ◌⊎◌, true, false, ℕ, Bool, max, if◌then◌else◌}
use Rattle.waiting_core.specs.Put.{put}

-- what a worker does at its own place
pub data Rest : Type 0 where
  Up : Rest  -- awake
  Reads : ℕ → Rest  -- has read how often it was rung for, and is about to note that it lies
  Lies : ℕ → Rest  -- has noted it, and is about to sleep
  Asleep : ℕ → Rest

-- what it does at another's, or at its own when it gets up
pub data Ring : Type 0 where
  Idle : Ring
  Rings : ℕ → Ring  -- is to ring for this worker
  Cleared : ℕ → Ring  -- has noted that this worker is up
  Counted : ℕ → ℕ → Ring  -- has read how often this worker was rung for, and is about to raise its rings above that
  Raised : ℕ → Ring  -- has raised them

pub record Bell : Type 0 where
  pub lies : ℕ → Bool  -- what the place says
  pub rings : ℕ → ℕ
  pub rest : ℕ → Rest
  pub ring : ℕ → Ring

pub data Does : Type 0 where
  ReadsRings : Does
  LiesDown : Does
  FallsAsleep : Does
  StaysUp : Does  -- its rings changed
  Wakes : Does  -- by itself
  GetsUp : Does  -- notes that it is up, and where its place still says that it lies, is to ring for itself
  IsToRing : ℕ → Does
  Clears : Does
  Counts : Does
  Raises : Does
  WakesOther : Does
  WakesNobody : Does
  HasRisen : Does  -- is up, and wakes nobody

-- whoever gets up is to ring for itself, where nobody has cleared its place
abbrev pub own_ring : Bell → ℕ → Ring
own_ring r w = if r.lies w then Cleared w else Idle

-- w has noted that it is up
abbrev pub is_up : Bell → ℕ → Bell
is_up r w = record r { lies = put r.lies w false; ring = put r.ring w (own_ring r w) }

-- w has noted that v is up
abbrev pub cleared : Bell → ℕ → ℕ → Bell
cleared r w v = record r { ring = put r.ring w (Cleared v); lies = put r.lies v false }

-- w, which read m rings of v, has raised them: they are more than m, and no fewer than they were
abbrev pub raised : Bell → ℕ → ℕ → ℕ → Bell
raised r w v m = record r { ring = put r.ring w (Raised v); rings = put r.rings v (max (m + 1) (r.rings v)) }

-- worker w takes the step, from r to t
abbrev pub Step : ℕ → Does → Bell → Bell → Type 0
Step w ReadsRings r t = (r.rest w ≡ Up) × (t ≡ record r { rest = put r.rest w (Reads (r.rings w)) })
Step w LiesDown r t = (n : ℕ) × (r.rest w ≡ Reads n)
    × (t ≡ record r { rest = put r.rest w (Lies n); lies = put r.lies w true })
Step w FallsAsleep r t = (n : ℕ) × (r.rest w ≡ Lies n) × (n ≡ r.rings w)
    × (t ≡ record r { rest = put r.rest w (Asleep n) })
Step w StaysUp r t = (n : ℕ) × (r.rest w ≡ Lies n) × (t ≡ record r { rest = put r.rest w Up })
Step w Wakes r t = (n : ℕ) × (r.rest w ≡ Asleep n) × (t ≡ record r { rest = put r.rest w Up })
Step w GetsUp r t = (r.rest w ≡ Up) × (r.ring w ≡ Idle) × (t ≡ is_up r w)
Step w (IsToRing v) r t = (r.ring w ≡ Idle) × (t ≡ record r { ring = put r.ring w (Rings v) })
Step w Clears r t = (v : ℕ) × (r.ring w ≡ Rings v) × (t ≡ cleared r w v)
Step w Counts r t = (v : ℕ) × (r.ring w ≡ Cleared v)
    × (t ≡ record r { ring = put r.ring w (Counted v (r.rings v)) })
Step w Raises r t = (v m : ℕ) × (r.ring w ≡ Counted v m) × (t ≡ raised r w v m)
Step w WakesOther r t = (v n : ℕ) × (r.ring w ≡ Raised v) × (r.rest v ≡ Asleep n)
    × (t ≡ record r { ring = put r.ring w Idle; rest = put r.rest v Up })
Step w WakesNobody r t = (v : ℕ) × (r.ring w ≡ Raised v) × ((n : ℕ) → r.rest v ≡ Asleep n → ⊥)
    × (t ≡ record r { ring = put r.ring w Idle })
Step w HasRisen r t = ((n : ℕ) → r.rest w ≡ Asleep n → ⊥) × ((r.ring w ≡ Idle) ⊎ (r.ring w ≡ Raised w))
    × (t ≡ record r { ring = put r.ring w Idle })

-- What the bell keeps

-- whoever is at the ring will raise v's rings above n: it has yet to read them, or read no fewer
abbrev pub WillRaise : ℕ → ℕ → Ring → Type 0
WillRaise v n (Cleared u) = u ≡ v
WillRaise v n (Counted u m) = (u ≡ v) × (n ≤ m)
WillRaise v n _ = ⊥

-- the place says that v lies, or somebody has noted that v is up, and will raise its rings
abbrev pub IsSeen : Bell → ℕ → Type 0
IsSeen r v = (r.lies v ≡ true) ⊎ ((w : ℕ) × WillRaise v (r.rings v) (r.ring w))

-- v, which rests so, was rung for no more often than it read, and is seen; or it was rung for since, and where it
-- sleeps somebody is about to wake it
abbrev pub IsKept : Bell → ℕ → Rest → Type 0
IsKept r v Up = Unit {0}
IsKept r v (Reads n) = n ≤ r.rings v
IsKept r v (Lies n) = ((n ≡ r.rings v) × IsSeen r v) ⊎ (n < r.rings v)
IsKept r v (Asleep n) = ((n ≡ r.rings v) × IsSeen r v) ⊎ ((n < r.rings v) × ((w : ℕ) × (r.ring w ≡ Raised v)))

abbrev pub Keeps : Bell → Type 0
Keeps r = (v : ℕ) → IsKept r v (r.rest v)

abbrev pub StepsKeep : Type 0
StepsKeep = (w : ℕ) (does : Does) (r t : Bell) → Step w does r t → Keeps r → Keeps t

-- whoever sleeps is seen to lie by whom rings, or its ring is on its way
abbrev pub SleepersAreSeen : Type 0
SleepersAreSeen = (r : Bell) (v n : ℕ) → Keeps r → r.rest v ≡ Asleep n → (r.lies v ≡ true)
    ⊎ ((w : ℕ) × (WillRaise v (r.rings v) (r.ring w) ⊎ (r.ring w ≡ Raised v)))
