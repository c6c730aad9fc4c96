-- The desk and its lobby, with workers who take the desk, give it back, sleep and call: each step is one atomic step.
use Rattle.std.specs.Prelude.{◌≡◌, ◌==◌, ◌+◌, ◌<◌, ◌≤◌, ◌||◌, true, false, ℕ, Bool, if◌then◌else◌}
use Rattle.scan_story.specs.Counting.{count_below}
use Rattle.waiting_core.specs.Put.{put}

pub data Stage : Type 0 where
  Out : Stage  -- wants nothing
  Holds : Stage  -- has the desk
  Comes : Stage  -- looks for the desk
  Read : ℕ → Stage  -- has read the calls, this many
  Entered : ℕ → Stage  -- has added itself to those that wait, and looks for the last time
  Looked : ℕ → Stage  -- in vain; is about to sleep
  Asleep : ℕ → Stage
  Gave : Stage  -- gave the desk back, and looks whether somebody waits
  Found : Stage  -- somebody waits
  Taken : Stage  -- took one from those that wait
  Raised : Stage  -- raised the calls, and is about to wake one

pub record Lobby : Type 0 where
  pub free : Bool
  pub waiting : ℕ
  pub calls : ℕ
  pub at : ℕ → Stage

-- The steps of worker w, of k workers

pub data Does : Type 0 where
  Wants : Does
  Takes : Does
  Reads : Does
  Enters : Does
  Finds : Does
  Misses : Does
  Sleeps : Does
  Stays : Does
  Starts : Does  -- out of its sleep, by itself
  Gives : Does
  SeesNone : Does
  SeesSome : Does
  IsLate : Does
  Counts : Does
  Raises : Does
  Wakes : ℕ → Does
  WakesNone : Does

abbrev pub goes : Lobby → ℕ → Stage → Lobby
goes r w b = record r { at = put r.at w b }

abbrev pub is_asleep : Stage → Bool
is_asleep (Asleep n) = true
is_asleep _ = false

-- worker w takes the step, from r to t
abbrev pub Step : ℕ → ℕ → Does → Lobby → Lobby → Type 0
Step k w Wants r t = (r.at w ≡ Out) × (t ≡ goes r w Comes)
Step k w Takes r t = (r.at w ≡ Comes) × (r.free ≡ true) × (t ≡ record (goes r w Holds) { free = false })
Step k w Reads r t = (r.at w ≡ Comes) × (t ≡ goes r w (Read r.calls))
Step k w Enters r t = (n : ℕ) × (r.at w ≡ Read n) × (t ≡ record (goes r w (Entered n)) { waiting = r.waiting + 1 })
Step k w Finds r t = (n : ℕ) × (r.at w ≡ Entered n) × (r.free ≡ true) × (t ≡ record (goes r w Holds) { free = false })
Step k w Misses r t = (n : ℕ) × (r.at w ≡ Entered n) × (r.free ≡ false) × (t ≡ goes r w (Looked n))
Step k w Sleeps r t = (n : ℕ) × (r.at w ≡ Looked n) × (n ≡ r.calls) × (t ≡ goes r w (Asleep n))
Step k w Stays r t = (n : ℕ) × (r.at w ≡ Looked n) × (t ≡ goes r w Comes)
Step k w Starts r t = (n : ℕ) × (r.at w ≡ Asleep n) × (t ≡ goes r w Comes)
Step k w Gives r t = (r.at w ≡ Holds) × (t ≡ record (goes r w Gave) { free = true })
Step k w SeesNone r t = (r.at w ≡ Gave) × (r.waiting ≡ 0) × (t ≡ goes r w Out)
Step k w SeesSome r t = (r.at w ≡ Gave) × (t ≡ goes r w Found)
Step k w IsLate r t = (r.at w ≡ Found) × (r.waiting ≡ 0) × (t ≡ goes r w Out)
Step k w Counts r t = (m : ℕ) × (r.at w ≡ Found) × (r.waiting ≡ m + 1) × (t ≡ record (goes r w Taken) { waiting = m })
Step k w Raises r t = (r.at w ≡ Taken) × (t ≡ record (goes r w Raised) { calls = r.calls + 1 })
Step k w (Wakes v) r t = (n : ℕ) × (v < k) × (r.at w ≡ Raised) × (r.at v ≡ Asleep n)
    × (t ≡ goes (goes r w Out) v Comes)
Step k w WakesNone r t = (r.at w ≡ Raised) × (count_below (λ v. is_asleep (r.at v)) k ≡ 0) × (t ≡ goes r w Out)

-- What the lobby keeps

abbrev pub how_many : ℕ → (Stage → Bool) → Lobby → ℕ
how_many k p r = count_below (λ v. p (r.at v)) k

-- has read no more calls than there are
abbrev pub IsOld : ℕ → Stage → Type 0
IsOld c (Read n) = n ≤ c
IsOld c (Entered n) = n ≤ c
IsOld c (Looked n) = n ≤ c
IsOld c (Asleep n) = n ≤ c
IsOld c _ = Unit {0}

abbrev pub is_holder : Stage → Bool
is_holder Holds = true
is_holder _ = false

-- waits since the last call
abbrev pub is_fresh : ℕ → Stage → Bool
is_fresh c (Entered n) = n == c
is_fresh c (Looked n) = n == c
is_fresh c (Asleep n) = n == c
is_fresh c _ = false

-- sleeps, or may yet sleep
abbrev pub may_sleep : ℕ → Stage → Bool
may_sleep c (Entered n) = n == c
may_sleep c (Looked n) = n == c
may_sleep c (Asleep n) = true
may_sleep c _ = false

-- is about to sleep
abbrev pub is_about : ℕ → Stage → Bool
is_about c (Looked n) = n == c
is_about c _ = false

abbrev pub has_taken : Stage → Bool
has_taken Taken = true
has_taken _ = false

abbrev pub has_raised : Stage → Bool
has_raised Raised = true
has_raised _ = false

-- gave the desk back and has yet to raise the calls, if it is to
abbrev pub is_to_raise : Stage → Bool
is_to_raise Gave = true
is_to_raise Found = true
is_to_raise Taken = true
is_to_raise _ = false

-- is awake, and looks for the desk or calls
abbrev pub is_on_its_way : Stage → Bool
is_on_its_way Gave = true
is_on_its_way Found = true
is_on_its_way Taken = true
is_on_its_way Raised = true
is_on_its_way Comes = true
is_on_its_way (Read n) = true
is_on_its_way (Entered n) = true
is_on_its_way _ = false

pub record Keeps (k : ℕ) (r : Lobby) : Type 0 where
  pub old : (w : ℕ) → IsOld r.calls (r.at w)
  -- the desk isn't free exactly where a worker has it
  pub desk : how_many k is_holder r ≡ (if r.free then 0 else 1)
  -- each that waits since the last call is counted, but for those that are just taken
  pub fresh : how_many k (is_fresh r.calls) r ≤ r.waiting + how_many k has_taken r
  -- and each that sleeps or may sleep, but for those for which a call is on its way
  pub all : how_many k (may_sleep r.calls) r ≤ r.waiting + how_many k has_taken r + how_many k has_raised r
  -- while the desk is free, a call is on its way to whom it finds about to sleep, and somebody is awake for whom sleeps
  pub about : r.free ≡ true → 0 < how_many k (is_about r.calls) r → 0 < how_many k is_to_raise r
  pub asleep : r.free ≡ true → 0 < how_many k is_asleep r → 0 < how_many k is_on_its_way r

abbrev pub StepsKeep : Type 0
StepsKeep = (k w : ℕ) (does : Does) (r t : Lobby) → w < k → Step k w does r t → Keeps k r → Keeps k t

-- where somebody sleeps, a worker has the desk, looks for it or calls
abbrev pub NobodySleepsOn : Type 0
NobodySleepsOn = (k : ℕ) (r : Lobby) → Keeps k r → 0 < how_many k is_asleep r → (w : ℕ) × (w < k)
    × ((is_holder (r.at w) || is_on_its_way (r.at w)) ≡ true)
