-- The next entry that passes a test, by its number.
use Rattle.std.specs.Prelude.{◌==◌, false, ℕ, suc, Bool, List, [], ◌∷◌, Option, None, Some, if◌then◌else◌}
use Rattle.scan_story.specs.declared.entry.Entry.{Entry}
use Rattle.scan_story.specs.declared.entry.Entry.TheVariants.{Evict, Fill, Filled, Failed, Deliver, Release, Stop, End}

-- the number of the first of the entries that passes, where the first of all has number i
abbrev pub next : (Entry → Bool) → ℕ → List Entry → Option ℕ
next p i [] = None
next p i (e ∷ es) = if p e then Some i else next p (suc i) es

-- the frame is filled
abbrev pub fills : ℕ → Entry → Bool
fills f (Fill w g p) = g == f
fills f (Filled w g p) = g == f
fills f _ = false

-- the chunk is evicted
abbrev pub evicts : ℕ → Entry → Bool
evicts c (Evict w d) = d == c
evicts c _ = false

-- the worker takes or gives back a chunk
abbrev pub turns : ℕ → Entry → Bool
turns w (Deliver v q c) = v == w
turns w (Release v q c) = v == w
turns w _ = false

-- the query ends or is given up
abbrev pub ends : ℕ → Entry → Bool
ends q (Stop v r) = r == q
ends q (End v r) = r == q
ends q _ = false

-- the load of the piece fails
abbrev pub fails : ℕ → Entry → Bool
fails p (Failed v q r why) = r == p
fails p _ = false
