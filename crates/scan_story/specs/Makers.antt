-- Whose entries a story has, and how it grows. Stories here are lists with the oldest entry first.
use Rattle.std.specs.Prelude.{ℕ, ◌≡◌, ◌==◌, List, [], ◌∷◌, ◌++◌}
use Rattle.std.specs.List.{filter}
use Rattle.scan_story.specs.declared.entry.Entry.{Entry}
use Rattle.scan_story.specs.declared.entry.Entry.TheVariants.{Register, Plan, Evict, Fill, Filled}
use Rattle.scan_story.specs.declared.entry.Entry.TheVariants.{Failed, Deliver, Release, Stop, End}

-- the worker that made the entry
abbrev pub maker_of : Entry → ℕ
maker_of (Register w q) = w
maker_of (Plan w q c) = w
maker_of (Evict w c) = w
maker_of (Fill w f p) = w
maker_of (Filled w f p) = w
maker_of (Failed w q p why) = w
maker_of (Deliver w q c) = w
maker_of (Release w q c) = w
maker_of (Stop w q) = w
maker_of (End w q) = w

-- the entries of one worker, in their order
abbrev pub entries_by : ℕ → List Entry → List Entry
entries_by w es = filter (λ e. maker_of e == w) es

-- one list begins with another
abbrev pub StartsWith : List Entry → List Entry → Type 0
StartsWith es begin = (rest : List Entry) × (es ≡ begin ++ rest)

-- each entry is the worker's
abbrev pub AllBy : ℕ → List Entry → Type 0
AllBy w [] = Unit {0}
AllBy w (e ∷ es) = (maker_of e ≡ w) × AllBy w es

-- the worker added entries of its own, and nothing else changed
abbrev pub Adds : ℕ → List Entry → List Entry → Type 0
Adds w before after = (new : List Entry) × (after ≡ before ++ new) × AllBy w new
