-- The bell's count of those that sleep, beside their places.
use Rattle.std.specs.Prelude.{◌≡◌, ◌+◌, ◌<◌, ◌≤◌, true, false, ℕ, Bool}
use Rattle.scan_story.specs.Counting.{count_below}
use Rattle.waiting_core.specs.Put.{put}

pub record Count : Type 0 where
  pub asleep : ℕ
  pub lies : ℕ → Bool  -- what the place says
  pub adds : ℕ → Bool  -- has raised the count, and is about to note that it lies
  pub owes : ℕ → Bool  -- has noted that one that lay is up, and is about to lower the count

pub data Does : Type 0 where
  Raises : Does
  Notes : Does
  Clears : ℕ → Does
  Lowers : Does

-- worker w, of k, takes the step from r to t
abbrev pub Step : ℕ → ℕ → Does → Count → Count → Type 0
Step k w Raises r t = (r.adds w ≡ false) × (t ≡ record r { asleep = r.asleep + 1; adds = put r.adds w true })
Step k w Notes r t = (r.adds w ≡ true) × (t ≡ record r { adds = put r.adds w false; lies = put r.lies w true })
Step k w (Clears v) r t = (v < k) × (r.lies v ≡ true) × (r.owes w ≡ false)
    × (t ≡ record r { lies = put r.lies v false; owes = put r.owes w true })
Step k w Lowers r t = (m : ℕ) × (r.owes w ≡ true) × (r.asleep ≡ m + 1)
    × (t ≡ record r { asleep = m; owes = put r.owes w false })

-- the count is at least the places that are taken, and what is yet to be noted or lowered
abbrev pub Keeps : ℕ → Count → Type 0
Keeps k r = count_below r.lies k + count_below r.adds k + count_below r.owes k ≤ r.asleep

abbrev pub StepsKeep : Type 0
StepsKeep = (k w : ℕ) (does : Does) (r t : Count) → w < k → Step k w does r t → Keeps k r → Keeps k t

-- where the count is 0, no place is taken
abbrev pub NobodyIsHidden : Type 0
NobodyIsHidden = (k : ℕ) (r : Count) → Keeps k r → r.asleep ≡ 0 → (v : ℕ) → v < k → r.lies v ≡ false
