-- Runs of the rules, and that each fair one ends.
use Rattle.std.specs.Prelude.{◌≡◌, ◌+◌, ◌<◌, ◌≤◌, ◌⊎◌, ℕ, [], ◌∷◌, length}
use Rattle.scan_story.specs.declared.entry.Entry.{Entry}
use Rattle.scan_story.specs.declared.setting.Setting.{Setting}
use Rattle.scan_story.specs.Setting.{IsSetting, HasRoom}
use Rattle.scan_story.specs.Views.{History}
use Rattle.scan_story.specs.Whole.{IsWhole}
use Rattle.story_laws.specs.Every.{MayCome}
use Rattle.story_ends.specs.Going.{GoesOn, MayGoOn}

-- Nothing follows a whole history
abbrev pub WholeIsOver : Setting → History → Type 0
WholeIsOver s h = IsWhole s h → (e : Entry) → MayCome s h e → ⊥

-- Runs: a history for each time, counted from 0

-- an entry that may come was written between the two
abbrev pub Writes : Setting → History → History → Type 0
Writes s old new = (e : Entry) × (new ≡ e ∷ old) × MayCome s old e

-- it begins with nothing, and from each time to the next nothing is written, or one entry that may come
pub record IsRun (s : Setting) (at : ℕ → History) : Type 0 where
  pub begins : at 0 ≡ []
  pub steps : (n : ℕ) → (at (n + 1) ≡ at n) ⊎ Writes s (at n) (at (n + 1))

-- wherever somebody may go on, something is written at some later time
abbrev pub IsFair : Setting → (ℕ → History) → Type 0
IsFair s at = (n : ℕ) → GoesOn s (at n) → (m : ℕ) × (length (at n) < length (at m))

-- from some time on the history is whole, and stays as it is
pub record Ends (s : Setting) (at : ℕ → History) : Type 0 where
  pub time : ℕ
  pub whole : IsWhole s (at time)
  pub stays : (m : ℕ) → time ≤ m → at m ≡ at time

-- each fair run ends
abbrev pub FairRunsEnd : Type 0
FairRunsEnd = (s : Setting) (at : ℕ → History) → IsSetting s → HasRoom s → IsRun s at → IsFair s at → Ends s at

-- Schedules: at each time one worker is run

-- the worker that is run writes an entry that may come, or writes nothing where it may not go on
pub record IsSchedule (s : Setting) (who : ℕ → ℕ) (at : ℕ → History) : Type 0 where
  pub begins : at 0 ≡ []
  pub steps : (n : ℕ)
      → ((at (n + 1) ≡ at n) × (MayGoOn s (at n) (who n) → ⊥)) ⊎ Writes s (at n) (at (n + 1))

-- each worker is run again and again
abbrev pub RunsAll : Setting → (ℕ → ℕ) → Type 0
RunsAll s who = (n w : ℕ) → w < s.workers → (m : ℕ) × (n ≤ m) × (who m ≡ w)

-- each schedule that runs all workers ends
abbrev pub SchedulesEnd : Type 0
SchedulesEnd =
    (s : Setting) (who : ℕ → ℕ) (at : ℕ → History) → IsSetting s → HasRoom s → IsSchedule s who at → RunsAll s who
    → Ends s at
