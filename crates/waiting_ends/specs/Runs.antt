-- Runs of the workers, with the history that they write, and that each ends.
use Rattle.std.specs.Prelude.{◌≡◌, ◌+◌, ◌<◌, ◌≤◌, ◌⊎◌, ◌++◌, true, false, ℕ, Bool, [], ◌∷◌}
use Rattle.std.specs.Prelude.{Option, None, Some}
use Rattle.scan_story.specs.declared.entry.Entry.{Entry}
use Rattle.scan_story.specs.declared.setting.Setting.{Setting}
use Rattle.scan_story.specs.Legal.{Legal}
use Rattle.scan_story.specs.Setting.{IsSetting, HasRoom}
use Rattle.scan_story.specs.Views.{History}
use Rattle.story_ends.specs.Ending.{Ends, IsFair, RunsAll}
use Rattle.story_ends.specs.Going.{IsDone}
use Rattle.waiting_core.specs.Whole.{IsAway, Sleeps}
use Rattle.waiting_ends.specs.Order.{Act, Crew, Step, first_crew, is_own, writes}

pub record Play : Type 0 where
  pub crew : Crew
  pub story : History

abbrev pub first_play : Play
first_play = record { crew = first_crew; story = [] }

-- one entry at least is written, or none
abbrev pub Grows : Bool → History → History → Type 0
Grows true old new = (e : Entry) × (more : History) × (new ≡ e ∷ (more ++ old))
Grows false old new = new ≡ old

-- Who is run, and what it does

-- worker w, of those of the setting, takes the step, and writes where the step says so
pub record Goes (s : Setting) (w : ℕ) (a : Act) (p q : Play) : Type 0 where
  pub is_one : w < s.workers
  pub step : Step s.workers w a p.crew q.crew
  pub grows : Grows (writes w a p.crew) p.story q.story

-- it has nothing to do: it sleeps, or it has no query and is done
abbrev pub HasNothing : Setting → ℕ → Play → Type 0
HasNothing s w p = Sleeps p.crew.whole w ⊎ (IsAway p.crew.whole w × IsDone s p.story w)

-- who is run at time n lost a compare and exchange, against a step that another worker took since it was run last
pub record HasLost (who : ℕ → ℕ) (does : ℕ → Option Act) (n : ℕ) : Type 0 where
  pub time : ℕ
  pub earlier : time < n
  pub act : Act
  pub step : does time ≡ Some act
  pub by_other : who time ≡ who n → ⊥
  pub since : (t : ℕ) → time < t → t < n → who t ≡ who n → ⊥

-- at each time one worker is run: it takes a step, or does nothing since it has nothing to do or lost; and what was
-- written is legal
pub record IsRun (s : Setting) (who : ℕ → ℕ) (does : ℕ → Option Act) (at : ℕ → Play) : Type 0 where
  pub begins : at 0 ≡ first_play
  pub goes : (n : ℕ) (a : Act) → does n ≡ Some a → Goes s (who n) a (at n) (at (n + 1))
  pub idles : (n : ℕ) → does n ≡ None
      → (at (n + 1) ≡ at n) × (HasNothing s (who n) (at n) ⊎ HasLost who does n)
  pub legal : (n : ℕ) → Legal s (at n).story

-- no sleep ends by itself
abbrev pub is_calm : Option Act → Bool
is_calm None = true
is_calm (Some a) = is_own a

-- from some time on no sleep ends by itself
abbrev pub CalmsDown : (ℕ → Option Act) → Type 0
CalmsDown does = (from : ℕ) × ((n : ℕ) → from ≤ n → is_calm (does n) ≡ true)

abbrev pub story_at : (ℕ → Play) → ℕ → History
story_at at n = (at n).story

-- where each worker is run again and again, and from some time on no sleep ends by itself, the story grows wherever
-- somebody may go on
abbrev pub RunsAreFair : Type 0
RunsAreFair =
    (s : Setting) (who : ℕ → ℕ) (does : ℕ → Option Act) (at : ℕ → Play) → IsSetting s → HasRoom s
    → IsRun s who does at → RunsAll s who → CalmsDown does → IsFair s (story_at at)

-- and is whole at its end
abbrev pub RunsEnd : Type 0
RunsEnd =
    (s : Setting) (who : ℕ → ℕ) (does : ℕ → Option Act) (at : ℕ → Play) → IsSetting s → HasRoom s
    → IsRun s who does at → RunsAll s who → CalmsDown does → Ends s (story_at at)
