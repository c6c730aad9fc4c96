-- What stays true for a worker while others add to the story.
use Rattle.std.specs.Prelude.{◌≡◌, ◌==◌, ◌&&◌, true, false, ℕ, List, [], ◌∷◌, Option, None, Some, if◌then◌else◌}
use Rattle.std.specs.List.{list_any}
use Rattle.scan_story.specs.declared.entry.Entry.{Entry}
use Rattle.scan_story.specs.declared.entry.Entry.TheVariants.{Register}
use Rattle.scan_story.specs.declared.setting.Setting.{Setting}
use Rattle.scan_story.specs.declared.view.Load.{Load}
use Rattle.scan_story.specs.Setting.{IsSetting, worker_of}
use Rattle.scan_story.specs.Makers.{entries_by, StartsWith}
use Rattle.scan_story.specs.Views.{History, past, is_active, held_by}
use Rattle.scan_story.specs.Loads.{underway}
use Rattle.scan_story.specs.MayFollow.{MayRegister}
use Rattle.scan_story.specs.Spent.{reads}
use Rattle.scan_story.specs.Causes.{last_fault}
use Rattle.scan_story.specs.Legal.{Legal}
use Rattle.abm_policy.specs.Turns.{RunsOn, MayTurn}

-- the story went on legally, and the worker added nothing to it
pub record WentOn (s : Setting) (w : ℕ) (old new : List Entry) : Type 0 where
  pub legal : Legal s (past new)
  pub begins : StartsWith new old
  pub own : entries_by w new ≡ entries_by w old

-- the load is underway still, and no read and no fault was recorded
pub record IsLoadedStill (s : Setting) (from : ℕ) (l : Load) (old new : History) : Type 0 where
  pub underway : underway s new ≡ Some l
  pub reads : reads new ≡ reads old
  pub last_fault : last_fault from new ≡ last_fault from old

-- while a worker waits, it may register what it might have registered
abbrev pub RegistersStay : Type 0
RegistersStay =
    (s : Setting) (w q : ℕ) (old new : List Entry) → IsSetting s → WentOn s w old new → MayRegister s (past old) w q
    → MayRegister s (past new) w q

-- its query runs on
abbrev pub RunsStay : Type 0
RunsStay = (s : Setting) (w q : ℕ) (old new : List Entry) → WentOn s w old new → RunsOn s (past old) q w
    → RunsOn s (past new) q w

-- it may take the turn that it might have taken
abbrev pub TurnsStay : Type 0
TurnsStay = (s : Setting) (w q : ℕ) (old new : List Entry) → WentOn s w old new → MayTurn s (past old) w q
    → MayTurn s (past new) w q

-- it holds what it held
abbrev pub HoldsStay : Type 0
HoldsStay = (s : Setting) (w : ℕ) (old new : List Entry) → WentOn s w old new
    → held_by (past new) w ≡ held_by (past old) w

-- its load stays underway as it was
abbrev pub LoadsStay : Type 0
LoadsStay =
    (s : Setting) (w from : ℕ) (l : Load) (old new : List Entry) → WentOn s w old new → underway s (past old) ≡ Some l
    → l.worker ≡ w
    → IsLoadedStill s from l (past old) (past new)

-- Which of a worker's queries may be active

-- the query of the worker's last Register
abbrev pub last_registered : ℕ → History → Option ℕ
last_registered w [] = None
last_registered w (Register v q ∷ h) = if v == w then Some q else last_registered w h
last_registered w (_ ∷ h) = last_registered w h

-- a query that is active is the one that its worker registered last
abbrev pub ActiveIsLast : Type 0
ActiveIsLast = (s : Setting) (h : History) (w q : ℕ) → Legal s h → worker_of s q ≡ Some w → is_active h q ≡ true
    → last_registered w h ≡ Some q

-- where the query that a worker registered last is active no more, no query of the worker is
abbrev pub RestsAlone : Type 0
RestsAlone =
    (s : Setting) (h : History) (w : ℕ) → IsSetting s → Legal s h
    → ((q : ℕ) → last_registered w h ≡ Some q → is_active h q ≡ false)
    → list_any (λ n. n.worker == w && is_active h n.query) s.needs ≡ false
