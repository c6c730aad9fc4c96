-- Who may go on, as long as a history isn't whole.
use Rattle.std.specs.Prelude.{◌≡◌, ◌<◌, ◌||◌, ◌⊎◌, true, false, ℕ, Bool, Some}
use Rattle.std.specs.List.{AllByRecursion}
use Rattle.scan_story.specs.declared.entry.Entry.{Entry}
use Rattle.scan_story.specs.declared.entry.Entry.TheVariants.{Failed, Stop}
use Rattle.scan_story.specs.declared.setting.Need.{Need}
use Rattle.scan_story.specs.declared.setting.Setting.{Setting}
use Rattle.scan_story.specs.declared.view.Load.{Load}
use Rattle.scan_story.specs.Loads.{underway}
use Rattle.scan_story.specs.Makers.{maker_of}
use Rattle.scan_story.specs.MayFollow.{IsIdle}
use Rattle.scan_story.specs.Views.{History, is_ended, is_registered, is_stopped}
use Rattle.scan_story.specs.Whole.{IsWhole}
use Rattle.story_laws.specs.Every.{MayCome}

-- the entry serves a query, rather than give it up: it is neither a Stop nor a Failed
abbrev pub serves : Entry → Bool
serves (Stop w q) = false
serves (Failed w q p why) = false
serves _ = true

-- Somebody

-- an entry that serves may come
pub record GoesOn (s : Setting) (h : History) : Type 0 where
  pub entry : Entry
  pub serves : serves entry ≡ true
  pub may : MayCome s h entry

-- the history is whole, or somebody goes on
abbrev pub SomebodyGoesOn : Setting → History → Type 0
SomebodyGoesOn s h = IsWhole s h ⊎ GoesOn s h

-- Each worker

-- the worker may go on: an entry of its own that serves may come
pub record MayGoOn (s : Setting) (h : History) (w : ℕ) : Type 0 where
  pub entry : Entry
  pub by_worker : maker_of entry ≡ w
  pub serves : serves entry ≡ true
  pub may : MayCome s h entry

-- the query was registered, and has ended or was stopped
pub record IsOver (h : History) (q : ℕ) : Type 0 where
  pub registered : is_registered h q ≡ true
  pub finished : (is_ended h q || is_stopped h q) ≡ true

-- the worker holds nothing and loads nothing, and each query of its own is over
pub record IsDone (s : Setting) (h : History) (w : ℕ) : Type 0 where
  pub idle : IsIdle s h w
  pub over : AllByRecursion (λ (n : Need). n.worker ≡ w → IsOver h n.query) s.needs

-- the worker awaits the load of another one, which may go on
pub record Awaits (s : Setting) (h : History) (w : ℕ) : Type 0 where
  pub load : Load
  pub underway : underway s h ≡ Some load
  pub others : load.worker ≡ w → ⊥
  pub goes_on : MayGoOn s h load.worker

-- each worker is done, or may go on, or awaits the load of another one, which may go on
abbrev pub EachGoesOn : Setting → History → Type 0
EachGoesOn s h = (w : ℕ) → w < s.workers → IsDone s h w ⊎ (MayGoOn s h w ⊎ Awaits s h w)
