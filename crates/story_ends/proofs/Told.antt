-- What each row of the table of turns tells.
use Rattle.std.proofs.Common.{◌≡◌, ◌==◌, ℕ, Bool, true, false, if◌then◌else◌, Option, None, Some, is_some, nat_lt, refl, arith}
use Rattle.std.proofs.lemmas.Bool.Decides.{nat_tests}
use Rattle.scan_story.specs.declared.setting.Setting.{Setting}
use Rattle.scan_story.specs.declared.view.Load.{Load}
use Rattle.scan_story.specs.Counting.{any_below}
use Rattle.scan_story.specs.Loads.{underway}
use Rattle.scan_story.specs.MayFollow.{IsActiveOn, is_ready}
use Rattle.scan_story.specs.Numbers.{needed}
use Rattle.scan_story.specs.Views.{History, is_available, is_ended, is_registered, is_stopped}
use Rattle.story_laws.specs.Every.{OfEveryLegal}
use Rattle.story_laws.proofs.Active.{active_of}
use Rattle.story_laws.proofs.Bools.{both_and, if_not, is_below, not_both, or_right, same_number}
use Rattle.story_laws.proofs.Counts.{any_find, any_nowhere, any_none_at}
use Rattle.story_ends.proofs.Steps.{awaits, may_deliver, may_end, may_plan}
use Rattle.abm_policy.specs.Turns.{FinishedRow, LoadRow, NotYetRow, StoppedRow, TakeRow}
use Rattle.story_ends.specs.Telling.{Tells, TurnsTell}

-- a chunk that is available is ready
none_available : (s : Setting) (h : History) (q : ℕ) → any_below (is_ready s h q) s.chunks ≡ false
    → any_below (is_available s h q) s.chunks ≡ false
none_available s h q off = any_nowhere (is_available s h q) s.chunks (λ c lt. if_not (is_available s h q c) (λ on.
    not_both (is_ready s h q c) (both_and (nat_lt c s.chunks) (is_available s h q c) (is_below c s.chunks lt) on)
    (any_none_at (is_ready s h q) s.chunks c off lt)))

pub turns_tell : OfEveryLegal TurnsTell
turns_tell s h m room legal w q may = by_stopped (is_stopped h q) refl
  where
    on : is_stopped h q ≡ false → IsActiveOn s h q w
    on off = record {
      active = active_of (is_registered h q) (is_stopped h q) (is_ended h q) may.runs.registered off may.runs.not_ended;
      on = may.runs.on;
    }

    some : (k : ℕ) → (k == 0) ≡ false → nat_lt 0 k ≡ true
    some k e = grind (arith, nat_tests)

    by_load : (u : Option Load) → underway s h ≡ u → is_stopped h q ≡ false → (needed s h q == 0) ≡ false
        → any_below (is_ready s h q) s.chunks ≡ false → Tells s h w q (if is_some u then NotYetRow else LoadRow)
    by_load (Some l) u t e r = awaits s h w l m room legal may.idle u
    by_load None u t e r = may_plan s h w q m (on t) may.idle u (some (needed s h q) e) (none_available s h q r)

    by_ready : (b : Bool) → any_below (is_ready s h q) s.chunks ≡ b → is_stopped h q ≡ false → (needed s h q == 0) ≡ false
        → Tells s h w q (if b then TakeRow else (if is_some (underway s h) then NotYetRow else LoadRow))
    by_ready true r t e = let c = any_find (is_ready s h q) s.chunks r in may_deliver s h w q c.0 m (on t) may.idle c.2
    by_ready false r t e = by_load (underway s h) refl t e r

    by_needed : (b : Bool) → (needed s h q == 0) ≡ b → is_stopped h q ≡ false
        → Tells s h w q (if b then FinishedRow else (if any_below (is_ready s h q) s.chunks then TakeRow else
        (if is_some (underway s h) then NotYetRow else LoadRow)))
    by_needed true e t = may_end s h w q (on t) may.idle (same_number (needed s h q) 0 e)
    by_needed false e t = by_ready (any_below (is_ready s h q) s.chunks) refl t e

    by_stopped : (b : Bool) → is_stopped h q ≡ b
        → Tells s h w q (if b then StoppedRow else (if needed s h q == 0 then FinishedRow else
        (if any_below (is_ready s h q) s.chunks then TakeRow else (if is_some (underway s h) then NotYetRow else LoadRow))))
    by_stopped true t = record { registered = may.runs.registered; finished = or_right (is_ended h q) (is_stopped h q) t }
    by_stopped false t = by_needed (needed s h q == 0) refl t
