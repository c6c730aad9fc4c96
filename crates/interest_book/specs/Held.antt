-- What workers hold.
use Rattle.std.specs.Prelude.{◌≡◌, ◌<◌, ℕ, Bool, false, List, Option, None, Some, length, slice_index_or}
use Rattle.scan_story.specs.declared.view.Hold.{Hold}
use Rattle.scan_story.specs.Views.{History, held_by}
use Rattle.scan_story.specs.Numbers.{is_hold_for}

-- what each worker holds
abbrev pub AreHolds : History → List (Option Hold) → Type 0
AreHolds h holds = (w : ℕ) → w < length holds → slice_index_or holds w None ≡ held_by h w

-- the worker, if any, holds a chunk for the query
abbrev pub hold_for : List (Option Hold) → ℕ → Option ℕ → Bool
hold_for holds q None = false
hold_for holds q (Some w) = is_hold_for q (slice_index_or holds w None)
