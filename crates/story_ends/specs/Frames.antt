-- That frames make nobody wait: a frame that may be claimed is used by nobody, and what may be pinned is ready.
use Rattle.std.specs.Prelude.{◌≡◌, ◌<◌, ◌++◌, true, false, ℕ, ◌∷◌, Some}
use Rattle.std.specs.List.{list_any}
use Rattle.scan_story.specs.declared.entry.Entry.TheVariants.{Deliver, Fill}
use Rattle.scan_story.specs.declared.setting.Setting.{Setting}
use Rattle.scan_story.specs.declared.view.Load.{Load}
use Rattle.scan_story.specs.Counting.{has}
use Rattle.scan_story.specs.Loads.{begins_in, underway}
use Rattle.scan_story.specs.MayFollow.{Allowed}
use Rattle.scan_story.specs.Setting.{pieces_read}
use Rattle.scan_story.specs.Views.{History, piece_in}
use Rattle.scan_story.specs.Whole.{had_piece}
use Rattle.story_laws.specs.Frames.{releases_by}

-- the load underway has begun to fill the frame with a piece, and hasn't filled it
pub record IsBeingFilled (s : Setting) (h : History) (f : ℕ) : Type 0 where
  pub load : Load
  pub underway : underway s h ≡ Some load
  pub piece : ℕ
  pub begun : begins_in load f piece ≡ true
  pub not_filled : has load.filled piece ≡ false

-- Frames that are claimed

-- no worker uses the frame: none was delivered a chunk of which the frame had a piece, without having released it since
abbrev pub IsUnused : Setting → History → ℕ → Type 0
IsUnused s h f = (w : ℕ) → w < s.workers → had_piece s h w f ≡ false

-- a frame that is being filled is used by no worker
abbrev pub FilledAreUnused : Setting → History → Type 0
FilledAreUnused s h = (f : ℕ) → IsBeingFilled s h f → IsUnused s h f

-- where a fill of a frame may come, the frame is used by no worker, and isn't being filled
pub record IsFree (s : Setting) (h : History) (f : ℕ) : Type 0 where
  pub unused : IsUnused s h f
  pub unfilled : IsBeingFilled s h f → ⊥

abbrev pub FillsFindFree : Setting → History → Type 0
FillsFindFree s h = (w f p : ℕ) → Allowed s h (Fill w f p) → IsFree s h f

-- Pieces that are pinned

-- the piece stands in the frame, which isn't being filled
pub record IsReadyIn (s : Setting) (h : History) (f p : ℕ) : Type 0 where
  pub frame : f < s.frames
  pub stands : piece_in s h f ≡ Some p
  pub settled : IsBeingFilled s h f → ⊥

-- where a chunk may be delivered to a query, each piece of it that the query reads is ready in a frame
abbrev pub DeliversFindReady : Setting → History → Type 0
DeliversFindReady s h =
    (w q c : ℕ) → Allowed s h (Deliver w q c) → (p : ℕ) → has (pieces_read s q c) p ≡ true
    → (f : ℕ) × IsReadyIn s h f p

-- from the Deliver of a chunk to the worker's next Release each piece that the query reads is ready where it stood then
abbrev pub HeldStayReady : Setting → History → Type 0
HeldStayReady s h =
    (w q c : ℕ) (later before : History) → h ≡ later ++ Deliver w q c ∷ before → list_any (releases_by w) later ≡ false
    → (f p : ℕ) → has (pieces_read s q c) p ≡ true → f < s.frames → piece_in s before f ≡ Some p → IsReadyIn s h f p
