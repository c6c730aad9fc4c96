-- The rule of the pool's table: what holds of every frame between any two steps of any berths.
use Rattle.std.specs.Prelude.{◌≡◌, ℕ, ◌+◌, ◌*◌, ◌<◌, List, length, slice_index, slice_get, Option, Some, None}
use mathlib.Core.Option.{some}
use lib.ListN.{get_elem?}
use Rattle.atomic_table.specs.Table as table
use Rattle.frame_core.specs.declared.phase.FramePhase.{FramePhase}
use Rattle.frame_core.specs.declared.phase.FramePhase.TheVariants.{Free, Filling, Ready, Marked}
use Rattle.frame_core.specs.declared.state.State.{State}
use Rattle.frame_core.specs.Machine.{HoldsPiece}
use Rattle.frame_core.specs.Words.{IsWord}
use Rattle.frame_pool.specs.declared.geometry.Geometry.{Geometry}
use Rattle.frame_pool.specs.declared.view.Duty.{Duty}
use Rattle.frame_pool.specs.Views.{filling, pinned, total, pins_on, fills_on}

-- the words of each piece, where they are told
abbrev pub Told : Type 0
Told = Option (List (List ℕ))

-- the row of a frame begins with these words, as far as the frame has room for them
abbrev pub Begins : ℕ → List ℕ → (ℕ → ℕ) → Type 0
Begins width ws row = (i : ℕ) → i < length ws → i < width → row i ≡ slice_index ws i

-- where it is told, p is a piece of the content and the row begins with its words
abbrev pub HasPiece : Told → ℕ → ℕ → (ℕ → ℕ) → Type 0
HasPiece None width p row = Unit {0}
HasPiece (Some pieces) width p row = (ws : List ℕ) × (slice_get pieces p ≡ Some ws) × Begins width ws row

-- how many berths fill a frame of this phase
abbrev pub fillers_of : FramePhase → ℕ
fillers_of Free = 0
fillers_of Filling = 1
fillers_of Ready = 0
fillers_of Marked = 0

-- the frame f, whose control word is `control` and whose data words are the row, among the berths' views
pub record FrameFacts (told : Told) (width f control : ℕ) (row : ℕ → ℕ) (views : List Duty) : Type 0 where
  pub state : State
  -- the control word is that of the state, which has no piece and no pin while it holds none
  pub word : IsWord control state
  pub empty : ¬ HoldsPiece state.phase → (state.piece ≡ 0) × (state.pins ≡ 0)
  -- the pins are the number of berths that pin the frame
  pub pins : total (pins_on f) views ≡ state.pins
  -- a frame that a berth pins with piece p is ready or marked with piece p
  pub held : (j p : ℕ) (v : Duty) → get_elem? views j ≡ some v → pinned f v.pins ≡ Some p → HoldsPiece state.phase
      × (state.piece ≡ p)
  -- it is being filled exactly where one berth fills it, and no other berth does
  pub fills : total (fills_on f) views ≡ fillers_of state.phase
  -- it begins with the words that this berth put
  pub written : (j : ℕ) (v : Duty) (ws : List ℕ) → get_elem? views j ≡ some v → v.fill ≡ Some (filling f ws)
      → Begins width ws row
  -- where the content is told, a ready or marked frame has a piece of it, and begins with its words
  pub filled : HoldsPiece state.phase → HasPiece told width state.piece row

-- the place of the data word i of the frame f: the control words of all frames come first
abbrev pub place : Geometry → ℕ → ℕ → ℕ
place z f i = z.frames + (f * z.words + i)

-- the table of a pool of this shape, and each of its frames
pub record Framed (told : Told) (z : Geometry) (s : table.State (Unit {0}) Duty) : Type 0 where
  pub wide : length s.words ≡ z.frames + z.frames * z.words
  pub frame : (f : ℕ) → f < z.frames
      → FrameFacts told z.words f (slice_index s.words f) (λ i. slice_index s.words (place z f i)) s.views
