-- A piece in a frame.
use Rattle.std.specs.Prelude.{◌≡◌, ◌<◌, ℕ, List, Some, length}
use Rattle.frame_pool.specs.Berths.{BerthView, IsAt, PoolView}
use Rattle.frame_pool.specs.Views.{pinned}
use Rattle.piece_format.specs.Shape.{IsPiece, TableShape, frame_words, piece_at, pieces}
use Rattle.frame_rows.specs.declared.framed.Framed.{Framed}
use Rattle.frame_rows.specs.Pins.{slot_at}

-- the pool's berth pins the frame, which has room for any piece of the shape, with this piece
pub record IsFramed (z : TableShape) (pool : PoolView) (b : BerthView) (p : Framed) : Type 0 where
  pub at : IsAt pool b p.frame
  pub room : pool.shape.words ≡ frame_words z
  pub pinned : pinned p.frame b.pins ≡ Some p.number
  pub there : p.number < pieces z
  pub piece : p.piece ≡ piece_at z p.number
  pub small : IsPiece p.piece

-- the pool's berth pins the frame of each slot with the slot's piece
abbrev pub ArePinned : PoolView → BerthView → List (ℕ × ℕ) → Type 0
ArePinned pool b slots = (i : ℕ) → i < length slots → IsAt pool b (slot_at slots i).0
    × (pinned (slot_at slots i).0 b.pins ≡ Some (slot_at slots i).1)
