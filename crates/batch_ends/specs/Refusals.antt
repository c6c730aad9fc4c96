-- Why a batch didn't start, and which pieces are put then.
use Rattle.std.specs.Prelude.{◌≤◌, ℕ, List}
use Rattle.coop_outside.specs.Pieces.{Stored}
use Rattle.piece_format.specs.Shape.{TableShape, pieces}
use Rattle.table_core.specs.declared.cell.Cell.{Cell}
use Rattle.table_pieces.specs.Putting.{ArePut, FailsAt}
use Rattle.table_pieces.specs.declared.refusal.BatchRefusal.{BatchRefusal}
use Rattle.table_pieces.specs.declared.refusal.BatchRefusal.TheVariants as refusals

-- memory ran out before the first query: the pieces below some number are put, and all others are as they were
pub record IsUnmade (s : TableShape) (rows : List (List Cell)) (old new : Stored) : Type 0 where
  pub put : ℕ
  pub within : put ≤ pieces s
  pub left : ArePut s rows put put old new

-- a piece wasn't taken and a fault counted, or memory ran out
abbrev pub IsRefusal : TableShape → List (List Cell) → Stored → Stored → ℕ → ℕ → BatchRefusal → Type 0
IsRefusal s rows old new before now (refusals.Put piece) = FailsAt s rows piece old new before now
IsRefusal s rows old new before now refusals.Memory = IsUnmade s rows old new
