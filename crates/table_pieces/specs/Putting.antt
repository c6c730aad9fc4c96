-- The pieces of a table in a depot, and what is left where not all could be put.
use Rattle.std.specs.Prelude.{◌≡◌, ◌<◌, ◌≤◌, ◌+◌, ◌*◌, ⊤, ℕ, List, length, slice_index, Some, None}
use Rattle.coop_outside.specs.Causes.{Rose}
use Rattle.coop_outside.specs.Pieces as depot
use Rattle.coop_outside.specs.Pieces.{Pieces, Stored}
use Rattle.piece_format.specs.Broken.{NoneBroken}
use Rattle.piece_format.specs.Bytes.{bytes_of, word_of}
use Rattle.piece_format.specs.Reading.{GivesBack}
use Rattle.piece_format.specs.Shape.{TableShape, piece_at, pieces, words_in}
use Rattle.piece_format.specs.Words.{piece_words}
use Rattle.table_core.specs.declared.cell.Cell.{Cell}
use Rattle.table_pieces.specs.declared.refusal.BatchRefusal.{BatchRefusal}
use Rattle.table_pieces.specs.declared.refusal.BatchRefusal.TheVariants as refusals

-- the bytes of a piece of these rows
abbrev pub piece_bytes : TableShape → List (List Cell) → ℕ → List ℕ
piece_bytes s rows piece = bytes_of (piece_words s rows piece)

-- the pieces below one number hold their bytes, and each from another number on is as it was
pub record HoldPieces (s : TableShape) (rows : List (List Cell)) (below from : ℕ) (old new : Pieces) : Type 0 where
  pub put : (p : ℕ) → p < below → depot.bytes_of new p ≡ Some (piece_bytes s rows p)
  pub kept : (p : ℕ) → from ≤ p → depot.bytes_of new p ≡ depot.bytes_of old p

-- the same where the depot tells what it holds
abbrev pub ArePut : TableShape → List (List Cell) → ℕ → ℕ → Stored → Stored → Type 0
ArePut s rows below from None None = ⊤
ArePut s rows below from None (Some new) = ⊥
ArePut s rows below from (Some old) None = ⊥
ArePut s rows below from (Some old) (Some new) = HoldPieces s rows below from old new

-- the bytes of each piece below a number are 8 for each of its words
abbrev pub AreLong : TableShape → List (List Cell) → ℕ → Type 0
AreLong s rows count = (p : ℕ) → p < count → length (piece_bytes s rows p) ≡ 8 * words_in (piece_at s p)

-- each word of a piece reads back from its bytes
abbrev pub ReadsBack : TableShape → List (List Cell) → ℕ → Type 0
ReadsBack s rows p = (i : ℕ) → i < words_in (piece_at s p)
    → word_of (piece_bytes s rows p) i ≡ slice_index (piece_words s rows p) i

-- each word of each piece below a number
abbrev pub ReadBack : TableShape → List (List Cell) → ℕ → Type 0
ReadBack s rows count = (p : ℕ) → p < count → ReadsBack s rows p

-- the bytes of each piece below a number give the cells of its chunk back
abbrev pub GiveBack : TableShape → List (List Cell) → ℕ → Type 0
GiveBack s rows count = (p : ℕ) → p < count → GivesBack s rows p (word_of (piece_bytes s rows p))

-- no word of a piece below a number breaks the rules
abbrev pub AreSound : TableShape → List (List Cell) → ℕ → Type 0
AreSound s rows count = (p : ℕ) → p < count
    → let q = piece_at s p in NoneBroken s q (word_of (piece_bytes s rows p)) (words_in q)

-- a piece wasn't taken, and a fault counted: the pieces below it are put, and those above it are as they were
pub record FailsAt (s : TableShape) (rows : List (List Cell)) (piece : ℕ) (old new : Stored)
    (before now : ℕ) : Type 0 where
  pub there : piece < pieces s
  pub rose : Rose before now
  pub left : ArePut s rows piece (piece + 1) old new

-- there was no memory for a piece: those below it are put, and all others are as they were
pub record LacksMemory (s : TableShape) (rows : List (List Cell)) (old new : Stored) : Type 0 where
  pub next : ℕ
  pub there : next < pieces s
  pub left : ArePut s rows next next old new

-- why not all pieces were put, and what is left
abbrev pub IsPutRefusal : TableShape → List (List Cell) → Stored → Stored → ℕ → ℕ → BatchRefusal → Type 0
IsPutRefusal s rows old new before now (refusals.Put piece) = FailsAt s rows piece old new before now
IsPutRefusal s rows old new before now refusals.Memory = LacksMemory s rows old new
