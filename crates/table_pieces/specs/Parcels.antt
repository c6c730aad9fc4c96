-- The bytes of a piece in a parcel, and what a reader of them may rest on.
use Rattle.std.specs.Prelude.{◌≡◌, ◌<◌, ◌+◌, ◌*◌, ℕ, List, OnOk, length, slice_index_or}
use Rattle.piece_format.specs.Broken.{NoneBroken}
use Rattle.piece_format.specs.Bytes.{word_of}
use Rattle.piece_format.specs.Reading.{GivesBack}
use Rattle.piece_format.specs.Shape.{TableShape, piece_at, words_in}
use Rattle.table_core.specs.declared.cell.Cell.{Cell}
use Rattle.table_pieces.specs.Putting.{ReadsBack, piece_bytes}
use Rattle.table_pieces.specs.declared.parcel.Parcel.{Parcel}

-- what a reader of a piece wants to know of its bytes
pub record IsReadable (s : TableShape) (rows : List (List Cell)) (p : ℕ) : Type 0 where
  pub len : length (piece_bytes s rows p) ≡ 8 * words_in (piece_at s p)
  pub words : ReadsBack s rows p
  pub back : GivesBack s rows p (word_of (piece_bytes s rows p))
  pub sound : let q = piece_at s p in NoneBroken s q (word_of (piece_bytes s rows p)) (words_in q)

-- bytes that were made for a piece
pub record IsMade (s : TableShape) (rows : List (List Cell)) (p : ℕ) (made : List ℕ) : Type 0 where
  pub bytes : made ≡ piece_bytes s rows p
  pub readable : IsReadable s rows p

-- a parcel that was filled with a piece, unless memory ran out
abbrev pub IsFilled : TableShape → List (List Cell) → ℕ → Parcel → Type 0
IsFilled s rows p parcel = OnOk parcel.made (IsMade s rows p parcel.bytes.items)

-- parcels that were filled with the pieces from this one on
abbrev pub AreFilled : TableShape → List (List Cell) → ℕ → List Parcel → Type 0
AreFilled s rows first parcels = (i : ℕ) (d : Parcel) → i < length parcels
    → IsFilled s rows (first + i) (slice_index_or parcels i d)
