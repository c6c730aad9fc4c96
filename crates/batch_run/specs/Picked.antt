-- What the scans of a batch are run for: the origin of the desk and the content of the frames, by the depot as it is
-- then.
use Rattle.std.specs.Prelude.{◌≡◌, ◌<◌, ⊤, ℕ, List, [], map, Option, Some, None}
use Rattle.std.specs.List.{range_with_len}
use Rattle.coop_outside.specs.Pieces.{Pieces, Stored, bytes_of}
use Rattle.frame_pool.specs.Frames.{Told}
use Rattle.piece_format.specs.Bytes.{word_of}
use Rattle.piece_format.specs.Shape.{TableShape, piece_at, pieces, words_in}
use Rattle.table_core.specs.declared.cell.Cell.{Cell}
use Rattle.table_pieces.specs.Putting.{AreLong, AreSound, GiveBack, ReadBack, piece_bytes}
use Rattle.frame_rows.specs.Tables.{first_words}

-- the bytes, where there are some
abbrev pub or_none : Option (List ℕ) → List ℕ
or_none None = []
or_none (Some bytes) = bytes

-- the words of a piece that is held
abbrev pub words_held : TableShape → Pieces → ℕ → List ℕ
words_held z held p = first_words (word_of (or_none (bytes_of held p))) (words_in (piece_at z p))

-- the words of each piece, where the depot tells what it holds
abbrev pub content_of : TableShape → Stored → Told
content_of z None = None
content_of z (Some held) = Some (map (words_held z held) (range_with_len 0 (pieces z)))

-- the depot holds each piece of a table with these rows, where it tells what it holds; what the pieces' bytes give back
-- is as table_pieces says
pub record HoldsRows (z : TableShape) (rows : List (List Cell)) (held : Pieces) : Type 0 where
  pub put : (p : ℕ) → p < pieces z → bytes_of held p ≡ Some (piece_bytes z rows p)
  pub long : AreLong z rows (pieces z)
  pub words : ReadBack z rows (pieces z)
  pub back : GiveBack z rows (pieces z)
  pub sound : AreSound z rows (pieces z)

abbrev pub HoldsSomeTable : TableShape → Stored → Type 0
HoldsSomeTable z None = ⊤
HoldsSomeTable z (Some held) = (rows : List (List Cell)) × HoldsRows z rows held
