-- What the depot holds and the frames are told of a table.
use Rattle.std.specs.Prelude.{◌≡◌, ◌<◌, ◌+◌, ◌*◌, ◌++◌, ⊤, ℕ, zero, suc, List, [], ◌∷◌, length, slice_get, Some, None}
use Rattle.coop_outside.specs.Pieces.{Pieces, Stored, bytes_of}
use Rattle.frame_pool.specs.Frames.{Told}
use Rattle.piece_format.specs.Broken.{NoneBroken}
use Rattle.piece_format.specs.Bytes.{word_of}
use Rattle.piece_format.specs.Reading.{GivesBack}
use Rattle.piece_format.specs.Shape.{TableShape, groups, piece_at, pieces, words_in}
use Rattle.piece_format.specs.declared.layout.Layout.{Layout}
use Rattle.piece_format.specs.declared.layout.Layout.TheVariants as layouts
use Rattle.piece_format.specs.Words.{piece_words}
use Rattle.table_core.specs.declared.cell.Cell.{Cell}
use Rattle.table_pieces.specs.Putting.{ReadsBack, piece_bytes}

-- the depot holds the bytes of a piece of these rows, and the frames' content has its words; the bytes are as long as
-- the words, which they give back, and so they do the cells; no word breaks the rules
pub record IsPieceThere (z : TableShape) (rows : List (List Cell)) (held : Pieces) (content : List (List ℕ))
    (p : ℕ) : Type 0 where
  pub bytes : bytes_of held p ≡ Some (piece_bytes z rows p)
  pub words : slice_get content p ≡ Some (piece_words z rows p)
  pub long : length (piece_bytes z rows p) ≡ 8 * words_in (piece_at z p)
  pub reads_back : ReadsBack z rows p
  pub gives_back : GivesBack z rows p (word_of (piece_bytes z rows p))
  pub sound : NoneBroken z (piece_at z p) (word_of (piece_bytes z rows p)) (words_in (piece_at z p))

-- the depot tells that it holds each piece of a table with these rows, and the frames' content is told as the words of
-- these pieces
abbrev pub HoldsTable : Stored → Told → TableShape → List (List Cell) → Type 0
HoldsTable None told z rows = ⊥
HoldsTable (Some held) None z rows = ⊥
HoldsTable (Some held) (Some content) z rows = (p : ℕ) → p < pieces z → IsPieceThere z rows held content p

-- depot and frames tell of one table, or neither tells anything
abbrev pub TellAlike : Stored → Told → TableShape → Type 0
TellAlike None None z = ⊤
TellAlike None (Some content) z = ⊥
TellAlike (Some held) told z = (rows : List (List Cell)) × HoldsTable (Some held) told z rows

-- the first words, where `word` gives the word at each place
abbrev pub first_words : (ℕ → ℕ) → ℕ → List ℕ
first_words word zero = []
first_words word (suc n) = first_words word n ++ word n ∷ []

-- the place among the pieces of a chunk of the one that has the column
abbrev pub group_with : Layout → ℕ → ℕ
group_with layouts.Row x = 0
group_with layouts.Column x = x

-- the piece of a chunk that has the column
abbrev pub piece_with : TableShape → ℕ → ℕ → ℕ
piece_with z c x = c * groups z + group_with z.layout x
