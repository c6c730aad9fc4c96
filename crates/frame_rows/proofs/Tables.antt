-- What a depot and frames that tell of one table give.
use Rattle.std.proofs.Common.{◌≡◌, ◌<◌, ◌*◌, ◌==◌, ℕ, false, List, length, get_or, Some, None, refl, sym, ap, ◌∙◌, subst}
use Rattle.std.proofs.lemmas.List.FromFn.{length-map-range_with_len}
use Rattle.std.specs.Int.{bit_at}
use Rattle.coop_outside.specs.Pieces.{HoldsPiece, Pieces, ReadsPiece, Stored}
use Rattle.frame_pool.specs.declared.view.Pin.{Pin}
use Rattle.frame_pool.specs.Berths.{IsWhole}
use Rattle.frame_pool.specs.Frames.{Told}
use Rattle.frame_pool.specs.Steps.{IsWordOf}
use Rattle.frame_pool.specs.Views.{filling, pinned}
use Rattle.piece_format.specs.Broken.{IsLeastBroken, is_broken}
use Rattle.piece_format.specs.Bytes.{word_of}
use Rattle.piece_format.specs.Cells.{cell_at, cell_of, dict_len_at, kind_at, piece_rows}
use Rattle.piece_format.specs.Reading.{HasColumn, null_bit, null_place, value_place}
use Rattle.piece_format.specs.Shape.{TableShape, piece_at, pieces, words_in}
use Rattle.piece_format.specs.Words.{piece_words, slot_word, slot_at}
use Rattle.piece_format.proofs.Back.{null_place-lt, value_place-lt}
use Rattle.story_laws.proofs.Bools.{not_both, same_some}
use Rattle.table_core.specs.declared.cell.Cell.{Cell}
use Rattle.table_pieces.specs.Putting.{piece_bytes}
use Rattle.frame_rows.specs.Tables.{HoldsTable, IsPieceThere, TellAlike, first_words}
use Rattle.frame_rows.proofs.Words.{first-is}

length-words : (z : TableShape) (rows : List (List Cell)) (p : ℕ) → length (piece_words z rows p) ≡ words_in (piece_at z p)
unfolding piece_words
length-words z rows p = length-map-range_with_len (λ i. slot_word (cell_at (piece_rows z rows p)) (slot_at (piece_at z p) i)) 0 (words_in (piece_at z p))

pub holds_piece : (held : Stored) (told : Told) (z : TableShape) (p size : ℕ) → TellAlike held told z → p < pieces z → size ≡ 8 * words_in (piece_at z p) → HoldsPiece held p size
holds_piece None told z p size alike low long = tt
holds_piece (Some held) None z p size alike low long = absurd alike.1
holds_piece (Some held) (Some content) z p size alike low long = let there = alike.1 p low in (piece_bytes z alike.0 p, there.bytes, there.long ∙ sym long)

-- no word of a piece that is told breaks the rules
pub none_damaged : (held : Stored) (told : Told) (z : TableShape) (p i : ℕ) (bytes : List ℕ) → TellAlike held told z → p < pieces z → ReadsPiece held p bytes
    → IsLeastBroken z (piece_at z p) (word_of bytes) i → held ≡ None
none_damaged None told z p i bytes alike low reads broken = refl
none_damaged (Some held) None z p i bytes alike low reads broken = absurd alike.1
none_damaged (Some held) (Some content) z p i bytes alike low reads broken =
    let there = alike.1 p low in
    let same : bytes ≡ piece_bytes z alike.0 p = same_some bytes (piece_bytes z alike.0 p) (sym reads ∙ there.bytes) in
    let whole = subst (λ (b : List ℕ). is_broken z (piece_at z p) (word_of b) i ≡ false) (sym same) (there.sound i broken.inside) in
    absurd (not_both (is_broken z (piece_at z p) (word_of bytes) i) broken.broken whole)

-- the words of the bytes that a get gave are the piece's
pub whole_words : (held : Stored) (told : Told) (z : TableShape) (p f : ℕ) (bytes : List ℕ) → TellAlike held told z → p < pieces z → ReadsPiece held p bytes
    → IsWhole told p (Some (filling f (first_words (word_of bytes) (words_in (piece_at z p)))))
whole_words None None z p f bytes alike low reads = tt
whole_words None (Some content) z p f bytes alike low reads = absurd alike
whole_words (Some held) None z p f bytes alike low reads = absurd alike.1
whole_words (Some held) (Some content) z p f bytes alike low reads =
    let rows = alike.0 in
    let there = alike.1 p low in
    let same : bytes ≡ piece_bytes z rows p = same_some bytes (piece_bytes z rows p) (sym reads ∙ there.bytes) in
    let words : piece_words z rows p ≡ first_words (word_of (piece_bytes z rows p)) (words_in (piece_at z p)) =
    first-is (word_of (piece_bytes z rows p)) (words_in (piece_at z p)) (piece_words z rows p) (length-words z rows p) there.reads_back in
    there.words ∙ (ap (λ (ws : List ℕ). Some ws) words ∙ ap (λ (b : List ℕ). Some (first_words (word_of b) (words_in (piece_at z p)))) (sym same))

-- a word that was read under a pin is that of the piece's bytes
word_read : (held : Pieces) (content : List (List ℕ)) (z : TableShape) (rows : List (List Cell)) (pins : List Pin) (p f i x : ℕ) → IsPieceThere z rows held content p
    → pinned f pins ≡ Some p → IsWordOf (Some content) pins f i x → i < words_in (piece_at z p) → x ≡ word_of (piece_bytes z rows p) i
word_read held content z rows pins p f i x there is read low =
    let r = read p is in
    let same : r.0 ≡ piece_words z rows p = same_some r.0 (piece_words z rows p) (sym r.1 ∙ there.words) in
    let value = subst (λ (ws : List ℕ). i < length ws → x ≡ get_or ws i 0) same r.2 in
    value (rw (length-words z rows p) low) ∙ sym (there.reads_back i low)

-- the cell of words that were read under a pin is the table's
pub cell_read : (held : Stored) (told : Told) (z : TableShape) (rows : List (List Cell)) (pins : List Pin) (p f row x nulls word : ℕ) → HoldsTable held told z rows → p < pieces z
    → pinned f pins ≡ Some p → row < (piece_at z p).rows → HasColumn (piece_at z p) x
    → IsWordOf told pins f (null_place (piece_at z p) row) nulls → IsWordOf told pins f (value_place (piece_at z p) row x) word
    → cell_of (kind_at z x) (dict_len_at z x) (bit_at nulls (null_bit (piece_at z p) row x) == 1) word ≡ cell_at (piece_rows z rows p) row x
cell_read None told z rows pins p f row x nulls word table low is there has first second = absurd table
cell_read (Some held) None z rows pins p f row x nulls word table low is there has first second = absurd table
cell_read (Some held) (Some content) z rows pins p f row x nulls word table low is there has first second =
    let q = piece_at z p in
    let at = table p low in
    let bits = word_read held content z rows pins p f (null_place q row) nulls at is first (null_place-lt q row there) in
    let value = word_read held content z rows pins p f (value_place q row x) word at is second (value_place-lt q row x there has) in
    ap (λ (n : ℕ). cell_of (kind_at z x) (dict_len_at z x) (bit_at n (null_bit q row x) == 1) word) bits
    ∙ (ap (λ (n : ℕ). cell_of (kind_at z x) (dict_len_at z x) (bit_at (word_of (piece_bytes z rows p) (null_place q row)) (null_bit q row x) == 1) n) value ∙ at.gives_back row x there has)
