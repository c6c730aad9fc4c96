use Rattle.std.proofs.Common.{◌≡◌, ◌<◌, ◌∙◌, ◌*◌, ◌-◌, ℕ, List, length, get_or, take, drop, arith, sym, subst, ap, rules, refl}
use Rattle.table_core.specs.Chunk.{chunk_end}
use Rattle.piece_format.specs.declared.pieces.Piece.{Piece}
use Rattle.piece_format.specs.Bytes.{bytes_of, word_of}
use Rattle.piece_format.specs.Cells.{piece_rows}
use Rattle.piece_format.specs.Encoding.{held_rows}
use Rattle.piece_format.specs.Shape.{IsPiece, chunk_of, piece_at, words_in}
use Rattle.piece_format.proofs.Back.{AreAll, all_back, all_put, all_sound, all_words, length-all}
use Rattle.piece_format.proofs.encoding.encode_into.Goals as goal
use Rattle.piece_format.proofs.encoding.encode_into.Goals.{After-bytes_give_words}

piece_small : (c : After-bytes_give_words) → IsPiece (piece_at c.args.shape.now c.args.piece)
piece_small c = subst IsPiece c.of.ensures.piece c.of.ensures.small

rows_are : (c : After-bytes_give_words) → held_rows c.of.result c.args.table.now c.chunk_span-from.result.0 ≡ piece_rows c.args.shape.now c.args.table.now.rows c.args.piece
rows_are c =
    let s = c.args.shape.now in
    let rows = c.args.table.now.rows in
    let chunk = chunk_of s c.args.piece in
    let begins : c.chunk_span-from.result.0 ≡ chunk * s.per = search rules in
    let many : c.of.result.rows ≡ chunk_end (length rows) s.per chunk - chunk * s.per =
    ap (λ (q : Piece). q.rows) c.of.ensures.piece ∙ ap (λ n. chunk_end n s.per chunk - chunk * s.per) (sym c.requires.table.rows.count) in
    ap (λ n. take n (drop c.chunk_span-from.result.0 rows)) many ∙ ap (λ n. take (chunk_end (length rows) s.per chunk - chunk * s.per) (drop n rows)) begins

all : (c : After-bytes_give_words) → AreAll c.args.shape.now c.args.table.now.rows c.args.piece c.encode_rows.new.words.items
all c = all_put c.args.shape.now c.args.table.now.rows c.args.piece c.of.result (held_rows c.of.result c.args.table.now c.chunk_span-from.result.0) c.encode_rows.new.words.items c.of.ensures.piece (rows_are c) c.in_ok-encode_rows.ensures

pub returns-clause-words : goal.returns-clause-words
returns-clause-words c = all_words c.args.shape.now c.args.table.now.rows c.args.piece c.encode_rows.new.words.items (all c)

pub returns-clause-len : goal.returns-clause-len
returns-clause-len c = length-all c.args.shape.now c.args.table.now.rows c.args.piece c.encode_rows.new.words.items (all c)

pub returns-clause-back : goal.returns-clause-back
returns-clause-back c =
    let words = c.encode_rows.new.words.items in
    all_back c.args.shape.now c.args.table.now.rows c.args.piece words (λ i. get_or words i 0) (piece_small c) c.requires.table.rows (all c) (λ i low. refl)

pub returns-clause-bytes_back : goal.returns-clause-bytes_back
returns-clause-bytes_back c =
    let s = c.args.shape.now in
    let rows = c.args.table.now.rows in
    let words = c.encode_rows.new.words.items in
    let long : length words ≡ words_in (piece_at s c.args.piece) = length-all s rows c.args.piece words (all c) in
    let back : (i : ℕ) → i < length words → word_of (bytes_of words) i ≡ get_or words i 0 =
    subst (λ (ws : List ℕ). (i : ℕ) → i < length ws → word_of (bytes_of ws) i ≡ get_or ws i 0) c.as_slice.ensures.value c.bytes_give_words.ensures in
    all_back s rows c.args.piece words (word_of (bytes_of words)) (piece_small c) c.requires.table.rows (all c) (λ i low. back i (omega (arith, low, long)))

pub returns-clause-sound : goal.returns-clause-sound
returns-clause-sound c = all_sound c.args.shape.now c.args.table.now.rows c.args.piece c.encode_rows.new.words.items (piece_small c) c.requires.table.rows (all c)
