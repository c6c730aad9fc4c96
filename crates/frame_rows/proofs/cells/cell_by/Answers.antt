use Rattle.std.proofs.Common.{◌==◌, ◌<◌, ◌∙◌, ℕ, arith, ap, subst}
use Rattle.std.specs.Int.{bit_at}
use Rattle.frame_pool.specs.Steps.{IsWordOf}
use Rattle.piece_format.specs.Cells.{cell_of}
use Rattle.piece_format.specs.Reading.{HasColumn, null_bit, null_place, value_place}
use Rattle.piece_format.specs.Shape.{words_in}
use Rattle.piece_format.specs.declared.pieces.Piece.{Piece}
use Rattle.piece_format.proofs.Sizes.{words-within}
use Rattle.frame_rows.proofs.Tables.{cell_read}
use Rattle.frame_rows.proofs.cells.cell_by.Goals as goal

pub word-word-requires-clause-inside : goal.word-word-requires-clause-inside
word-word-requires-clause-inside g c =
    let f = c.requires.framed in omega (arith, c.value_place.ensures.there, ap words_in f.piece, words-within c.args.shape.now c.args.framed.number, f.room)

pub returns-clause-cell : goal.returns-clause-cell
returns-clause-cell g c = λ held rows table.
    let told = g.C.Content.pieces in
    let framed = c.requires.framed in
    let f : ℕ = c.args.framed.frame in
    let x : ℕ = c.args.column in
    let row : ℕ = c.args.row in
    let pins = c.args.berth.now.pins in
    let q = framed.piece in
    let nulls : ℕ = c.args.nulls in
    let word : ℕ = c.word-word.result in
    let first = subst (λ (n : ℕ). IsWordOf told pins f n nulls) (ap (λ (r : Piece). null_place r row) q) c.requires.nulls in
    let second = subst (λ (n : ℕ). IsWordOf told pins f n word) (c.value_place.ensures.place ∙ ap (λ (r : Piece). value_place r row x) q) c.word-word.ensures.word in
    let low = subst (λ (r : Piece). row < r.rows) q c.requires.row in
    let has = subst (λ (r : Piece). HasColumn r x) q c.requires.column in
    let null = c.is_set-null.ensures ∙ ap (λ (b : ℕ). bit_at nulls b == 1) (c.null_bit.ensures.bit ∙ ap (λ (r : Piece). null_bit r row x) q) in
    let kind = c.kind.ensures in
    let len = c.dict_len.ensures in
    c.cell_of.ensures.cell
    ∙ ((λ i. cell_of (kind i) (len i) (null i) word)
    ∙ cell_read held told c.args.shape.now rows pins c.args.framed.number f row x nulls word table framed.there framed.pinned low has first second)
