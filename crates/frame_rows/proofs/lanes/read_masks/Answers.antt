use Rattle.std.proofs.Common.{◌≡◌, ◌∙◌, ◌+◌, ◌-◌, ◌*◌, ℕ, length, get_or, arith, ap, subst, sym}
use Rattle.frame_pool.specs.Steps.{IsWordOf}
use Rattle.piece_format.specs.Reading.{null_place}
use Rattle.piece_format.specs.Shape.{words_in}
use Rattle.piece_format.specs.declared.layout.Layout.TheVariants as layouts
use Rattle.piece_format.specs.declared.pieces.Piece.{Piece}
use Rattle.piece_format.proofs.Sizes.{words-within}
use Rattle.frame_rows.specs.Blocks.{row_step}
use Rattle.frame_rows.proofs.Blocks.{last_null, null_place-more}
use Rattle.frame_rows.proofs.lanes.read_masks.Goals as goal

pub words-requires-clause-inside : goal.words-requires-clause-inside
words-requires-clause-inside g c = λ some.
    let f = c.requires.framed in
    let q = c.args.framed.piece in
    let layout : q.layout ≡ layouts.Row = ap (λ (r : Piece). r.layout) f.piece ∙ c.requires.layout in
    let last = last_null q c.args.span layout c.requires.span in
    let first = c.null_place-first.ensures.place in
    let steps : (length c.args.masks.now - 1) * c.row_step.result ≡ (c.args.span.count - 1) * row_step q = (λ i. (c.requires.count i - 1) * c.row_step.ensures i) in
    omega (arith, last, first, steps, ap words_in f.piece, words-within c.args.shape.now c.args.framed.number, f.room)

pub returns-clause-masks : goal.returns-clause-masks
returns-clause-masks g c = λ i low.
    let f = c.requires.framed in
    let q = c.args.framed.piece in
    let layout : q.layout ≡ layouts.Row = ap (λ (r : Piece). r.layout) f.piece ∙ c.requires.layout in
    let place : c.null_place-first.result + i * c.row_step.result ≡ null_place q (c.args.span.first + i) = (λ j. c.null_place-first.ensures.place j + i * c.row_step.ensures j) ∙ sym (null_place-more q c.args.span.first i layout) in
    subst (λ (n : ℕ). IsWordOf g.C.Content.pieces c.args.berth.now.pins c.args.framed.frame n (get_or c.words.new.words i 0)) place
    (c.words.ensures.words i (omega (arith, low, c.requires.count, c.words.ensures.count)))
