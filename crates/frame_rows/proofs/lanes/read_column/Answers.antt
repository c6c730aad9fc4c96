use Rattle.std.proofs.Common.{◌≡◌, ◌==◌, ◌∙◌, ◌-◌, ◌*◌, ℕ, length, get_or, arith, ap, subst}
use Rattle.std.specs.Int.{bit_at}
use Rattle.frame_pool.specs.Steps.{AreWordsOf}
use Rattle.piece_format.specs.Cells.{cell_of}
use Rattle.piece_format.specs.Shape.{words_in}
use Rattle.piece_format.proofs.Sizes.{words-within}
use Rattle.frame_rows.specs.Blocks.{lane_of, row_step}
use Rattle.frame_rows.proofs.Blocks.{last_value, lane_read}
use Rattle.frame_rows.proofs.lanes.read_column.Goals as goal

pub words-requires-clause-inside : goal.words-requires-clause-inside
words-requires-clause-inside g c = λ some.
    let f = c.requires.framed in
    let q = c.args.framed.piece in
    let last = last_value q c.args.span c.args.column c.requires.span c.requires.column in
    let steps : (length c.args.words.now - 1) * c.row_step.result ≡ (c.args.span.count - 1) * row_step q = (λ i. (c.requires.count i - 1) * c.row_step.ensures i) in
    omega (arith, last, c.value_place-first.ensures.place, steps, ap words_in f.piece, words-within c.args.shape.now c.args.framed.number, f.room)

pub returns-clause-lane : goal.returns-clause-lane
returns-clause-lane g c =
    let told = g.C.Content.pieces in
    let f = c.requires.framed in
    let pins = c.args.berth.now.pins in
    let words = c.words.new.words in
    let len : length words ≡ c.args.span.count = c.words.ensures.count ∙ c.requires.count in
    lane_read told c.args.shape.now pins c.args.framed.number c.args.framed.frame c.args.framed.piece c.args.span c.args.column c.args.nulls words (lane_of c.held_by.result.0 c.held_by.result.1 words) f.piece f.there f.pinned len
    (λ i low. c.held_by.ensures i (omega (arith, low, len)) ∙ (λ j. cell_of (c.kind.ensures j) (c.dict_len.ensures j) (bit_at c.args.nulls i == 1) (get_or words i 0)))
    c.requires.span c.requires.column c.requires.nulls
    (subst (λ (n : ℕ). AreWordsOf told pins c.args.framed.frame n (row_step c.args.framed.piece) words) c.value_place-first.ensures.place
    (subst (λ (n : ℕ). AreWordsOf told pins c.args.framed.frame c.value_place-first.result n words) c.row_step.ensures c.words.ensures.words))
