use Rattle.std.proofs.Common.{◌≡◌, ◌∙◌, ap, arith, subst, sym}
use Rattle.piece_format.specs.Encoding.{AreFirst, held_cell}
use Rattle.piece_format.specs.Shape.{word_count}
use Rattle.piece_format.proofs.Filling.{filled-first, filled-none, filled-same}
use Rattle.piece_format.proofs.row_words.fill_rows.Goals as goal

pub loop-x-init : goal.loop-x-init
loop-x-init c =
    let q = c.args.piece in
    filled-none q (held_cell q c.args.table.now c.args.from) c.make_zeros.new.words.items
    (c.in_ok-make_zeros.ensures.len ∙ c.words.ensures ∙ ap (λ l. word_count l q.columns q.rows) c.requires.layout) c.in_ok-make_zeros.ensures.zeros

pub returns : goal.returns
returns c =
    let q = c.args.piece in
    let cell = held_cell q c.args.table.now c.args.from in
    let words = c.loop-x.words.items in
    let all : c.loop-x.x ≡ q.columns = omega (arith, c.loop-x-test.false, c.loop-x.auto.x-end) in
    subst (λ l. AreFirst q cell (word_count l q.columns q.rows) words) (sym c.requires.layout)
    (filled-first q cell c.requires.layout words (filled-same q cell (λ _. c.loop-x.x) (λ _. q.columns) words (λ row low. all) c.loop-x.invariant))
