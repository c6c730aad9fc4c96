use Rattle.std.proofs.Common.{◌≡◌, ◌≢◌, ◌∙◌, ◌+◌, ◌*◌, ◌^◌, ◌<◌, ℕ, nat_lt, if◌then◌else◌, length, get_or, arith, refl, sym, ap, subst, inl, inr, le-ltb, lt-ltb}
use Rattle.std.proofs.lemmas.Bool.{cases_lt}
use Rattle.piece_format.specs.Cells.{is_null, value_word}
use Rattle.piece_format.specs.Encoding.{AreFilled, IsKept, held_cell}
use Rattle.piece_format.proofs.Filling.{filled-more, mask-lt}
use Rattle.piece_format.proofs.Putting.{held}
use Rattle.piece_format.proofs.row_words.put_column.Goals as goal

-- how many cells of each row are put, where those of the rows below one have one more
abbrev done : ℕ → ℕ → ℕ → ℕ
done x row other = if nat_lt other row then x + 1 else x

not_yet : (x row : ℕ) → done x row row ≡ x
not_yet x row = rw (le-ltb row row (omega arith)) refl

rest : (x row other : ℕ) → other ≢ row → done x (row + 1) other ≡ done x row other
rest x row other ne = elim (cases_lt other row) [
  | inl low ↦ rw (lt-ltb other row low, lt-ltb other (row + 1) (omega (arith, low))) refl
  | inr high ↦ rw (le-ltb other row high, le-ltb other (row + 1) (omega (arith, high, ne))) refl
]

pub put_cell-requires-clause-low : goal.put_cell-requires-clause-low
put_cell-requires-clause-low c =
    let q = c.args.piece in
    let row = c.loop-row.row in
    subst (λ n. get_or c.loop-row.words (row * (q.columns + 1)) 0 < 2 ^ n) (not_yet c.args.x row)
    (mask-lt q (held_cell q c.args.table.now c.args.from) (done c.args.x row) c.loop-row.words c.loop-row.invariant row c.loop-row-test.true)

pub loop-row-preserved : goal.loop-row-preserved
loop-row-preserved c =
    let q = c.args.piece in
    let table = c.args.table.now in
    let x = c.args.x in
    let row = c.loop-row.row in
    let there : c.args.from + row < length table.rows = omega (arith, c.requires.rows.there, c.loop-row-test.true) in
    let cell = c.column-column.ensures.cells (c.args.from + row) there ∙ held q table c.args.from row x c.loop-row-test.true in
    subst (AreFilled q (held_cell q table c.args.from) (done x (row + 1))) (sym c.put_cell.ensures)
    (filled-more q (held_cell q table c.args.from) (done x row) (done x (row + 1)) c.loop-row.words c.loop-row.invariant row x c.loop-row-test.true c.requires.column
    (not_yet x row) (rw (lt-ltb row (row + 1) (omega arith)) refl) (rest x row) c.is_null_at-null.result c.value_word_at.result
    (c.is_null_at-null.ensures ∙ ap is_null cell) (c.value_word_at.ensures.word ∙ ap value_word cell) (subst IsKept cell c.value_word_at.ensures.kept))
