use Rattle.std.proofs.Common.{◌≡◌, ◌+◌, ◌-◌, ◌*◌, ◌<◌, ℕ, get_or, arith, rules, ap}
use Rattle.std.proofs.Math.Nat.{add-mul}
use Rattle.piece_format.specs.Bytes.{word_of}
use Rattle.piece_format.specs.Shape.{word_count, words_in}
use Rattle.piece_format.proofs.Judging.{rows_sound, word_of-small}
use Rattle.piece_format.proofs.checking.sound_rows.Goals as goal

pub rows_are_sound-requires-clause-bytes : goal.rows_are_sound-requires-clause-bytes
rows_are_sound-requires-clause-bytes c =
    let q = c.args.piece in
    let width = q.columns + 1 in
    let many : words_in q ≡ q.rows * width = ap (λ l. word_count l q.columns q.rows) c.requires.layout in
    let last : (q.rows - 3 + 3) * width ≡ (q.rows - 3) * width + 3 * width = add-mul (q.rows - 3) 3 width in
    let back : q.rows - 3 + 3 ≡ q.rows = omega (arith, c.if-piece-lt4.false) in
    let all : q.rows * width ≡ (q.rows - 3) * width + 3 * width = rw back at last in
    omega (arith, c.requires.bytes, many, all)

pub returns-in-Some-clause-sound : goal.returns-in-Some-clause-sound
returns-in-Some-clause-sound c =
    let bytes = c.args.bytes.now in
    let small : (k : ℕ) → get_or bytes k 0 < 256 = search (rules, c.type_inv.bytes) in
    rows_sound c.args.shape.now c.args.piece (word_of bytes) (word_of-small bytes small) c.in-Some.tops c.requires.layout c.requires.piece.columns c.in-Some.ensures (c.args.piece.rows - 3)
    (c.rows_are_sound.ensures.masks c.if-rows_are_sound.true) (c.rows_are_sound.ensures.values c.if-rows_are_sound.true)
