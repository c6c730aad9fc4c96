use Rattle.std.proofs.Common.{◌≡◌, ◌≤◌, ◌<◌, ◌+◌, ◌*◌, ◌/◌, ◌%◌, ℕ, get_or, arith, rules, subst, inl, inr}
use Rattle.std.proofs.lemmas.Bool.{cases_lt}
use Rattle.piece_format.specs.Bytes.{word_of}
use Rattle.piece_format.proofs.Judging.{word_of-small}
use Rattle.piece_format.proofs.sound.none_above.Goals as goal

pub loop-eight-preserved : goal.loop-eight-preserved
loop-eight-preserved c = λ lane small clear i low.
    let n = c.loop-eight.eight in
    elim (cases_lt i n) [
      | inl earlier ↦ c.loop-eight.invariant lane small (c.judge_eight-found.ensures.before lane small clear) i earlier
      | inr late ↦
          let e : n ≡ i = omega (arith, low, late) in
          subst (λ (m : ℕ). word_of c.args.bytes.now (c.args.from + 8 * m + lane) ≤ c.args.top) e
          (subst (λ (w : ℕ). w ≤ c.args.top) (c.eight_words.ensures.words lane small) (c.judge_eight-found.ensures.within lane small clear))
    ]

pub returns-then-top-eq18446744073709551615 : goal.returns-then-top-eq18446744073709551615
returns-then-top-eq18446744073709551615 c = λ _ b low.
    let bytes = c.args.bytes.now in
    let small : (k : ℕ) → get_or bytes k 0 < 256 = search (rules, c.type_inv.bytes) in
    omega (arith, word_of-small bytes small (c.args.from + b), c.if-top-eq18446744073709551615.true)

pub returns : goal.returns
returns c = λ is b low.
    let i = b / 8 in
    let lane = b % 8 in
    let small : lane < 8 = omega arith in
    let whole : 8 * i + lane ≡ b = omega arith in
    let before : i < c.loop-eight.eight = omega (arith, low, c.loop-eight-test.false) in
    let place : c.args.from + 8 * i + lane ≡ c.args.from + b = omega (arith, whole) in
    subst (λ (j : ℕ). word_of c.args.bytes.now j ≤ c.args.top) place (c.loop-eight.invariant lane small (c.are_clear.ensures is lane small) i before)
