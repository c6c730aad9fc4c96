use Rattle.std.proofs.Common.{◌≡◌, ◌<◌, ◌+◌, ◌*◌, ◌/◌, ◌%◌, ◌∙◌, ℕ, arith, sym, ap, subst, inl, inr}
use Rattle.std.proofs.lemmas.Bool.{cases_lt, eqb-true}
use Rattle.std.proofs.lemmas.Nat.Bits.{bit_at-zero}
use Rattle.std.specs.Int.{bit_at}
use Rattle.piece_format.specs.Bytes.{word_of}
use Rattle.piece_format.proofs.Lanes.{not_hidden}
use Rattle.piece_format.proofs.sound.none_hidden.Goals as goal

pub loop-eight-preserved : goal.loop-eight-preserved
loop-eight-preserved c = λ i lane low small none set.
    let word = word_of c.args.bytes.now in
    let from = c.args.from in
    let n = c.loop-eight.eight in
    let nothing = not_hidden c.loop-eight.hidden c.value_bits-values.result c.args.nulls (8 * n) none in
    elim (cases_lt i n) [
      | inl earlier ↦ c.loop-eight.invariant i lane earlier small nothing.0 set
      | inr late ↦
          let e : i ≡ n = omega (arith, low, late) in
          let here : bit_at c.args.nulls (8 * n + lane) ≡ 1 = subst (λ (m : ℕ). bit_at c.args.nulls (8 * m + lane) ≡ 1) e set in
          subst (λ (m : ℕ). word (from + 8 * m + lane) ≡ 0) (sym e)
          (sym (c.eight_words.ensures.words lane small) ∙ c.value_bits-values.ensures lane small (nothing.1 lane here))
    ]

pub returns-then-nulls-eq0 : goal.returns-then-nulls-eq0
returns-then-nulls-eq0 c = λ _ b low set.
    let clear : bit_at c.args.nulls b ≡ 0 = ap (λ n. bit_at n b) c.if-nulls-eq0.true ∙ bit_at-zero b in
    absurd (omega (arith, clear, set))

pub returns : goal.returns
returns c = λ is b low set.
    let word = word_of c.args.bytes.now in
    let i = b / 8 in
    let lane = b % 8 in
    let small : lane < 8 = omega arith in
    let whole : 8 * i + lane ≡ b = omega arith in
    let before : i < c.loop-eight.eight = omega (arith, low, c.loop-eight-test.false) in
    let place : c.args.from + 8 * i + lane ≡ c.args.from + b = omega (arith, whole) in
    subst (λ (j : ℕ). word j ≡ 0) place
    (c.loop-eight.invariant i lane before small (eqb-true _ 0 is) (subst (λ (d : ℕ). bit_at c.args.nulls d ≡ 1) (sym whole) set))
