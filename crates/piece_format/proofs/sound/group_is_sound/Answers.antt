use Rattle.std.proofs.Common.{◌≡◌, ◌≤◌, ◌+◌, ◌*◌, ◌∙◌, ℕ, slice_index, arith, ap, subst, inl, inr}
use Rattle.std.proofs.lemmas.Bool.{cases_lt}
use Rattle.std.proofs.lemmas.Nat.{le_or_l, le_or_r}
use Rattle.piece_format.specs.Bytes.{word_of}
use Rattle.piece_format.specs.Checking.{limit_of}
use Rattle.piece_format.proofs.sound.group_is_sound.Goals as goal

pub loop-row-preserved : goal.loop-row-preserved
loop-row-preserved c =
    let word = word_of c.args.bytes.now in
    let width = c.args.columns + 1 in
    let n = c.loop-row.row in
    let start = n * width in
    let first = 4 * c.args.group in
    let tops = c.four_of-tops.result in
    let seen = slice_index c.loop-row.masks 0 in
    let mask : c.word_at-mask.result ≡ word start =
    let e : start + 0 ≡ start = omega arith in c.word_at-mask.ensures ∙ c.from_word-words.ensures.words 0 ∙ ap word e in
    record {
      masks = λ row low. elim (cases_lt row n) [
        | inl earlier ↦ omega (arith, c.loop-row.invariant.masks row earlier, le_or_l seen c.word_at-mask.result, c.with_bits_of-masks.ensures)
        | inr late ↦
            let e : n ≡ row = omega (arith, low, late) in
            subst (λ (r : ℕ). word (r * width) ≤ slice_index c.with_bits_of-masks.result 0) e
            (omega (arith, mask, le_or_r seen c.word_at-mask.result, c.with_bits_of-masks.ensures))
      ];
      values = λ lane low clear row below. elim (cases_lt row n) [
        | inl earlier ↦ c.loop-row.invariant.values lane low (c.judge-found.ensures.before lane low clear) row earlier
        | inr late ↦
            let e : n ≡ row = omega (arith, below, late) in
            let place : start + (1 + first + lane) ≡ start + 1 + (first + lane) = omega arith in
            let at : word_of c.from_word-words.result.now (1 + first + lane) ≡ word (start + 1 + (first + lane)) = c.from_word-words.ensures.words (1 + first + lane) ∙ ap word place in
            let most : slice_index c.limits.result lane ≡ limit_of (word start) (first + lane) (slice_index tops lane) =
            c.limits.ensures lane low ∙ ap (λ m. limit_of m (first + lane) (slice_index tops lane)) mask in
            subst (λ (r : ℕ). word (r * width + 1 + (first + lane)) ≤ limit_of (word (r * width)) (first + lane) (slice_index tops lane)) e
            (subst (λ (w : ℕ). w ≤ limit_of (word start) (first + lane) (slice_index tops lane)) at
            (subst (λ (m : ℕ). word_of c.from_word-words.result.now (1 + first + lane) ≤ m) most (c.judge-found.ensures.within lane low clear)))
      ];
    }
