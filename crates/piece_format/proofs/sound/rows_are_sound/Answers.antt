use Rattle.std.proofs.Common.{◌≡◌, ◌≤◌, ◌+◌, ◌-◌, ◌*◌, ℕ, slice_index, arith, subst, inl, inr}
use Rattle.std.proofs.lemmas.Bool.{cases_lt}
use Rattle.piece_format.specs.Bytes.{word_of}
use Rattle.piece_format.specs.Checking.{limit_of}
use Rattle.piece_format.proofs.sound.rows_are_sound.Goals as goal

pub loop-group-preserved : goal.loop-group-preserved
loop-group-preserved c =
    let word = word_of c.args.bytes.now in
    let n = c.loop-group.group in
    record {
      masks = λ _. c.group_is_sound.ensures.masks c.if-not-group_is_sound.false;
      values = λ row x low below. elim (cases_lt x (4 * n)) [
        | inl earlier ↦ c.loop-group.invariant.values row x low earlier
        | inr late ↦
            let l = x - 4 * n in
            let place : 4 * n + l ≡ x = omega (arith, late) in
            let start = row * (c.args.columns + 1) in
            subst (λ (y : ℕ). word (start + 1 + y) ≤ limit_of (word start) y (slice_index c.args.tops.now y)) place
            (c.group_is_sound.ensures.values c.if-not-group_is_sound.false row l low (omega (arith, below, late)))
      ];
    }
