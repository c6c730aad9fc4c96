use Rattle.std.proofs.Common.{inl, inr, arith}
use Rattle.std.proofs.lemmas.Bool.{cases_Bool}
use Rattle.filter_zones.proofs.Bits.{pushed_bit, pushed_others}
use Rattle.filter_zones.proofs.words.pushed.Goals as goal

pub returns-clause-first : goal.returns-clause-first
returns-clause-first c = elim (cases_Bool c.args.bit) [
  | inl so ↦ rw so (pushed_bit c.args.word 1 (omega arith))
  | inr not ↦ rw not (pushed_bit c.args.word 0 (omega arith))
]

pub returns-clause-others : goal.returns-clause-others
returns-clause-others c = λ j low. elim (cases_Bool c.args.bit) [
  | inl so ↦ rw so (pushed_others c.args.word 1 j (omega arith) low)
  | inr not ↦ rw not (pushed_others c.args.word 0 j (omega arith) low)
]
