use Rattle.std.proofs.Common.{inl, inr}
use Rattle.std.proofs.lemmas.Bool.{cases_Bool}
use Rattle.filter_zones.proofs.Bits.{put_set, not_put}
use Rattle.filter_zones.proofs.masks.with_bit.Goals as goal

pub returns : goal.returns
returns c = λ j. elim (cases_Bool c.args.bit) [
  | inl so ↦ rw so (put_set c.args.word c.args.k j c.requires.in_word)
  | inr not ↦ rw not (not_put c.args.word c.args.k j c.requires.clear)
]
