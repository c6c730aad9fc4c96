use Rattle.std.proofs.Common.{◌∙◌, get_or, sym, arith}
use Rattle.std.proofs.lemmas.Int.{ints}
use Rattle.filter_zones.proofs.Limits.{below_past}
use Rattle.filter_zones.proofs.lane_truths.numbers_below_any.Goals as goal

pub returns-then-limit : goal.returns-then-limit
returns-then-limit c = λ i low. c.every_bit.ensures i low ∙ sym (below_past (get_or c.args.words.now i 0) c.args.limit (omega (arith, ints)))
