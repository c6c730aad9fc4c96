use Rattle.std.proofs.Common.{refl}
use Rattle.prepare_numbers.proofs.Nearest.{odd-last}
use Rattle.prepare_numbers.proofs.rounding.is_odd.Goals as goal

pub returns-in-len1-up : goal.returns-in-len1-up
returns-in-len1-up c = rw (odd-last c.args.digits.now c.in-len1-up.len_at_least, c.saturating_sub.ensures) refl
