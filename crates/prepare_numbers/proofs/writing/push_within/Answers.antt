use Rattle.prepare_numbers.specs.Values.{digits_in}
use Rattle.prepare_numbers.proofs.Digits.{found-digits, spread-digits}
use Rattle.prepare_numbers.proofs.writing.push_within.Goals as goal

pub round-requires-clause-digits : goal.round-requires-clause-digits
round-requires-clause-digits c =
    let s = c.args.spelling.now in
    rw c.in_ok-spread.ensures (spread-digits s.up s.down (digits_in s.mantissa.now) (found-digits s.mantissa.now))
