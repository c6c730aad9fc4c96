use Rattle.prepare_numbers.proofs.Digits.{drop-digits, take-digits}
use Rattle.prepare_numbers.proofs.rounding.round.Goals as goal

pub takes_more-more-requires-clause-kept : goal.takes_more-more-requires-clause-kept
takes_more-more-requires-clause-kept c =
    rw (c.split_at.ensures.front, c.as_slice.ensures.value) (take-digits c.saturating_sub-cut.result c.args.digits.now.items c.requires.digits)

pub takes_more-more-requires-clause-dropped : goal.takes_more-more-requires-clause-dropped
takes_more-more-requires-clause-dropped c =
    rw (c.split_at.ensures.back, c.as_slice.ensures.value) (drop-digits c.saturating_sub-cut.result c.args.digits.now.items c.requires.digits)

pub add_one-requires : goal.add_one-requires
add_one-requires c = rw c.truncate.ensures.items (take-digits c.saturating_sub-cut.result c.args.digits.now.items c.requires.digits)
