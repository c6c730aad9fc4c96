use Rattle.std.proofs.Common.{arith}
use Rattle.help_book.proofs.Listed.{is_rising, all_below}
use Rattle.help_book.proofs.settings.book_need.Goals as goal

pub returns-clause-fits : goal.returns-clause-fits
returns-clause-fits c = record {
  query = (omega arith, omega arith);
  worker = omega arith;
  rising = is_rising 0 c.args.n.now.chunks c.args.s.now.chunks c.in_ok-chunks.ensures.rising;
  within = all_below 0 c.args.n.now.chunks c.args.s.now.chunks c.in_ok-chunks.ensures.rising;
  columns_rise = c.in_ok-columns.ensures.rising;
  columns = c.in_ok-columns.ensures.fit;
}
