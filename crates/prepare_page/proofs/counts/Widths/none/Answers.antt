use Rattle.std.proofs.Common.{refl}
use Rattle.prepare_page.specs.Widths.{count_rows}
use Rattle.prepare_page.proofs.Counting.{zero-in}
use Rattle.prepare_page.proofs.counts.Widths.none.Goals as goal

pub returns : goal.returns
unfolding count_rows
returns c = record {
  records = refl;
  counts = λ n h. zero-in _ 4097 c.in_ok-zeros.ensures n;
}
