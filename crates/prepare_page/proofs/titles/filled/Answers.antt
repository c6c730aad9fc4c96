use Rattle.std.proofs.Common.{◌≡◌, ◌<◌, ◌≤◌, ◌∙◌, List, ℕ, ap, arith, length}
use Rattle.std.specs.Prelude.{[], nat_le, slice_index_or}
use Rattle.csv.specs.Records.{fields_of}
use Rattle.prepare_look.specs.Lines.{one_if}
use Rattle.prepare_page.proofs.Counting.{filled-done, filled-more}
use Rattle.prepare_page.proofs.titles.filled.Goals as goal

pub loop-i-preserved : goal.loop-i-preserved
loop-i-preserved c =
    let fields = fields_of c.args.row.now in
    let within : c.loop-i.i < length fields = omega (arith, c.loop-i-test.true, c.len-i-end.ensures) in
    let more = filled-more fields c.loop-i.i within in
    let one : c.one_if_filled-filled.result ≡ one_if (nat_le 1 (length (slice_index_or fields c.loop-i.i []))) =
    c.one_if_filled-filled.ensures.count ∙ ap (λ (f : List ℕ). one_if (nat_le 1 (length f))) c.field_or_none.ensures in
    record {
      sum = omega (arith, more, one, c.loop-i.invariant.sum);
      low = omega (arith, c.one_if_filled-filled.ensures.one, c.loop-i.invariant.low);
    }

pub returns-clause-value : goal.returns-clause-value
returns-clause-value c =
    let fields = fields_of c.args.row.now in
    let end : length fields ≤ c.loop-i.i = omega (arith, c.loop-i-test.false, c.len-i-end.ensures) in
    omega (arith, filled-done fields c.loop-i.i end, c.loop-i.invariant.sum)
