use Rattle.std.proofs.Common.{◌≡◌, ◌∙◌, ◌+◌, ap, sym, length, drop}
use Rattle.std.proofs.lemmas.List.{with_items_is}
use Rattle.inspect_picture.specs.Rows.{row_at}
use Rattle.inspect_picture.specs.Stretches.{with_marks}
use Rattle.inspect_picture.proofs.Rowed.{next_mark}
use Rattle.inspect_picture.proofs.rows.rows_of.Goals as goal

pub loop-mark-preserved : goal.loop-mark-preserved
loop-mark-preserved c =
    let z = c.args.scale.now in
    let v = c.loop-mark.rows in
    let new = c.put_shown.new.rows in
    let rest = drop (c.loop-mark.mark-index + 1) c.args.marks.now in
    let l : length new ≡ v.len = c.put_shown.ensures.len ∙ ap length c.deref_mut.ensures.value ∙ sym v.ok.0 in
    let back = with_items_is v new l in
    record {
      count = ap length back ∙ c.put_shown.ensures.len ∙ ap length c.deref_mut.ensures.value ∙ c.loop-mark.invariant.count;
      each = λ k. ap (λ rows. with_marks z k (row_at rows k) rest) back ∙ ap (λ gs. with_marks z k gs rest) (c.in_ok-put_shown.ensures.more k)
          ∙ next_mark z k (row_at c.deref_mut.result.now k) c.args.marks.now c.loop-mark.mark-index _ c.loop-mark-test.true
          ∙ ap (λ rows. with_marks z k (row_at rows k) (drop c.loop-mark.mark-index c.args.marks.now)) c.deref_mut.ensures.value
          ∙ c.loop-mark.invariant.each k;
    }
