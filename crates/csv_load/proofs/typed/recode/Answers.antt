use Rattle.std.proofs.Common.{◌∙◌, ◌<◌, arith, length, length-set, get_or-set_other, None}
use Rattle.csv_load.proofs.Typing.{recoded-all, recoded-step}
use Rattle.csv_load.proofs.typed.recode.Goals as goal

pub loop-row-preserved : goal.loop-row-preserved
loop-row-preserved c =
    let is = c.loop-row.invariant in
    let places = c.loop-row.places in
    let row = c.loop-row.row in
    let code = c.code_at.result in
    let there : row < length places = omega (arith, c.loop-row-test.true, c.len-row-end.ensures, is.size) in
    record {
      size = rw c.set.ensures (length-set places row code ∙ is.size);
      done = rw (c.set.ensures, c.code_at.ensures, c.get.ensures)
          (recoded-step c.args.places.now places c.args.codes.now row there is.done (is.left row (omega arith)));
      left = λ k above. rw c.set.ensures
          (get_or-set_other places row k code None (λ same. absurd (omega (arith, same, above))) ∙ is.left k (omega (arith, above)));
    }

pub returns : goal.returns
returns c =
    let is = c.loop-row.invariant in
    recoded-all c.args.places.now c.loop-row.places c.args.codes.now is.size
    (λ k low. is.done k (omega (arith, low, c.loop-row-test.false, c.len-row-end.ensures)))
