use Rattle.std.proofs.Common.{◌<◌, List, length, take, arith, sym, subst}
use Rattle.batch_ends.specs.Answering.{AreParts, Came}
use Rattle.batch_ends.proofs.Results.{first_more, left_more, some_left}
use Rattle.batch_ends.proofs.answering.take_parts.Goals as goal

pub remove-requires : goal.remove-requires
remove-requires c =
    let some = some_left c.args.results.now.items c.loop-part.results.items c.loop-part._part (omega (arith, c.requires, c.loop-part-test.true)) c.loop-part.invariant.left in
    omega (arith, some, c.loop-part.results.ok.0)

pub loop-part-preserved : goal.loop-part-preserved
loop-part-preserved c =
    let old = c.args.results.now.items in
    let now = c.loop-part.results.items in
    let i = c.loop-part._part in
    let all : i < length old = omega (arith, c.requires, c.loop-part-test.true) in
    let left = c.loop-part.invariant.left in
    let Kept = λ (rs : List Came). AreParts rs c.with_next-kept.result in
    record {
      kept = subst Kept (sym (first_more old now i c.remove.result all left c.remove.ensures.value)) (c.with_next-kept.ensures (take i old) c.loop-part.invariant.kept);
      left = left_more old now i c.remove.result all left c.remove.ensures.value c.remove.new.self.items c.remove.ensures.items;
    }
