use Rattle.std.proofs.Common.{◌<◌, ◌≤◌, take, length, arith}
use Rattle.scan_story.specs.Views.{past}
use Rattle.inspect_story.proofs.Licences.{last_more, never_all, never_more}
use Rattle.inspect_story.proofs.falls.first_fall.Goals as goal

pub loop-place-preserved : goal.loop-place-preserved
loop-place-preserved c =
    let es = c.args.story.now in
    let i = c.loop-place.place in
    let k = c.loop-place.invariant in
    let lt : i < length es = omega (arith, c.loop-place-test.true) in
    record {
      never = never_more es i c.loop-place.last lt k.last (c.falls_below.ensures.keeps c.if-falls_below.false) k.never;
      last = last_more es i c.loop-place.last c.count_after-last.result lt (c.count_after-last.ensures (past (take i es)) k.last);
    }

pub returns-clause-none : goal.returns-clause-none
returns-clause-none c =
    let le : length c.args.story.now ≤ c.loop-place.place = omega arith in
    never_all c.args.story.now c.loop-place.place le c.loop-place.invariant.never
