use Rattle.std.proofs.Common.{◌≡◌, ◌∙◌, ◌+◌, ◌-◌, ◌<◌, ◌∷◌, length, get_or, arith, sym}
use Rattle.prepare_numbers.specs.Plain.{zeros}
use Rattle.prepare_numbers.specs.Rounding.{one_more}
use Rattle.prepare_numbers.proofs.Nearest.{carry-ends, carry-on, digit-at, digit-fits, found-at, put-at, zeros-more}
use Rattle.prepare_numbers.proofs.rounding.add_one.Goals as goal

pub overflow_add-index_mut : goal.overflow_add-index_mut
overflow_add-index_mut c =
    let ds = c.args.digits.now.items in
    let k = c.loop-done.done in
    let n = c.len-len.result - k in
    let i = n - 1 in
    let lt : i < length ds = omega (arith, c.loop-done.invariant.long, c.loop-done-test.true) in
    let e : n ≡ i + 1 = omega (arith, c.loop-done-test.true) in
    let x = found-at ds c.loop-done.digits.items n i k c.index_mut.result.now e lt c.loop-done.invariant.made c.index_mut.ensures.value in
    digit-fits c.index_mut.result.now (rw x (digit-at ds i c.requires lt))

pub returns-then-index-ne57 : goal.returns-then-index-ne57
returns-then-index-ne57 c =
    let ds = c.args.digits.now.items in
    let xs = c.loop-done.digits.items in
    let k = c.loop-done.done in
    let n = c.len-len.result - k in
    let i = n - 1 in
    let lt : i < length ds = omega (arith, c.loop-done.invariant.long, c.loop-done-test.true) in
    let e : n ≡ i + 1 = omega (arith, c.loop-done-test.true) in
    let made = c.loop-done.invariant.made in
    let x = found-at ds xs n i k c.index.result.now e lt made c.index.ensures in
    let y = found-at ds xs n i k c.index_mut.result.now e lt made c.index_mut.ensures.value in
    rw y (put-at ds xs n i k (get_or ds i 0 + 1) e lt made ∙ carry-ends ds n i k e lt (λ nine. c.if-index-ne57.true (x ∙ nine)) ∙ c.loop-done.invariant.more)

pub loop-done-preserved : goal.loop-done-preserved
loop-done-preserved c =
    let ds = c.args.digits.now.items in
    let xs = c.loop-done.digits.items in
    let k = c.loop-done.done in
    let n = c.len-len.result - k in
    let i = n - 1 in
    let lt : i < length ds = omega (arith, c.loop-done.invariant.long, c.loop-done-test.true) in
    let e : n ≡ i + 1 = omega (arith, c.loop-done-test.true) in
    let next : c.len-len.result - (k + 1) ≡ i = omega arith in
    let one : zeros (k + 1) ≡ 48 ∷ zeros k = zeros-more k in
    let made = c.loop-done.invariant.made in
    let x = found-at ds xs n i k c.index.result.now e lt made c.index.ensures in
    let nine : get_or ds i 0 ≡ 57 = sym x ∙ c.if-index-ne57.false in
    record {
      made = rw (next, one) (put-at ds xs n i k 48 e lt made);
      more = rw next (carry-on ds n i k e lt nine ∙ c.loop-done.invariant.more);
      long = c.loop-done.invariant.long;
    }

pub returns : goal.returns
unfolding one_more
returns c =
    let none : c.len-len.result - c.loop-done.done ≡ 0 = omega (arith, c.loop-done-test.false) in
    (rw none at c.loop-done.invariant.made) ∙ (rw none at c.loop-done.invariant.more)
