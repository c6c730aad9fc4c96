use Rattle.std.proofs.Common.{◌≡◌, subst, arith, rules}
use Rattle.table_core.specs.declared.cell.Cell.{Cell}
use Rattle.row_blocks.specs.Blocks.{row_at}
use Rattle.row_blocks.proofs.Rows.{length-row}
use Rattle.filter_zones.specs.declared.cond.Cond.{Cond}
use Rattle.filter_zones.specs.Truth.{comparison, null_test, truth_of}
use Rattle.filter_zones.specs.Truths.{HasTruth}
use Rattle.filter_zones.proofs.RowTruths.{in_column}
use Rattle.filter_zones.proofs.block_truths.+truths_in.Goals as goal

pub lane-requires : goal.lane-requires
lane-requires t c = omega (arith, (rw c.in-Compare.is at c.requires).0, length-row c.args.block.now 0)

pub lane-requires-in-IsNull : goal.lane-requires-in-IsNull
lane-requires-in-IsNull t c = omega (arith, rw c.in-IsNull.is at c.requires, length-row c.args.block.now 0)

pub returns-in-Compare : goal.returns-in-Compare
returns-in-Compare t c = λ i low.
    let truths = λ (x : Cell). HasTruth c.comparison.result i (comparison c.in-Compare.op c.in-Compare.value x) in
    let cell = in_column c.args.block.now c.lane.result.now c.in-Compare.column i (rw c.in-Compare.is at c.requires).0 c.lane.ensures in
    rw c.in-Compare.is (subst truths cell (c.comparison.ensures i low))

pub returns-in-IsNull : goal.returns-in-IsNull
returns-in-IsNull t c = λ i low.
    let truths = λ (x : Cell). HasTruth c.null_tests.result i (null_test c.in-IsNull.negated x) in
    let cell = in_column c.args.block.now c.lane-in-IsNull.result.now c.in-IsNull.column i (rw c.in-IsNull.is at c.requires) c.lane-in-IsNull.ensures in
    rw c.in-IsNull.is (subst truths cell (c.null_tests.ensures i low))

pub returns-in-And : goal.returns-in-And
returns-in-And t c = λ i low.
    let row = row_at c.args.block.now i in
    let first : c.deref.result.now ≡ c.in-And.a.value = search rules in
    let second : c.deref-in-And.result.now ≡ c.in-And.b.value = search rules in
    let a = subst (λ (d : Cond). HasTruth c.truths_in.result i (truth_of d row)) first (c.truths_in.ensures i low) in
    let b = subst (λ (d : Cond). HasTruth c.truths_in-in-And.result i (truth_of d row)) second (c.truths_in-in-And.ensures i low) in
    rw c.in-And.is (c.and.ensures i low (truth_of c.in-And.a.value row) (truth_of c.in-And.b.value row) a b)

pub returns-in-Or : goal.returns-in-Or
returns-in-Or t c = λ i low.
    let row = row_at c.args.block.now i in
    let first : c.deref-in-Or.result.now ≡ c.in-Or.a.value = search rules in
    let second : c.deref-in-Or-2.result.now ≡ c.in-Or.b.value = search rules in
    let a = subst (λ (d : Cond). HasTruth c.truths_in-in-Or.result i (truth_of d row)) first (c.truths_in-in-Or.ensures i low) in
    let b = subst (λ (d : Cond). HasTruth c.truths_in-in-Or-2.result i (truth_of d row)) second (c.truths_in-in-Or-2.ensures i low) in
    rw c.in-Or.is (c.or.ensures i low (truth_of c.in-Or.a.value row) (truth_of c.in-Or.b.value row) a b)

pub returns-in-Not : goal.returns-in-Not
returns-in-Not t c = λ i low.
    let row = row_at c.args.block.now i in
    let first : c.deref-in-Not.result.now ≡ c.in-Not.a.value = search rules in
    let a = subst (λ (d : Cond). HasTruth c.truths_in-in-Not.result i (truth_of d row)) first (c.truths_in-in-Not.ensures i low) in
    rw c.in-Not.is (c.opposites.ensures i low (truth_of c.in-Not.a.value row) a)
