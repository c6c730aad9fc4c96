use Rattle.std.proofs.Common.{◌≡◌, ◌+◌, ◌<◌, ◌∙◌, ◌==◌, [], ◌∷◌, ℕ, List, length, length-append, get_or, refl, sym, ap, subst, arith}
use Rattle.table_core.specs.declared.cell.Cell.{Cell}
use Rattle.table_core.specs.Lists.{lists}
use Rattle.table_core.proofs.Lists.{length-lists}
use Rattle.row_blocks.specs.Blocks.{row_at}
use Rattle.agg_groups.specs.Blocks.{chosen_in}
use Rattle.agg_groups.specs.Table.{AddsItem}
use Rattle.agg_groups.proofs.Columns.{ones-block}
use Rattle.agg_groups.proofs.Placing.{few_first, first_chosen, one_more}
use Rattle.agg_groups.proofs.Stepping.{none_between, one_added, row_in}
use Rattle.agg_groups.proofs.steps.step_item.Goals as goal

pub step_at-requires-clause-few : goal.step_at-requires-clause-few
step_at-requires-clause-few c =
    let b = c.args.block.now in
    let low = row_in b.count c.args.word c.in-Some.row c.requires.below c.in-Some.ensures.chosen in
    omega (arith, c.loop-row.invariant.count, few_first b c.args.word c.loop-row.from, c.in-Some.ensures.from, low, c.requires.few)

pub overflow_add-added : goal.overflow_add-added
overflow_add-added c =
    let b = c.args.block.now in
    let low = row_in b.count c.args.word c.in-Some.row c.requires.below c.in-Some.ensures.chosen in
    omega (arith, c.loop-row.invariant.count, few_first b c.args.word c.loop-row.from, c.in-Some.ensures.from, low, c.requires.few)

pub loop-row-preserved : goal.loop-row-preserved
loop-row-preserved c =
    let b = c.args.block.now in
    let word = c.args.word in
    let i : ℕ = c.in-Some.row in
    let n : ℕ = c.loop-row.added in
    let places = c.args.places.now in
    let start = lists c.args.values.now in
    let vs = lists c.loop-row.values in
    let before = c.loop-row.invariant in
    let is = c.in-Some.ensures.chosen in
    let low = row_in b.count word i c.requires.below is in
    let none = none_between b word c.loop-row.from i c.in-Some.ensures.from c.in-Some.ensures.first in
    let more = one_more b word i (ap (λ k. k == 1) is) in
    let there : get_or places i 0 < length start = (let few = c.requires.there i low is in let long = length-lists c.args.values.now in omega (arith, few, long)) in
    record {
      within = omega (arith, low);
      count = omega (arith, before.count, ap length more, length-append (first_chosen b word i) (row_at b i ∷ []), ap length none);
      adds = one_added c.args.item c.args.k n b word places i (get_or places i 0) start vs (lists c.step_at.new.values) (subst (λ (done : List (List Cell)). AddsItem c.args.item c.args.k n b word places done start vs) (sym none) before.adds)
          low is refl there (c.requires.item.there (get_or places i 0) there) c.step_at.ensures.room c.step_at.ensures.values;
    }

pub returns : goal.returns
returns c =
    let b = c.args.block.now in
    let word = c.args.word in
    let k : ℕ = c.args.k in
    let places = c.args.places.now in
    let start = lists c.args.values.now in
    let vs = lists c.loop-row.values in
    let before = c.loop-row.invariant in
    let whole : first_chosen b word c.loop-row.from ≡ chosen_in b word = sym (none_between b word c.loop-row.from b.count before.within (λ i from to. c.in_default.ensures.none i from)) in
    subst (λ (n : ℕ). AddsItem c.args.item k n b word places (chosen_in b word) start vs)
    (before.count ∙ ap (λ (done : List (List Cell)). c.args.rows + length done) whole ∙ ap (λ (n : ℕ). c.args.rows + n) (ones-block b word c.requires.below))
    (subst (λ (done : List (List Cell)). AddsItem c.args.item k c.loop-row.added b word places done start vs) whole before.adds)
