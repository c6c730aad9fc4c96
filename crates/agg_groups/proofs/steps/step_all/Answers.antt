use Rattle.std.proofs.Common.{◌≡◌, ◌+◌, ℕ, length, subst, arith}
use Rattle.std.specs.Prelude.{count_ones}
use Rattle.table_core.specs.Lists.{lists}
use Rattle.agg_groups.specs.Blocks.{chosen_in}
use Rattle.agg_groups.proofs.Stepping.{AddsItems, all_items, all_sound}
use Rattle.agg_groups.proofs.steps.step_all.Goals as goal

-- all items are added
whole : (c : goal.After-loop-k) → AddsItems c.args.items.now (length c.args.items.now) (c.args.rows + count_ones c.args.word) c.args.block.now c.args.word c.args.places.now (chosen_in c.args.block.now c.args.word) (lists c.args.values.now) (lists c.loop-k.values)
whole c =
    let all : c.loop-k.k ≡ length c.args.items.now = omega (arith, c.loop-k-test.false, c.loop-k.auto.k-end) in
    subst (λ (n : ℕ). AddsItems c.args.items.now n (c.args.rows + count_ones c.args.word) c.args.block.now c.args.word c.args.places.now (chosen_in c.args.block.now c.args.word) (lists c.args.values.now) (lists c.loop-k.values)) all c.loop-k.invariant

pub returns-clause-added : goal.returns-clause-added
returns-clause-added c =
    all_items c.args.items.now (c.args.rows + count_ones c.args.word) c.args.block.now c.args.word c.args.places.now (chosen_in c.args.block.now c.args.word) (lists c.args.values.now) (lists c.loop-k.values) (whole c)

pub returns-clause-sound : goal.returns-clause-sound
returns-clause-sound c =
    all_sound c.args.items.now c.args.rows (c.args.rows + count_ones c.args.word) c.args.block.now c.args.word c.args.places.now (chosen_in c.args.block.now c.args.word) (lists c.args.values.now) (lists c.loop-k.values) c.requires.sound (whole c)
