use Rattle.std.proofs.Common.{◌∙◌, ◌+◌, ℕ, sym, ap, subst, arith}
use Rattle.std.specs.Prelude.{count_ones}
use Rattle.agg_groups.specs.declared.running.Running.{Running}
use Rattle.agg_groups.specs.Running.{HasRoom, join}
use Rattle.agg_groups.proofs.Columns.{few-chosen, ones-block}
use Rattle.agg_groups.proofs.Values.{join_room}
use Rattle.agg_groups.proofs.lanes.with_chosen.Goals as goal

pub join-requires-clause-few : goal.join-requires-clause-few
join-requires-clause-few c =
    let b = c.args.block.now in
    omega (arith, c.requires.few, c.count_of.ensures.count, ones-block b c.args.word c.requires.below, few-chosen b c.args.word)

pub join-requires-clause-room_more : goal.join-requires-clause-room_more
join-requires-clause-room_more c = subst (λ (n : ℕ). HasRoom n c.of_chosen-more.result) (sym c.count_of.ensures.count) c.of_chosen-more.ensures.room

pub returns-clause-value : goal.returns-clause-value
returns-clause-value c = c.join.ensures ∙ ap (λ m. join c.args.old m c.args.item) c.of_chosen-more.ensures.value

pub returns-clause-room : goal.returns-clause-room
returns-clause-room c =
    let n = c.args.rows in
    let m = count_ones c.args.word in
    let P : Running → Type 0 = λ r. HasRoom (n + m) r in
    subst P (sym c.join.ensures) (join_room c.args.item c.args.old c.of_chosen-more.result n m c.requires.room c.of_chosen-more.ensures.room)
