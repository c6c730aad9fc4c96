use Rattle.std.proofs.Common.{◌+◌, ◌∙◌, ap, length, arith}
use Rattle.story_laws.proofs.Laws.{settings_fit}
use Rattle.abm_policy.proofs.Sizes.{wanted_more, wanted_least, wanted_all, wanted_end, capacity_is, same_count}
use Rattle.abm_policy.proofs.room.room_for.Goals as goal

pub overflow_add-wanted : goal.overflow_add-wanted
overflow_add-wanted c =
    let s = c.requires.0 in
    let fit = (settings_fit s c.requires.1).chunks in
    let all = wanted_all s c.args.needs.now c.requires.2 in
    let i = c.loop-need.need-index in
    let more = wanted_more c.args.needs.now i c.need-item.result (omega arith) in
    let least = wanted_least c.args.needs.now (i + 1) in
    omega (arith, fit, all, c.loop-need.invariant, more, least, c.len.ensures.len, ap (λ n. length n.chunks) c.need-item.is)

pub loop-need-preserved : goal.loop-need-preserved
loop-need-preserved c =
    let more = wanted_more c.args.needs.now c.loop-need.need-index c.need-item.result (omega arith) in
    omega (arith, c.loop-need.invariant, more, c.len.ensures.len, ap (λ n. length n.chunks) c.need-item.is)

pub capacity-requires-clause-chunks : goal.capacity-requires-clause-chunks
capacity-requires-clause-chunks c =
    let s = c.requires.0 in
    let fit = (settings_fit s c.requires.1).chunks in
    let all = wanted_all s c.args.needs.now c.requires.2 in
    let least = wanted_least c.args.needs.now c.loop-need.need-index in
    omega (arith, fit, all, c.loop-need.invariant, least)

pub capacity-requires-clause-queries : goal.capacity-requires-clause-queries
capacity-requires-clause-queries c =
    let fit = (settings_fit c.requires.0 c.requires.1).queries in
    omega (arith, fit, same_count c.requires.0 c.args.needs.now c.requires.2)

pub returns : goal.returns
returns c = λ s same groups.
    c.capacity.ensures ∙ capacity_is s c.loop-need.wanted (length c.args.needs.now) c.args.groups (c.loop-need.invariant ∙ wanted_end s c.args.needs.now c.loop-need.need-index same (omega arith)) (same_count s c.args.needs.now same) groups
