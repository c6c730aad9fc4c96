use Rattle.std.proofs.Common.{◌≡◌, ◌∙◌, ◌∷◌, ◌++◌, [], sym, ap, arith}
use Rattle.table_sets.specs.Sets.{has, numbers_below}
use Rattle.batch_plan.proofs.Dealt.{fails, none_below, passes}
use Rattle.inspect_notes.proofs.Found.{members_below}
use Rattle.inspect_notes.proofs.members.members_of.Goals as goal
use Rattle.inspect_notes.proofs.members.members_of.Goals.{then-has+in_ok-push, else-has}

pub loop-column-init : goal.loop-column-init
loop-column-init c = c.new-members.ensures.items ∙ sym (none_below (has c.args.set.now))

pub loop-column-preserved : goal.loop-column-preserved
loop-column-preserved c =
    let p = has c.args.set.now in
    let n = c.loop-column.column in
    elim c.if-has.branch [
      | then-has+in_ok-push w ↦ ap (λ v. v.items) w.members-is ∙ w.in_ok-push.ensures.items ∙ ap (λ xs. xs ++ n ∷ []) c.loop-column.invariant ∙ sym (passes p n (sym c.has.ensures ∙ w.if-has.true))
      | else-has w ↦ ap (λ v. v.items) w.members-is ∙ c.loop-column.invariant ∙ sym (fails p n (sym c.has.ensures ∙ w.if-has.false))
    ]

pub returns : goal.returns
returns c =
    let end : c.loop-column.column ≡ 16 = omega arith in
    c.loop-column.invariant ∙ ap (numbers_below (has c.args.set.now)) end ∙ members_below c.args.set.now 16 c.len-count.ensures.members
