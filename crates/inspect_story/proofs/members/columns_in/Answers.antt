use Rattle.std.proofs.Common.{◌≡◌, ◌∙◌, ◌∷◌, ◌++◌, ◌<◌, ℕ, [], sym, ap, subst, arith}
use Rattle.std.specs.List.{AllByRecursion}
use Rattle.table_sets.specs.Sets.{has, numbers_below}
use Rattle.inspect_story.proofs.Numbers.{begun, below_end, fails, found, passes}
use Rattle.inspect_story.proofs.members.columns_in.Goals as goal
use Rattle.inspect_story.proofs.members.columns_in.Goals.{then-has+in_ok-push_back, else-has}

pub loop-column-init : goal.loop-column-init
loop-column-init c = c.new-list.ensures ∙ begun (has c.args.set.now)

pub loop-column-preserved : goal.loop-column-preserved
loop-column-preserved c =
    let p = has c.args.set.now in
    let n = c.loop-column.column in
    elim c.if-has.branch [
      | then-has+in_ok-push_back w ↦ w.list-is ∙ w.in_ok-push_back.ensures.items ∙ ap (λ xs. xs ++ n ∷ []) c.loop-column.invariant ∙ passes p n (sym c.has.ensures ∙ w.if-has.true)
      | else-has w ↦ w.list-is ∙ c.loop-column.invariant ∙ fails p n (sym c.has.ensures ∙ w.if-has.false)
    ]

pub returns : goal.returns
returns c =
    let end : c.loop-column.column ≡ 16 = omega arith in
    let rise = c.len-count.ensures.members in
    let same : c.loop-column.list ≡ c.args.set.now = c.loop-column.invariant ∙ ap (numbers_below (has c.args.set.now)) end ∙ found c.args.set.now 16 rise in
    record { same = same; below = subst (AllByRecursion (λ (g : ℕ). g < 16)) (sym same) (below_end 0 16 c.args.set.now rise) }
