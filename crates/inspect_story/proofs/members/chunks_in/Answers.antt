use Rattle.std.proofs.Common.{◌≡◌, ◌∙◌, ◌∷◌, ◌++◌, [], sym, ap, arith}
use Rattle.table_sets.specs.Sets.{has, numbers_below}
use Rattle.inspect_story.proofs.Numbers.{begun, fails, found, passes}
use Rattle.inspect_story.proofs.members.chunks_in.Goals as goal
use Rattle.inspect_story.proofs.members.chunks_in.Goals.{then-has+in_ok-push_back, else-has}

pub loop-chunk-init : goal.loop-chunk-init
loop-chunk-init c = c.new-list.ensures ∙ begun (has c.args.set.now)

pub loop-chunk-preserved : goal.loop-chunk-preserved
loop-chunk-preserved c =
    let p = has c.args.set.now in
    let n = c.loop-chunk.chunk in
    elim c.if-has.branch [
      | then-has+in_ok-push_back w ↦ w.list-is ∙ w.in_ok-push_back.ensures.items ∙ ap (λ xs. xs ++ n ∷ []) c.loop-chunk.invariant ∙ passes p n (sym c.has.ensures ∙ w.if-has.true)
      | else-has w ↦ w.list-is ∙ c.loop-chunk.invariant ∙ fails p n (sym c.has.ensures ∙ w.if-has.false)
    ]

pub returns : goal.returns
returns c =
    let end : c.loop-chunk.chunk ≡ 1024 = omega arith in
    c.loop-chunk.invariant ∙ ap (numbers_below (has c.args.set.now)) end ∙ found c.args.set.now 1024 c.len-count.ensures.members
