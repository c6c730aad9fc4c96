use Rattle.std.proofs.Common.{◌≡◌, ◌∙◌, ◌||◌, ◌<◌, ℕ, List, ap, sym, subst}
use Rattle.std.specs.List.{AllByRecursion}
use Rattle.table_sets.specs.Sets.{has}
use Rattle.inspect_story.proofs.Numbers.{below_end, or_false, same_members}
use Rattle.inspect_story.proofs.sets.columns_of.Goals as goal

pub loop-column-init : goal.loop-column-init
loop-column-init c =
    let items : c.into_iter-column-iterator.result ≡ c.args.list.now = c.into_iter-column-iterator.ensures.into_iter_gives ∙ c.iter-column-items.ensures.rest in
    record {
      same = λ x. ap (λ (s : List ℕ). has s x || has c.into_iter-column-iterator.result x) c.empty-set.ensures ∙ ap (λ (l : List ℕ). has l x) items;
      below = subst (AllByRecursion (λ (x : ℕ). x < 16)) (sym items) (below_end 0 16 c.args.list.now c.requires);
    }

pub returns : goal.returns
returns c =
    let l = c.loop-column in
    same_members l.set c.args.list.now 16 c.len-count.ensures.members c.requires
    (λ x. sym (or_false (has l.set x)) ∙ (ap (λ (xs : List ℕ). has l.set x || has xs x) (sym c.in-None.ensures.steps.0) ∙ l.invariant.same x))
