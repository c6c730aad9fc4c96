use Rattle.std.proofs.Common.{◌∙◌, sym, subst, List, ℕ}
use Rattle.chunk_interest.specs.Counted.{IsCounted}
use Rattle.chunk_interest.proofs.Counting.{members_size, members_within}
use Rattle.chunk_interest.proofs.counted_set.CountedSet.of.Goals as goal

pub invariant_of-result : goal.invariant_of-result
invariant_of-result c =
    let rise = c.len-size.ensures.members in
    let whole : IsCounted c.args.set.now c.len-size.result = record { size = c.len-size.ensures.len ∙ members_size c.args.set.now rise; within = λ x e. members_within c.args.set.now x rise e } in
    subst (λ (xs : List ℕ). IsCounted xs c.len-size.result) (sym c.copy.ensures) whole
