use Rattle.std.proofs.Common.{◌≡◌, ◌∙◌, sym, arith, true}
use Rattle.scan_story.specs.Counting.{has}
use Rattle.chunk_interest.proofs.Counting.{some_members, counted_less}
use Rattle.chunk_interest.proofs.counted_set.CountedSet.remove.Goals as goal

pub overflow_sub-self : goal.overflow_sub-self
overflow_sub-self c =
    let there : has c.self.inside.set c.args.c ≡ true = sym c.has.ensures ∙ c.if-has.true in
    let some = some_members c.self.inside.set c.args.c c.requires there in omega (arith, some, c.self.invariant.size)

pub invariant_of-self : goal.invariant_of-self
invariant_of-self c =
    let there : has c.self.inside.set c.args.c ≡ true = sym c.has.ensures ∙ c.if-has.true in
    counted_less c.self.inside.set c.remove.new.self c.self.inside.size c.args.c c.requires there c.remove.ensures c.self.invariant
