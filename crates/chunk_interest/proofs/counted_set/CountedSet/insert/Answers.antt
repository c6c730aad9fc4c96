use Rattle.std.proofs.Common.{◌≡◌, ◌≤◌, arith, false}
use Rattle.scan_story.specs.Counting.{has}
use Rattle.chunk_interest.proofs.Counting.{few_members, counted_more}
use Rattle.chunk_interest.proofs.counted_set.CountedSet.insert.Goals as goal

pub overflow_add-self : goal.overflow_add-self
overflow_add-self c = let few = few_members c.self.inside.set in let small : c.self.inside.size ≤ 1024 = omega (arith, few, c.self.invariant.size) in grind (arith, small)

pub invariant_of-self : goal.invariant_of-self
invariant_of-self c =
    let out : has c.self.inside.set c.args.c ≡ false = grind (arith, c.has.ensures, c.if-not-has.ensures) in
    counted_more c.self.inside.set c.insert.new.self c.self.inside.size c.args.c c.requires out c.insert.ensures c.self.invariant
