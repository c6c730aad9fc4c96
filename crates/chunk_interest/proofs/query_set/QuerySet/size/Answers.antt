use Rattle.std.proofs.Common.{◌<◌, ◌^◌, ◌*◌, ◌≡◌, ◌∙◌, ℕ, List, length, ap, arith, refl, rules, get_or}
use Rattle.std.proofs.lemmas.Nat.{ones-le}
use Rattle.table_sets.specs.Sets.{bit_of, numbers_below}
use Rattle.table_sets.proofs.Members.{count-word, numbers-rise}
use Rattle.scan_story.specs.Counting.{has, count_below}
use Rattle.chunk_interest.proofs.Counting.{count_members}
use Rattle.chunk_interest.proofs.query_set.QuerySet.size.Goals as goal

pub loop-i-init : goal.loop-i-init
unfolding numbers_below
loop-i-init c = record { so_far = refl; within = omega arith }

pub loop-i-preserved : goal.loop-i-preserved
loop-i-preserved c =
    let words = c.self.inside.words in
    let i = c.loop-i.i in
    let small : get_or words i 0 < 2 ^ 64 = search rules in
    record {
      so_far = omega (arith, count-word words i small, c.loop-i.invariant.so_far);
      within = omega (arith, ones-le 64 (get_or words i 0) small, c.loop-i.invariant.within);
    }

pub returns-clause-size : goal.returns-clause-size
returns-clause-size c =
    let bits = bit_of c.self.inside.words in
    let all : 64 * c.loop-i.i ≡ 320 = omega arith in
    c.loop-i.invariant.so_far
    ∙ (ap (λ (n : ℕ). length (numbers_below bits n)) all
    ∙ (count_members 0 (numbers_below bits 320) 320 (numbers-rise bits 320) ∙ ap (λ (xs : List ℕ). count_below (has xs) 320) c.self.view_is))
