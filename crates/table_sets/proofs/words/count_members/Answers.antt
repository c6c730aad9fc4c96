use Rattle.std.proofs.Common.{◌<◌, ◌^◌, arith, refl, rules, get_or}
use Rattle.table_sets.specs.Sets.{numbers_below}
use Rattle.std.proofs.lemmas.Nat.{ones-le}
use Rattle.table_sets.proofs.Members.{count-word}
use Rattle.table_sets.proofs.words.count_members.Goals as goal

pub loop-word-init : goal.loop-word-init
unfolding numbers_below
loop-word-init c = record { so_far = refl; within = omega arith }

pub loop-word-preserved : goal.loop-word-preserved
loop-word-preserved c =
    let words = c.args.words.now in
    let i = c.loop-word.word-index in
    let small : get_or words i 0 < 2 ^ 64 = search (rules, c.type_inv.words) in
    record {
      so_far = omega (arith, count-word words i small, c.loop-word.invariant.so_far);
      within = omega (arith, ones-le 64 (get_or words i 0) small, c.loop-word.invariant.within);
    }
