use Rattle.std.proofs.Common.{◌&&◌, ◌<◌, ◌^◌, ◌*◌, ◌≡◌, ◌∙◌, ℕ, length, ap, sym, subst, arith, refl, rules, get_or, bit_and}
use Rattle.std.specs.Int.Count.{ones}
use Rattle.std.proofs.lemmas.Nat.{ones-le}
use Rattle.table_sets.specs.Sets.{bit_of, numbers_below}
use Rattle.table_sets.proofs.Members.{count-word, numbers-rise}
use Rattle.scan_story.specs.Counting.{has}
use Rattle.chunk_interest.proofs.Below.{count_same}
use Rattle.chunk_interest.proofs.Bits.{words_of_both, word_of_both, has_both, below_both, no_both}
use Rattle.chunk_interest.proofs.Counting.{count_members}
use Rattle.chunk_interest.proofs.query_set.QuerySet.common.Goals.{then-word-ne0, else-word-ne0}
use Rattle.chunk_interest.proofs.query_set.QuerySet.common.Goals as goal

pub loop-i-init : goal.loop-i-init
unfolding numbers_below
loop-i-init c = record { so_far = refl; within = omega arith }

pub loop-i-preserved : goal.loop-i-preserved
unfolding ones
loop-i-preserved c =
    let i = c.loop-i.i in
    let ws = c.self.inside.words in
    let vs = c.other.inside.words in
    let zs = words_of_both ws vs in
    let at : get_or zs i 0 ≡ bit_and (get_or ws i 0) (get_or vs i 0) = word_of_both ws vs i (omega arith) in
    let small : get_or ws i 0 < 2 ^ 64 = search rules in
    let low : get_or zs i 0 < 2 ^ 64 = subst (λ (x : ℕ). x < 2 ^ 64) (sym at) (below_both (get_or ws i 0) (get_or vs i 0) (2 ^ 64) small) in
    let more = count-word zs i low in
    let few = ones-le 64 (get_or zs i 0) low in
    elim c.if-word-ne0.branch [
      | then-word-ne0 w ↦ record {
        so_far = omega (arith, more, c.loop-i.invariant.so_far, w.count-is, ap ones at);
        within = omega (arith, few, c.loop-i.invariant.within, w.count-is, ap ones at);
      }
      | else-word-ne0 w ↦ (let none : ones (get_or zs i 0) ≡ 0 = ap ones (at ∙ no_both (get_or ws i 0) (get_or vs i 0) w.if-word-ne0.false) in record {
        so_far = omega (arith, more, c.loop-i.invariant.so_far, w.count-is, none);
        within = omega (arith, c.loop-i.invariant.within, w.count-is);
      })
    ]

pub returns : goal.returns
returns c =
    let ws = c.self.inside.words in
    let vs = c.other.inside.words in
    let zs = words_of_both ws vs in
    let all : 64 * c.loop-i.i ≡ 320 = omega arith in
    let members : (x : ℕ) → has (numbers_below (bit_of zs) 320) x ≡ (has c.args.self.now x && has c.args.other.now x) = λ x. rw (← c.self.view_is, ← c.other.view_is) (has_both ws vs zs x (λ j lt. word_of_both ws vs j lt)) in
    c.loop-i.invariant.so_far
    ∙ (ap (λ (n : ℕ). length (numbers_below (bit_of zs) n)) all
    ∙ (count_members 0 (numbers_below (bit_of zs) 320) 320 (numbers-rise (bit_of zs) 320)
    ∙ count_same (has (numbers_below (bit_of zs) 320)) (λ x. has c.args.self.now x && has c.args.other.now x) 320 (λ x lt. members x)))
