use Rattle.std.proofs.Common.{◌≡◌, ◌∙◌, ◌+◌, ◌-◌, ◌%◌, ◌++◌, ◌∷◌, ℕ, suc, List, [], length, arith, refl, ap, append_assoc, length-append}
use Rattle.chunk_interest.specs.declared.need.Need.{Need}
use Rattle.batch_plan.specs.Scans.{need_of, needs, scan_of, scans_from_part}
use Rattle.batch_plan.proofs.needs.push_parts.Goals as goal

pub loop-part-preserved : goal.loop-part-preserved
loop-part-preserved c =
    let before = c.loop-part.invariant in
    let t = c.args.task.now in
    let workers = c.args.workers in
    let parts = c.args.parts in
    let old = c.loop-part.needs.items in
    let first = length c.args.needs.now.items in
    let part = c.loop-part.part in
    let left = parts - (part + 1) in
    let some : parts - part ≡ suc left = omega (arith, c.loop-part-test.true) in
    let place : c.len-place.result ≡ first + part = omega (arith, c.len-place.ensures, before.count) in
    let made : Need = record { query = c.scan_number.result; worker = c.len-place.result % workers; chunks = c.deal.result; columns = c.copy.result } in
    let pushed : c.push.new.self.items ≡ old ++ made ∷ [] = c.in_ok-push.ensures.items in
    record {
      count = omega (arith, ap length pushed, length-append old (made ∷ []), before.count);
      needs = λ zones is.
          let k = scan_of workers parts t (first + part) part in
          let Behind = λ (n : ℕ). needs zones parts (scans_from_part workers parts t n (part + 1) left) in
          let next : first + (part + 1) ≡ first + part + 1 = omega arith in
          let now : made ≡ need_of zones parts k = rw (c.scan_number.ensures, place, c.deal.ensures.dealt, is, c.copy.ensures, ← c.task.view_is) refl in
          ap (λ (ns : List Need). ns ++ Behind (first + (part + 1))) pushed
          ∙ append_assoc old (made ∷ []) (Behind (first + (part + 1)))
          ∙ ap (λ (n : Need). old ++ n ∷ Behind (first + (part + 1))) now
          ∙ ap (λ (n : ℕ). old ++ need_of zones parts k ∷ Behind n) next
          ∙ rw some at (before.needs zones is);
    }
