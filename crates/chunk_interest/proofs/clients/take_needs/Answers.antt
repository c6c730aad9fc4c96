use Rattle.std.proofs.Common.{◌≡◌, ◌<◌, ◌+◌, ◌-◌, ◌∷◌, length, get_or, drop, set, arith, subst, sym, ap, ◌∙◌, ℕ, List, suc, drop-cons}
use Rattle.std.proofs.lemmas.List.{length-set}
use Rattle.chunk_interest.specs.declared.need.Need.{Need}
use Rattle.chunk_interest.specs.Fresh.{AreFresh}
use Rattle.chunk_interest.proofs.Beginning.{fresh_set}
use Rattle.chunk_interest.proofs.clients.take_needs.Goals as goal

pub loop-i-preserved : goal.loop-i-preserved
loop-i-preserved c =
    let ns = c.args.needs.now in
    let j = c.loop-i.i - 1 in
    let n = c.index-needs-i.result in
    let ks = c.loop-i.clients in
    let inside : j < length ns = omega arith in
    let next : j + 1 ≡ c.loop-i.i = omega arith in
    let more : suc j ≡ j + 1 = omega arith in
    let there : n.query < length ks = subst (λ (m : Need). m.query < length ks) (sym c.index-needs-i.is) (omega (arith, c.requires.queries j n inside, c.loop-i.invariant.size)) in
    let split : drop j ns ≡ n ∷ drop c.loop-i.i ns = drop-cons ns j n inside ∙ (ap (λ (i : ℕ). get_or ns j n ∷ drop i ns) more ∙ (ap (λ (m : Need). m ∷ drop (j + 1) ns) (sym c.index-needs-i.is) ∙ ap (λ (i : ℕ). n ∷ drop i ns) next)) in
    record {
      size = length-set ks n.query c.take.new.self ∙ c.loop-i.invariant.size;
      within = omega arith;
      each = subst (λ (rest : List Need). AreFresh c.args.groups rest (set ks n.query c.take.new.self) (length c.args.clients.now)) (sym split)
          (fresh_set c.args.groups n (drop c.loop-i.i ns) ks c.take.new.self (length c.args.clients.now) there c.take.ensures c.loop-i.invariant.each);
    }
