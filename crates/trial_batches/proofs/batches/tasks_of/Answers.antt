use Rattle.std.proofs.Common.{◌≡◌, ◌∙◌, ◌<◌, ◌≤◌, ◌+◌, ◌*◌, ◌++◌, ◌∷◌, ℕ, List, [], length, map, take, arith, ap, sym, subst}
use Rattle.std.specs.Prelude.{All}
use Rattle.std.proofs.lemmas.List.{map-append, take_all, take_more}
use Rattle.std.proofs.lemmas.List.Elements.{All-push}
use Rattle.table_sets.specs.Sets.{Rising}
use Rattle.sql_bind.specs.declared.plan.Plan.{Plan}
use Rattle.batch_plan.specs.declared.task.Task.{Task}
use Rattle.trial_batches.proofs.batches.tasks_of.Goals as goal

rising-push : (start : ℕ) (xs : List ℕ) (n : ℕ) → Rising start xs n → Rising start (xs ++ n ∷ []) (n + 1)
rising-push start [] n rises = (rises, omega arith)
rising-push start (x ∷ xs) n rises = (rises.0, rising-push (x + 1) xs n rises.1)

rising_later : (start : ℕ) (xs : List ℕ) (end later : ℕ) → end ≤ later → Rising start xs end → Rising start xs later
rising_later start [] end later low rises = omega (arith, low, rises)
rising_later start (x ∷ xs) end later low rises = (rises.0, rising_later (x + 1) xs end later low rises.1)

pub loop-plan-preserved : goal.loop-plan-preserved
loop-plan-preserved g c =
    let before = c.loop-plan.invariant in
    let plans = c.args.plans.now in
    let i = c.loop-plan.plan-index in
    let plan = c.plan-item.result in
    let low : i < length plans = c.loop-plan-test.true in
    let old = c.loop-plan.tasks.items in
    let query = c.loop-plan.query + 1 in
    let task : Task = record { query = query; plan = plan } in
    let grown : c.push.new.self.items ≡ old ++ task ∷ [] = c.in_ok-push.ensures.items in
    let first : take (i + 1) plans ≡ take i plans ++ plan ∷ [] = take_more plans i plan low ∙ ap (λ (p : Plan). take i plans ++ p ∷ []) (sym c.plan-item.is) in
    let Few = λ (t : Task). t.query * c.args.parts ≤ 256 in
    let Numbers = λ (ns : List ℕ). Rising 1 ns (query + 1) in
    record {
      plans = ap (map (λ (t : Task). t.plan)) grown ∙ map-append (λ (t : Task). t.plan) old (task ∷ []) ∙ ap (λ (ps : List Plan). ps ++ plan ∷ []) before.plans ∙ sym first;
      numbers = subst Numbers (sym (ap (map (λ (t : Task). t.query)) grown ∙ map-append (λ (t : Task). t.query) old (task ∷ []))) (rising-push 1 (map (λ (t : Task). t.query) old) query before.numbers);
      scans = subst (All Few) (sym grown) (All-push Few old task before.scans (omega arith));
      count = ap (λ (n : ℕ). n + 1) before.count;
    }

pub returns-clause-plans : goal.returns-clause-plans
returns-clause-plans g c = c.loop-plan.invariant.plans ∙ take_all c.loop-plan.plan-index c.args.plans.now (omega (arith, c.loop-plan-test.false))

pub returns-clause-numbers : goal.returns-clause-numbers
returns-clause-numbers g c = rising_later 1 (map (λ (t : Task). t.query) c.loop-plan.tasks.items) (c.loop-plan.query + 1) 257 (omega (arith, c.loop-plan.invariant.count, c.loop-plan.auto.plan-index-end)) c.loop-plan.invariant.numbers
