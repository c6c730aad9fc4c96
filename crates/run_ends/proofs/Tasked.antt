-- The tasks of a batch, and what holds of each.
use Rattle.std.proofs.Common.{◌≡◌, ◌+◌, ◌*◌, ◌≤◌, ℕ, List, [], ◌∷◌, ◌++◌, length, map, refl, arith, All, append_assoc}
use Rattle.std.specs.List.{AllByRecursion, AllZip}
use Rattle.std.proofs.Math.Nat.{mul-le-mul}
use Rattle.std.proofs.lemmas.List.Elements.{All-nil, All-cons}
use Rattle.table_sets.specs.Sets.{Rising}
use Rattle.sql_bind.specs.declared.plan.Plan.{Plan}
use Rattle.query_gather.specs.declared.answer.Answer.{Answer}
use Rattle.batch_plan.specs.declared.task.Task.{Task}
use Rattle.run_stops.specs.Outcomes.{plans_of}
use Rattle.run_stops.specs.declared.outcome.Outcome.{Outcome}
use Rattle.run_stops.specs.declared.outcome.Outcome.TheVariants as outcome
use Rattle.run_ends.specs.Tasks.{tasks_in}

-- the tasks of one more statement stand before those of the others
tasks-next : (n : ℕ) (o : Outcome) (os : List Outcome) → tasks_in n (o ∷ os) ≡ tasks_in n (o ∷ []) ++ tasks_in (n + 1) os
tasks-next n (outcome.Planned p) os = refl
tasks-next n (outcome.Refused why) os = refl

pub tasks-more : (old new all : List Task) (q : ℕ) (o : Outcome) (rest rest' : List Outcome) → new ≡ old ++ tasks_in q (o ∷ []) → rest ≡ o ∷ rest' → old ++ tasks_in q rest ≡ all
    → new ++ tasks_in (q + 1) rest' ≡ all
tasks-more old new all q o rest rest' put next is =
    rw (put, append_assoc old (tasks_in q (o ∷ [])) (tasks_in (q + 1) rest'), ← tasks-next q o rest') (rw next at is)

-- the numbers of tasks rise
pub tasks-rise : (m n end : ℕ) (os : List Outcome) → m ≤ n → n + length os ≤ end → Rising m (map (λ (t : Task). t.query) (tasks_in n os)) end
tasks-rise m n end [] low high = omega (arith, low, high)
tasks-rise m n end (outcome.Planned p ∷ os) low high = (low, tasks-rise (n + 1) (n + 1) end os (omega arith) (omega (arith, high)))
tasks-rise m n end (outcome.Refused why ∷ os) low high = tasks-rise m (n + 1) end os (omega (arith, low)) (omega (arith, high))

-- the numbers of all scans are small
pub scans-few : (parts end n : ℕ) (os : List Outcome) → end * parts ≤ 256 → n + length os ≤ end + 1 → All (λ (t : Task). t.query * parts ≤ 256) (tasks_in n os)
scans-few parts end n [] few high = All-nil (λ (t : Task). t.query * parts ≤ 256)
scans-few parts end n (outcome.Planned p ∷ os) few high =
    let low : n * parts ≤ end * parts = mul-le-mul {n₁ = n} {m₁ = parts} {n₂ = end} {m₂ = parts} (omega (arith, high)) (omega arith) in
    All-cons (λ (t : Task). t.query * parts ≤ 256) (record { query = n; plan = p }) (tasks_in (n + 1) os) (omega (arith, low, few)) (scans-few parts end (n + 1) os few (omega (arith, high)))
scans-few parts end n (outcome.Refused why ∷ os) few high = scans-few parts end (n + 1) os few (omega (arith, high))

-- what holds of each plan holds of each task's
pub each-task : (P : Plan → Type 0) (n : ℕ) (os : List Outcome) → AllByRecursion P (plans_of os) → All (λ (t : Task). P t.plan) (tasks_in n os)
each-task P n [] h = All-nil (λ (t : Task). P t.plan)
each-task P n (outcome.Planned p ∷ os) h = All-cons (λ (t : Task). P t.plan) (record { query = n; plan = p }) (tasks_in (n + 1) os) h.0 (each-task P (n + 1) os h.1)
each-task P n (outcome.Refused why ∷ os) h = each-task P (n + 1) os h

-- what holds of each task's plan and its answer holds of each plan and the answer that it has
pub each-answer : (P : Plan → Answer → Type 0) (n : ℕ) (os : List Outcome) (given : List Answer) → AllZip (λ (t : Task) (a : Answer). P t.plan a) (tasks_in n os) given → AllZip P (plans_of os) given
each-answer P n [] [] h = tt
each-answer P n [] (a ∷ given) h = h
each-answer P n (outcome.Planned p ∷ os) [] h = h
each-answer P n (outcome.Planned p ∷ os) (a ∷ given) h = (h.0, each-answer P (n + 1) os given h.1)
each-answer P n (outcome.Refused why ∷ os) given h = each-answer P (n + 1) os given h

-- what is paired off is as many
pub zip-length : {A B : Type 0} (P : A → B → Type 0) (xs : List A) (ys : List B) → AllZip P xs ys → length ys ≡ length xs
zip-length P [] [] h = refl
zip-length P [] (y ∷ ys) h = absurd h
zip-length P (x ∷ xs) [] h = absurd h
zip-length P (x ∷ xs) (y ∷ ys) h = let e = zip-length P xs ys h.1 in omega (arith, e)
