-- The scans of a batch by their places: each task has as many of them as there are parts.
use Rattle.std.proofs.Common.{◌≡◌, ◌<◌, ◌≤◌, ◌+◌, ◌-◌, ◌*◌, ◌/◌, ◌∷◌, [], ℕ, zero, suc, List, get_or, length, add-one, arith, length-append, refl, sym, ap, ◌∙◌, ⊎_elim}
use Rattle.std.proofs.Math.Nat.{add-mul, div-eq-sub-div, div-eq_of_lt, div-lt_iff_lt-mul}
use Rattle.std.proofs.lemmas.Bool.{cases_lt}
use Rattle.std.proofs.lemmas.List.{get_or-append_right, get_or_append_left}
use Rattle.batch_plan.specs.declared.task.Task.{Task}
use Rattle.batch_plan.specs.Scans.{Scan, scans, scans_from, scans_from_part}

module _ (w m : ℕ) (some : 1 ≤ m) where
  part_count : (t : Task) (place part left : ℕ) → length (scans_from_part w m t place part left) ≡ left
  part_count t place part zero = refl
  part_count t place part (suc left) = ap suc (part_count t (place + 1) (part + 1) left)

  count_from : (place : ℕ) (tasks : List Task) → length (scans_from w m place tasks) ≡ length tasks * m
  count_from place [] = omega arith
  count_from place (t ∷ tasks) =
      let rest = count_from (place + m) tasks in
      let more : (length tasks + 1) * m ≡ length tasks * m + m = omega (arith, add-mul (length tasks) 1 m) in
      omega (arith, length-append (scans_from_part w m t place 0 m) (scans_from w m (place + m) tasks), part_count t place 0 m, rest, more)

  -- the task of a scan is there
  pub task_there : (tasks : List Task) (i : ℕ) → i < length (scans w m tasks) → i / m < length tasks
  task_there tasks i low = (div-lt_iff_lt-mul {k = m} {x = i} {y = length tasks} some).1 (omega (arith, low, count_from 0 tasks))

  part_plan : (t : Task) (place part left i : ℕ) (d : Scan) → i < left → (get_or (scans_from_part w m t place part left) i d).plan ≡ t.plan
  part_plan t place part zero i d low = absurd (omega (arith, low))
  part_plan t place part (suc left) zero d low = refl
  part_plan t place part (suc left) (suc i) d low = part_plan t (place + 1) (part + 1) left i d (omega (arith, low))

  plan_from : (place : ℕ) (tasks : List Task) (i : ℕ) (d : Scan) (e : Task) → i < length tasks * m → (get_or (scans_from w m place tasks) i d).plan ≡ (get_or tasks (i / m) e).plan
  plan_from place [] i d e low = absurd (omega (arith, low))
  plan_from place (t ∷ tasks) i d e low =
      let mine = scans_from_part w m t place 0 m in
      let others = scans_from w m (place + m) tasks in
      let long = part_count t place 0 m in
      let more : (length tasks + 1) * m ≡ length tasks * m + m = omega (arith, add-mul (length tasks) 1 m) in
      ⊎_elim
      (λ (inside : i < m).
      ap (λ (k : Scan). k.plan) (get_or_append_left mine others d i (omega (arith, inside, long)))
      ∙ (part_plan t place 0 m i d inside ∙ ap (λ (n : ℕ). (get_or (t ∷ tasks) n e).plan) (sym (div-eq_of_lt inside))))
      (λ (behind : m ≤ i).
      ap (λ (k : Scan). k.plan) (get_or-append_right mine others m i d long behind)
      ∙ (plan_from (place + m) tasks (i - m) d e (omega (arith, low, more, behind))
      ∙ (ap (λ (n : ℕ). (get_or (t ∷ tasks) n e).plan) (sym (add-one ((i - m) / m)) ∙ sym (div-eq-sub-div {m = m} {n = i} some behind)))))
      (cases_lt i m)

  -- the plan of a scan is that of its task
  pub plan_there : (tasks : List Task) (i : ℕ) (d : Scan) (e : Task) → i < length (scans w m tasks) → (get_or (scans w m tasks) i d).plan ≡ (get_or tasks (i / m) e).plan
  plan_there tasks i d e low = plan_from 0 tasks i d e (omega (arith, low, count_from 0 tasks))
