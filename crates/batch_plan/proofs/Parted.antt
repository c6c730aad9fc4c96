-- The scans of a batch, by task and part.
use Rattle.std.proofs.Common.{◌<◌, ◌≤◌, ◌+◌, ◌++◌, ℕ, zero, suc, List, [], ◌∷◌, arith, inl, inr, subst}
use Rattle.std.specs.List.{AllByRecursion}
use Rattle.std.proofs.lemmas.Bool.{cases_eq}
use Rattle.batch_plan.specs.declared.task.Task.{Task}
use Rattle.batch_plan.specs.Scans.{Scan, scan_of, scans, scans_from, scans_from_part}

split_all : {X : Type 0} (P : X → Type 0) (xs ys : List X) → AllByRecursion P (xs ++ ys) → AllByRecursion P xs × AllByRecursion P ys
split_all P [] ys h = (tt, h)
split_all P (x ∷ xs) ys h = (let rest = split_all P xs ys h.1 in ((h.0, rest.0), rest.1))

module _ (P : Scan → Type 0) (workers parts : ℕ) where
  -- it holds of the scan of each part of a task, at some place
  abbrev pub OfParts : Task → Type 0
  OfParts t = (part : ℕ) → part < parts → (place : ℕ) × P (scan_of workers parts t place part)

  part_of : (t : Task) (place part left : ℕ) → AllByRecursion P (scans_from_part workers parts t place part left) → (j : ℕ) → part ≤ j → j < part + left → (at : ℕ) × P (scan_of workers parts t at j)
  part_of t place part zero all j low high = absurd (omega (arith, low, high))
  part_of t place part (suc left) all j low high = elim (cases_eq part j) [
    | inl here ↦ (place, subst (λ n. P (scan_of workers parts t place n)) here all.0)
    | inr other ↦ part_of t (place + 1) (part + 1) left all.1 j (omega (arith, low, other)) (omega (arith, high))
  ]

  tasks_from : (place : ℕ) (tasks : List Task) → AllByRecursion P (scans_from workers parts place tasks) → AllByRecursion OfParts tasks
  tasks_from place [] all = tt
  tasks_from place (t ∷ tasks) all =
      let both = split_all P (scans_from_part workers parts t place 0 parts) (scans_from workers parts (place + parts) tasks) all in
      ((λ part low. part_of t place 0 parts both.0 part (omega arith) (omega (arith, low))), tasks_from (place + parts) tasks both.1)

  pub each_part : (tasks : List Task) → AllByRecursion P (scans workers parts tasks) → AllByRecursion OfParts tasks
  each_part tasks all = tasks_from 0 tasks all
