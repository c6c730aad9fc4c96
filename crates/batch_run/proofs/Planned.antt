-- The jobs of a batch, over the setting that its needs make.
use Rattle.std.proofs.Common.{◌≡◌, ◌≢◌, ◌==◌, ◌<◌, ◌+◌, ◌++◌, ◌∷◌, [], ℕ, zero, suc, true, false, List, Some, All, find, map, length, refl, sym, ap, ◌∙◌, subst}
use Rattle.std.specs.List.{AllByRecursion, AllZip}
use Rattle.std.proofs.lemmas.List.Elements.{All-from_recursion, recursion_from_All}
use Rattle.scan_story.specs.declared.setting.Need.{Need}
use Rattle.scan_story.specs.declared.setting.Setting.{Setting}
use Rattle.scan_story.specs.Counting.{has}
use Rattle.scan_story.specs.Setting.{AreDistinct, IsSetting, columns_in, need_of, worker_in}
use Rattle.story_laws.specs.Lists.{NoneTwice}
use Rattle.story_laws.proofs.Bools.{either, equal_number, if_here, if_not, if_other, or_off, same_number}
use Rattle.chunk_interest.specs.declared.need.Need as asked
use Rattle.chunk_interest.specs.Fresh.{as_need}
use Rattle.piece_format.specs.Shape.{TableShape, IsShape}
use Rattle.sql_bind.specs.declared.plan.Plan.{Plan}
use Rattle.batch_plan.specs.declared.task.Task.{Task}
use Rattle.batch_plan.specs.Scans.{Scan, scans, scans_from, scans_from_part}
use Rattle.batch_ends.specs.Rows.{IsPlanOfShape}
use Rattle.batch_ends.specs.declared.job.Job.{Job}
use Rattle.batch_ends.specs.Came.{IsNeedOf}
use Rattle.batch_ends.specs.Jobs.{IsJobOf, numbers_of}
use Rattle.batch_run.specs.Jobs.{AreJobs, IsJob}

-- Needs

-- each need is the one that its number finds
abbrev FindsItself : List Need → Need → Type 0
FindsItself ns n = find (λ m. m.query == n.query) ns ≡ Some n

finds_later : (n : Need) (ns ms : List Need) → AllByRecursion (λ (m : Need). n.query ≢ m.query) ms → AllByRecursion (FindsItself ns) ms → AllByRecursion (FindsItself (n ∷ ns)) ms
finds_later n ns [] apart found = tt
finds_later n ns (m ∷ ms) apart found = (
  if_other (n.query == m.query) (Some n) (find (λ k. k.query == m.query) ns) (if_not (n.query == m.query) (λ t. apart.0 (same_number n.query m.query t))) ∙ found.0,
  finds_later n ns ms apart.1 found.1,
)

pub find_themselves : (ns : List Need) → AreDistinct ns → AllByRecursion (FindsItself ns) ns
find_themselves [] apart = tt
find_themselves (n ∷ ns) apart = (
  if_here (n.query == n.query) (Some n) (find (λ k. k.query == n.query) ns) (equal_number n.query n.query refl),
  finds_later n ns ns apart.0 (find_themselves ns apart.1),
)

among_none : (x : ℕ) (ns : List Need) → AllByRecursion (λ (m : Need). x ≢ m.query) ns → has (map (λ (m : Need). m.query) ns) x ≡ false
among_none x [] apart = refl
among_none x (n ∷ ns) apart =
    or_off (n.query == x) (has (map (λ (m : Need). m.query) ns) x) (if_not (n.query == x) (λ t. apart.0 (sym (same_number n.query x t)))) (among_none x ns apart.1)

none_twice : (ns : List Need) → AreDistinct ns → NoneTwice (map (λ (m : Need). m.query) ns)
none_twice [] apart = tt
none_twice (n ∷ ns) apart = (among_none n.query ns apart.0, none_twice ns apart.1)

-- Plans

plans_from_part : (P : Plan → Type 0) (w m : ℕ) (t : Task) (place part left : ℕ) → P t.plan → AllByRecursion (λ (k : Scan). P k.plan) (scans_from_part w m t place part left)
plans_from_part P w m t place part zero is = tt
plans_from_part P w m t place part (suc left) is = (is, plans_from_part P w m t (place + 1) (part + 1) left is)

both_parts : (P : Plan → Type 0) (xs ys : List Scan) → AllByRecursion (λ (k : Scan). P k.plan) xs → AllByRecursion (λ (k : Scan). P k.plan) ys → AllByRecursion (λ (k : Scan). P k.plan) (xs ++ ys)
both_parts P [] ys first rest = rest
both_parts P (x ∷ xs) ys first rest = (first.0, both_parts P xs ys first.1 rest)

plans_from : (P : Plan → Type 0) (w m place : ℕ) (tasks : List Task) → AllByRecursion (λ (t : Task). P t.plan) tasks → AllByRecursion (λ (k : Scan). P k.plan) (scans_from w m place tasks)
plans_from P w m place [] each = tt
plans_from P w m place (t ∷ tasks) each =
    both_parts P (scans_from_part w m t place 0 m) (scans_from w m (place + m) tasks) (plans_from_part P w m t place 0 m each.0) (plans_from P w m (place + m) tasks each.1)

member : (P : ℕ → Type 0) (xs : List ℕ) (x : ℕ) → AllByRecursion P xs → has xs x ≡ true → P x
member P [] x all is = absurd cc
member P (y ∷ xs) x all is = either (y == x) (has xs x) is (λ here. subst P (same_number y x here) all.0) (λ later. member P xs x all.1 later)

-- Jobs

module _ (s : Setting) (z : TableShape) (shape : IsShape z) where
  is_job : (k : Scan) (j : Job) (n : asked.Need) → IsJobOf k j → IsNeedOf k n → need_of s n.query ≡ Some (as_need n) → IsPlanOfShape z k.plan → IsJob s z j
  is_job k j n job need found plan =
      let at : need_of s j.number ≡ Some (as_need n) = ap (need_of s) (job.number ∙ sym need.query) ∙ found in
      let columns : columns_in (need_of s j.number) ≡ j.plan.now.columns = ap columns_in at ∙ (need.columns ∙ ap (λ (p : Plan). p.columns) (sym job.plan)) in
      let mine : IsPlanOfShape z j.plan.now = subst (IsPlanOfShape z) (sym job.plan) plan in
      let within = recursion_from_All (λ (x : ℕ). x < length z.kinds) j.plan.now.columns (mine.reads.columns_in shape.some_columns) in
      record {
        on = ap worker_in at ∙ ap Some (need.worker ∙ sym job.worker);
        columns = λ x is. member (λ (y : ℕ). y < length z.kinds) j.plan.now.columns x within (ap (λ (l : List ℕ). has l x) (sym columns) ∙ is);
        reads = λ x. ap (λ (l : List ℕ). has l x) columns;
        plan = mine;
      }

  are_jobs : (ks : List Scan) (js : List Job) (ns : List asked.Need) → AllZip IsJobOf ks js → AllZip IsNeedOf ks ns → AllByRecursion (λ (n : Need). need_of s n.query ≡ Some n) (map as_need ns)
      → AllByRecursion (λ (k : Scan). IsPlanOfShape z k.plan) ks → AllByRecursion (IsJob s z) js
  are_jobs [] [] ns jobs needs found plans = tt
  are_jobs [] (j ∷ js) ns jobs needs found plans = absurd jobs
  are_jobs (k ∷ ks) [] ns jobs needs found plans = absurd jobs
  are_jobs (k ∷ ks) (j ∷ js) [] jobs needs found plans = absurd needs
  are_jobs (k ∷ ks) (j ∷ js) (n ∷ ns) jobs needs found plans = (is_job k j n jobs.0 needs.0 found.0 plans.0, are_jobs ks js ns jobs.1 needs.1 found.1 plans.1)

same_numbers : (ks : List Scan) (js : List Job) (ns : List asked.Need) → AllZip IsJobOf ks js → AllZip IsNeedOf ks ns → numbers_of js ≡ map (λ (m : Need). m.query) (map as_need ns)
same_numbers [] [] [] jobs needs = refl
same_numbers [] [] (n ∷ ns) jobs needs = absurd needs
same_numbers [] (j ∷ js) ns jobs needs = absurd jobs
same_numbers (k ∷ ks) [] ns jobs needs = absurd jobs
same_numbers (k ∷ ks) (j ∷ js) [] jobs needs = absurd needs
same_numbers (k ∷ ks) (j ∷ js) (n ∷ ns) jobs needs =
    ap (λ (x : ℕ). x ∷ numbers_of js) (jobs.0.number ∙ sym needs.0.query) ∙ ap (λ (l : List ℕ). n.query ∷ l) (same_numbers ks js ns jobs.1 needs.1)

-- the jobs of a batch may be done in its setting
pub planned : (s : Setting) (z : TableShape) (w m : ℕ) (tasks : List Task) (js : List Job) (ns : List asked.Need) → IsSetting s → IsShape z → s.needs ≡ map as_need ns
    → AllZip IsJobOf (scans w m tasks) js → AllZip IsNeedOf (scans w m tasks) ns → All (λ (t : Task). IsPlanOfShape z t.plan) tasks → AreJobs s z js
planned s z w m tasks js ns setting shape same jobs needs plans =
    let ks = scans w m tasks in
    let found = subst (AllByRecursion (λ (n : Need). need_of s n.query ≡ Some n)) same (find_themselves s.needs setting.distinct) in
    record {
      each = All-from_recursion (IsJob s z) js (are_jobs s z shape ks js ns jobs needs found (plans_from (IsPlanOfShape z) w m 0 tasks (recursion_from_All (λ (t : Task). IsPlanOfShape z t.plan) tasks plans)));
      apart = subst NoneTwice (sym (same_numbers ks js ns jobs needs ∙ ap (map (λ (m : Need). m.query)) (sym same))) (none_twice s.needs setting.distinct);
    }

-- what holds of each job holds of each need
pub of_needs : (P : ℕ → Type 0) (ks : List Scan) (js : List Job) (ns : List asked.Need) → AllZip IsJobOf ks js → AllZip IsNeedOf ks ns → AllByRecursion (λ (j : Job). P j.number) js
    → AllByRecursion (λ (n : Need). P n.query) (map as_need ns)
of_needs P [] [] [] jobs needs each = tt
of_needs P [] [] (n ∷ ns) jobs needs each = absurd needs
of_needs P [] (j ∷ js) ns jobs needs each = absurd jobs
of_needs P (k ∷ ks) [] ns jobs needs each = absurd jobs
of_needs P (k ∷ ks) (j ∷ js) [] jobs needs each = absurd needs
of_needs P (k ∷ ks) (j ∷ js) (n ∷ ns) jobs needs each = (subst P (jobs.0.number ∙ sym needs.0.query) each.0, of_needs P ks js ns jobs.1 needs.1 each.1)
