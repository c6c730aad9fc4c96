-- How many statements are answered.
use Rattle.std.proofs.Common.{◌≡◌, ◌∙◌, ◌+◌, ◌≤◌, ℕ, suc, Bool, true, false, List, [], ◌∷◌, length, refl, sym, ap, arith}
use Rattle.std.specs.Prelude.{cond, if◌then◌else◌, ◌==◌, ◌&&◌}
use Rattle.std.specs.List.{count_by, list_all}
use Rattle.std.proofs.lemmas.Bool.{ne_eqb}
use Rattle.std.proofs.lemmas.Bool.Decides.{nat_tests}
use Rattle.std.proofs.lemmas.List.Sums.{count_by-le-length, sum_by-cons}
use Rattle.table_core.specs.declared.schema.Column.{Column}
use Rattle.sql_bind.specs.declared.plan.Plan.{Plan}
use Rattle.query_gather.specs.declared.answer.Answer.{Answer}
use Rattle.query_gather.specs.declared.answer.Answer.TheVariants.{Rows, Picked, Overflow, Stopped}
use Rattle.run_stops.specs.declared.outcome.Outcome.{Outcome}
use Rattle.run_stops.specs.declared.outcome.Outcome.TheVariants.{Planned, Refused}
use Rattle.run_output.specs.Answers.{answer_printed, printed}
use Rattle.run_stops.specs.Outcomes.{plans_of}
use Rattle.run_output.specs.Outcomes.{has_rows}
use Rattle.run_output.specs.Printed.{is_answered, status}

count_more : {A : Type 0} (test : A → Bool) (x : A) (xs : List A) → count_by test (x ∷ xs) ≡ cond (test x) 1 0 + count_by test xs
count_more test x xs = sum_by-cons (λ y. cond (test y) 1 0) x xs

same_eqb : (m n k : ℕ) → k ≡ 1 + m → (m == n) ≡ (k == suc n)
same_eqb m n k e = grind (arith, nat_tests)

module _ (columns : List Column) (dicts : List (List (List ℕ))) where
  prints_rows : (n : ℕ) (p : Plan) (a : Answer) → is_answered (answer_printed columns dicts n p a) ≡ has_rows a
  prints_rows n p (Rows rows) = refl
  prints_rows n p (Picked rows) = refl
  prints_rows n p (Overflow item total) = refl
  prints_rows n p (Stopped why) = refl

  pub answered_count : (n : ℕ) (outcomes : List Outcome) (answers : List Answer) → length answers ≡ length (plans_of outcomes) → count_by is_answered (printed columns dicts n outcomes answers) ≡ count_by has_rows answers
  answered_count n [] [] h = refl
  answered_count n [] (a ∷ answers) h = absurd (omega (arith, h))
  answered_count n (Planned p ∷ outcomes) [] h = absurd (omega (arith, h))
  answered_count n (Planned p ∷ outcomes) (a ∷ answers) h =
      let rest = printed columns dicts (n + 1) outcomes answers in
      count_more is_answered (answer_printed columns dicts n p a) rest
      ∙ ap (λ b. cond b 1 0 + count_by is_answered rest) (prints_rows n p a)
      ∙ ap (λ m. cond (has_rows a) 1 0 + m) (answered_count (n + 1) outcomes answers (omega (arith, h)))
      ∙ sym (count_more has_rows a answers)
  answered_count n (Refused why ∷ outcomes) answers h = answered_count (n + 1) outcomes answers h

  pub statement_count : (n : ℕ) (outcomes : List Outcome) (answers : List Answer) → length answers ≡ length (plans_of outcomes) → length (printed columns dicts n outcomes answers) ≡ length outcomes
  statement_count n [] answers h = refl
  statement_count n (Planned p ∷ outcomes) [] h = absurd (omega (arith, h))
  statement_count n (Planned p ∷ outcomes) (a ∷ answers) h = ap suc (statement_count (n + 1) outcomes answers (omega (arith, h)))
  statement_count n (Refused why ∷ outcomes) answers h = ap suc (statement_count (n + 1) outcomes answers h)

-- all pass exactly where as many pass as there are
pass_more : {A : Type 0} (test : A → Bool) (x : A) (xs : List A) → list_all test xs ≡ (count_by test xs == length xs) → (b : Bool) → test x ≡ b → list_all test (x ∷ xs) ≡ (count_by test (x ∷ xs) == length (x ∷ xs))
pass_more test x xs rest true so =
    let one : count_by test (x ∷ xs) ≡ 1 + count_by test xs = count_more test x xs ∙ ap (λ b. cond b 1 0 + count_by test xs) so in
    ap (λ b. b && list_all test xs) so ∙ rest ∙ same_eqb (count_by test xs) (length xs) (count_by test (x ∷ xs)) one
pass_more test x xs rest false not =
    let none : count_by test (x ∷ xs) ≡ 0 + count_by test xs = count_more test x xs ∙ ap (λ b. cond b 1 0 + count_by test xs) not in
    let few = count_by-le-length test xs in
    ap (λ b. b && list_all test xs) not ∙ sym (ne_eqb (count_by test (x ∷ xs)) (length (x ∷ xs)) (λ e. omega (arith, e, none, few)))

all_pass : {A : Type 0} (test : A → Bool) (xs : List A) → list_all test xs ≡ (count_by test xs == length xs)
all_pass test [] = refl
all_pass test (x ∷ xs) = pass_more test x xs (all_pass test xs) (test x) refl

pub status_is : (columns : List Column) (dicts : List (List (List ℕ))) (outcomes : List Outcome) (answers : List Answer) → length answers ≡ length (plans_of outcomes)
    → status (printed columns dicts 1 outcomes answers) ≡ (if count_by has_rows answers == length outcomes then 0 else 1)
status_is columns dicts outcomes answers h =
    let ps = printed columns dicts 1 outcomes answers in
    ap (λ b. if b then 0 else 1) (all_pass is_answered ps)
    ∙ ap (λ m. if m == length ps then 0 else 1) (answered_count columns dicts 1 outcomes answers h)
    ∙ ap (λ m. if count_by has_rows answers == m then 0 else 1) (statement_count columns dicts 1 outcomes answers h)

-- no more are answered than there are statements
pub few_answered : (outcomes : List Outcome) (answers : List Answer) → length answers ≡ length (plans_of outcomes) → count_by has_rows answers ≤ length outcomes
few_answered outcomes answers h =
    let few = count_by-le-length is_answered (printed [] [] 1 outcomes answers) in
    omega (arith, few, answered_count [] [] 1 outcomes answers h, statement_count [] [] 1 outcomes answers h)
