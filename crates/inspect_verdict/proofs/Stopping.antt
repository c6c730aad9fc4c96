-- Which queries were stopped.
use Rattle.std.proofs.Common.{◌≡◌, ◌∙◌, ◌<◌, ◌+◌, ◌-◌, ◌∷◌, [], ◌++◌, ℕ, Bool, true, false, List, length, get_or, append_assoc, length-append, refl, sym, ap, subst, arith, inl, inr}
use Rattle.std.specs.Prelude.{◌⊎◌, Option, Some, None, is_some, map}
use Rattle.std.specs.List.{AllZip}
use Rattle.table_core.specs.declared.cell.Cell.{Cell}
use Rattle.scan_story.specs.Views.{History}
use Rattle.scan_story.specs.declared.cause.Cause.{Cause}
use Rattle.scan_story.specs.declared.cause.Cause.TheVariants as cause
use Rattle.sql_bind.specs.declared.plan.Plan.{Plan}
use Rattle.query_gather.specs.Answer.{CanBeWritten, IsAnswer, is_stopped}
use Rattle.query_gather.specs.declared.answer.Answer.{Answer}
use Rattle.query_gather.specs.declared.answer.Answer.TheVariants as answers
use Rattle.batch_plan.specs.declared.task.Task.{Task}
use Rattle.batch_ends.specs.Lost.{IsLostBy, cause_of_query, stop_of}
use Rattle.run_stops.specs.Outcomes.{plans_of}
use Rattle.run_output.specs.Outcomes.{loss_of, losses}
use Rattle.run_stops.specs.declared.outcome.Outcome.{Outcome}
use Rattle.run_stops.specs.declared.outcome.Outcome.TheVariants as outcome
use Rattle.run_ends.specs.Losses.{AreLostBy}
use Rattle.run_ends.specs.Tasks.{tasks_in}
use Rattle.inspect_verdict.specs.StatementParts.{IsPlainOrStopped, words_for, words_of}
use Rattle.inspect_verdict.specs.Plain.{ArePlain}
use Rattle.inspect_verdict.specs.Stops.{answer_with, answers_with, has_line, stop_for, stop_of_task}
use Rattle.inspect_verdict.proofs.Fitting.{FitsWhere}

pub none_given : (stops : List (Option Cause)) → answers_with stops [] ≡ []
none_given [] = refl
none_given (stop ∷ stops) = refl

pub answers-more : (stops : List (Option Cause)) (before : List Answer) (a : Answer) → length before < length stops
    → answers_with stops (before ++ a ∷ []) ≡ answers_with stops before ++ answer_with (get_or stops (length before) None) a ∷ []
answers-more [] before a low = absurd (omega (arith, low))
answers-more (stop ∷ []) [] a low = refl
answers-more (stop ∷ next ∷ stops) [] a low = refl
answers-more (stop ∷ stops) (b ∷ before) a low = ap (λ (l : List Answer). answer_with stop b ∷ l) (answers-more stops before a (omega (arith, low)))

-- ---- one answer

runs_loss : (a : Answer) → is_stopped a ≡ false → loss_of a ≡ None
runs_loss (answers.Rows rows) runs = refl
runs_loss (answers.Picked rows) runs = refl
runs_loss (answers.Overflow item total) runs = refl
runs_loss (answers.Stopped why) runs = absurd cc

runs_stop : (a : Answer) → is_stopped a ≡ false → stop_of a ≡ None
runs_stop (answers.Rows rows) runs = refl
runs_stop (answers.Picked rows) runs = refl
runs_stop (answers.Overflow item total) runs = refl
runs_stop (answers.Stopped why) runs = absurd cc

runs_words : (a : Answer) → is_stopped a ≡ false → is_some (words_for a) ≡ false
runs_words (answers.Rows rows) runs = refl
runs_words (answers.Picked rows) runs = refl
runs_words (answers.Overflow item total) runs = refl
runs_words (answers.Stopped why) runs = absurd cc

runs_plain : (a : Answer) → is_stopped a ≡ false → IsPlainOrStopped a a
runs_plain (answers.Rows rows) runs = refl
runs_plain (answers.Picked rows) runs = refl
runs_plain (answers.Overflow item total) runs = refl
runs_plain (answers.Stopped why) runs = absurd cc

with_loss : (l : Option Cause) (a : Answer) → is_stopped a ≡ false → loss_of (answer_with l a) ≡ l
with_loss None a runs = runs_loss a runs
with_loss (Some why) a runs = refl

with_plain : (l : Option Cause) (a : Answer) → is_stopped a ≡ false → FitsWhere l → IsPlainOrStopped a (answer_with l a)
with_plain None a runs fits = runs_plain a runs
with_plain (Some why) a runs fits = (runs, fits)

with_answer : (rows : List (List Cell)) (p : Plan) (l : Option Cause) (a : Answer) → IsAnswer p rows a → IsAnswer p rows (answer_with l a)
with_answer rows p None a is = is
with_answer rows p (Some why) a is = tt

with_written : (dicts : List (List (List ℕ))) (p : Plan) (l : Option Cause) (a : Answer) → CanBeWritten dicts p a → CanBeWritten dicts p (answer_with l a)
with_written dicts p None a is = is
with_written dicts p (Some why) a is = tt

-- a loss is the stop that the story and the line tell
stop_is : (c l : Option Cause) (a : Answer) (line : Bool) → is_stopped a ≡ false → line ≡ is_some (words_for (answer_with l a)) → (l ≡ c) ⊎ ((c ≡ None) × (l ≡ Some cause.Memory)) → stop_for c line ≡ l
stop_is (Some why) l a line runs is (inl same) = sym same
stop_is (Some why) l a line runs is (inr none) = (let e = none.0 in absurd cc)
stop_is None None a line runs is lost = ap (stop_for None) (is ∙ runs_words a runs)
stop_is None (Some why) a line runs is (inl same) = absurd cc
stop_is None (Some why) a line runs is (inr memory) = ap (stop_for None) is ∙ sym memory.1

-- and a stop is lost gs the story says
stop_lost : (h : History) (parts n : ℕ) (c : Option Cause) (line : Bool) → cause_of_query h parts n ≡ c → IsLostBy h parts n (stop_for c line)
stop_lost h parts n (Some why) line same = inl (sym same)
stop_lost h parts n None true same = inr (same, refl)
stop_lost h parts n None false same = inl (sym same)

with_stop : (l : Option Cause) (a : Answer) → is_stopped a ≡ false → stop_of (answer_with l a) ≡ l
with_stop None a runs = runs_stop a runs
with_stop (Some why) a runs = refl

-- ---- all answers

-- the plain answers, where these statements were lost
abbrev pub with_losses : List Outcome → List Answer → List (Option Cause) → List Answer
with_losses [] gs ls = []
with_losses (outcome.Planned p ∷ os) [] ls = []
with_losses (outcome.Planned p ∷ os) (a ∷ gs) [] = []
with_losses (outcome.Planned p ∷ os) (a ∷ gs) (l ∷ ls) = answer_with l a ∷ with_losses os gs ls
with_losses (outcome.Refused why ∷ os) gs [] = []
with_losses (outcome.Refused why ∷ os) gs (l ∷ ls) = with_losses os gs ls

module _ (rows : List (List Cell)) (h : History) (parts : ℕ) where
  pub losses_are : (n : ℕ) (os : List Outcome) (gs : List Answer) (ls : List (Option Cause)) → ArePlain rows (plans_of os) gs → AreLostBy h parts n os ls → losses os (with_losses os gs ls) ≡ ls
  losses_are n [] gs [] are lost = refl
  losses_are n [] gs (l ∷ ls) are lost = absurd lost
  losses_are n (o ∷ os) gs [] are lost = absurd lost
  losses_are n (outcome.Planned p ∷ os) [] (l ∷ ls) are lost = absurd are
  losses_are n (outcome.Planned p ∷ os) (a ∷ gs) (l ∷ ls) are lost =
      ap (λ (x : Option Cause). x ∷ losses os (with_losses os gs ls)) (with_loss l a are.0.runs) ∙ ap (λ (xs : List (Option Cause)). l ∷ xs) (losses_are (n + 1) os gs ls are.1 lost.1)
  losses_are n (outcome.Refused why ∷ os) gs (l ∷ ls) are lost =
      ap (λ (x : Option Cause). x ∷ losses os (with_losses os gs ls)) (sym lost.0.0) ∙ ap (λ (xs : List (Option Cause)). l ∷ xs) (losses_are (n + 1) os gs ls are lost.1)

  loss_fits : (n : ℕ) (l : Option Cause) → FitsWhere (cause_of_query h parts n) → IsLostBy h parts n l → FitsWhere l
  loss_fits n l fits (inl same) = subst FitsWhere (sym same) fits
  loss_fits n l fits (inr memory) = subst FitsWhere (sym memory.1) tt

  pub plain_or : ((n : ℕ) → FitsWhere (cause_of_query h parts n)) → (n : ℕ) (os : List Outcome) (gs : List Answer) (ls : List (Option Cause)) → ArePlain rows (plans_of os) gs → AreLostBy h parts n os ls
      → AllZip IsPlainOrStopped gs (with_losses os gs ls)
  plain_or fits n [] [] ls are lost = tt
  plain_or fits n [] (a ∷ gs) ls are lost = absurd are
  plain_or fits n (o ∷ os) gs [] are lost = absurd lost
  plain_or fits n (outcome.Planned p ∷ os) [] (l ∷ ls) are lost = absurd are
  plain_or fits n (outcome.Planned p ∷ os) (a ∷ gs) (l ∷ ls) are lost = (with_plain l a are.0.runs (loss_fits n l (fits n) lost.0), plain_or fits (n + 1) os gs ls are.1 lost.1)
  plain_or fits n (outcome.Refused why ∷ os) gs (l ∷ ls) are lost = plain_or fits (n + 1) os gs ls are lost.1

  pub answers_are : (n : ℕ) (os : List Outcome) (gs : List Answer) (ls : List (Option Cause)) → ArePlain rows (plans_of os) gs → AreLostBy h parts n os ls
      → AllZip (λ p a. IsAnswer p rows a) (plans_of os) (with_losses os gs ls)
  answers_are n [] gs ls are lost = tt
  answers_are n (o ∷ os) gs [] are lost = absurd lost
  answers_are n (outcome.Planned p ∷ os) [] (l ∷ ls) are lost = absurd are
  answers_are n (outcome.Planned p ∷ os) (a ∷ gs) (l ∷ ls) are lost = (with_answer rows p l a are.0.answer, answers_are (n + 1) os gs ls are.1 lost.1)
  answers_are n (outcome.Refused why ∷ os) gs (l ∷ ls) are lost = answers_are (n + 1) os gs ls are lost.1

  line_at : (front : List Bool) (b : Bool) (rest : List Bool) (n : ℕ) → length front + 1 ≡ n → has_line (front ++ b ∷ rest) n ≡ b
  line_at front b rest n at = ap (λ (k : ℕ). get_or (front ++ b ∷ rest) k false) (let k : n - 1 ≡ length front = omega (arith, at) in k) ∙ there front
    where
      there : (xs : List Bool) → get_or (xs ++ b ∷ rest) (length xs) false ≡ b
      there [] = refl
      there (x ∷ xs) = there xs

  -- the stops that the story and the lines tell are the losses
  pub stops_same : (lines front : List Bool) (n : ℕ) (os : List Outcome) (gs : List Answer) (ls : List (Option Cause)) → length front + 1 ≡ n → lines ≡ front ++ map is_some (words_of os (with_losses os gs ls))
      → ArePlain rows (plans_of os) gs → AreLostBy h parts n os ls → answers_with (map (stop_of_task h parts lines) (tasks_in n os)) gs ≡ with_losses os gs ls
  stops_same lines front n [] gs ls at is are lost = refl
  stops_same lines front n (o ∷ os) gs [] at is are lost = absurd lost
  stops_same lines front n (outcome.Planned p ∷ os) [] (l ∷ ls) at is are lost = absurd are
  stops_same lines front n (outcome.Planned p ∷ os) (a ∷ gs) (l ∷ ls) at is are lost =
      let b = is_some (words_for (answer_with l a)) in
      let rest = map is_some (words_of os (with_losses os gs ls)) in
      let line : has_line lines n ≡ b = ap (λ (xs : List Bool). has_line xs n) is ∙ line_at front b rest n at in
      let stop : stop_for (cause_of_query h parts n) (has_line lines n) ≡ l = stop_is (cause_of_query h parts n) l a (has_line lines n) are.0.runs line lost.0 in
      let long = length-append front (b ∷ []) in
      let more = stops_same lines (front ++ b ∷ []) (n + 1) os gs ls (omega (arith, at, long)) (is ∙ sym (append_assoc front (b ∷ []) rest)) are.1 lost.1 in
      ap (λ (s : Option Cause). answer_with s a ∷ answers_with (map (stop_of_task h parts lines) (tasks_in (n + 1) os)) gs) stop ∙ ap (λ (xs : List Answer). answer_with l a ∷ xs) more
  stops_same lines front n (outcome.Refused why ∷ os) gs (l ∷ ls) at is are lost =
      let rest = map is_some (words_of os (with_losses os gs ls)) in
      let long = length-append front (false ∷ []) in
      stops_same lines (front ++ false ∷ []) (n + 1) os gs ls (omega (arith, at, long)) (is ∙ sym (append_assoc front (false ∷ []) rest)) are lost.1

  -- ---- what the stops make of the answers

  pub given_lost : (lines : List Bool) (n : ℕ) (os : List Outcome) (gs : List Answer) → ArePlain rows (plans_of os) gs
      → AllZip (λ (t : Task) (a : Answer). IsLostBy h parts t.query (stop_of a)) (tasks_in n os) (answers_with (map (stop_of_task h parts lines) (tasks_in n os)) gs)
  given_lost lines n [] gs are = tt
  given_lost lines n (outcome.Planned p ∷ os) [] are = absurd are
  given_lost lines n (outcome.Planned p ∷ os) (a ∷ gs) are = (
    subst (IsLostBy h parts n) (sym (with_stop (stop_for (cause_of_query h parts n) (has_line lines n)) a are.0.runs)) (stop_lost h parts n (cause_of_query h parts n) (has_line lines n) refl),
    given_lost lines (n + 1) os gs are.1,
  )
  given_lost lines n (outcome.Refused why ∷ os) gs are = given_lost lines (n + 1) os gs are

  pub given_answers : (lines : List Bool) (n : ℕ) (os : List Outcome) (gs : List Answer) → ArePlain rows (plans_of os) gs
      → AllZip (λ p a. IsAnswer p rows a) (plans_of os) (answers_with (map (stop_of_task h parts lines) (tasks_in n os)) gs)
  given_answers lines n [] gs are = tt
  given_answers lines n (outcome.Planned p ∷ os) [] are = absurd are
  given_answers lines n (outcome.Planned p ∷ os) (a ∷ gs) are = (with_answer rows p (stop_for (cause_of_query h parts n) (has_line lines n)) a are.0.answer, given_answers lines (n + 1) os gs are.1)
  given_answers lines n (outcome.Refused why ∷ os) gs are = given_answers lines (n + 1) os gs are

  pub given_written : (dicts : List (List (List ℕ))) (lines : List Bool) (n : ℕ) (os : List Outcome) (gs : List Answer) → AllZip (CanBeWritten dicts) (plans_of os) gs
      → AllZip (CanBeWritten dicts) (plans_of os) (answers_with (map (stop_of_task h parts lines) (tasks_in n os)) gs)
  given_written dicts lines n [] gs are = tt
  given_written dicts lines n (outcome.Planned p ∷ os) [] are = absurd are
  given_written dicts lines n (outcome.Planned p ∷ os) (a ∷ gs) are = (with_written dicts p (stop_for (cause_of_query h parts n) (has_line lines n)) a are.0, given_written dicts lines (n + 1) os gs are.1)
  given_written dicts lines n (outcome.Refused why ∷ os) gs are = given_written dicts lines (n + 1) os gs are
