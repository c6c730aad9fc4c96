-- A comparison of status 1 has its cause in some run.
use Rattle.std.proofs.Common.{◌≡◌, ◌+◌, ◌∷◌, [], ℕ, Bool, true, false, cond, List, Option, Result, Ok, Err, arith, refl, ap, subst, inl, inr}
use Rattle.std.specs.Prelude.{IfOk, max}
use Rattle.std.specs.List.{AllZip, list_all}
use Rattle.std.proofs.lemmas.Bool.{cases_eq}
use Rattle.command_words.specs.Options.{Request}
use Rattle.csv_load.specs.Judged.{Fields}
use Rattle.table_core.specs.declared.schema.Column.{Column}
use Rattle.scan_story.specs.Views.{History, past}
use Rattle.query_gather.specs.Answer.{CanBeWritten}
use Rattle.query_gather.specs.declared.answer.Answer.{Answer}
use Rattle.query_gather.specs.declared.answer.Answer.TheVariants as answer
use Rattle.run_output.specs.Answers.{printed}
use Rattle.run_output.specs.Outcomes.{losses}
use Rattle.run_output.specs.Printed.{is_answered, status}
use Rattle.run_stops.specs.Outcomes.{plans_of}
use Rattle.run_stops.specs.declared.outcome.Outcome.{Outcome}
use Rattle.run_stops.specs.declared.outcome.Outcome.TheVariants as outcome
use Rattle.run_stops.specs.declared.stop.Stop.{Stop}
use Rattle.run_inputs.specs.declared.inputs.Inputs.{Inputs}
use Rattle.run_ends.specs.Deciding.{shown}
use Rattle.run_ends.specs.Devices.{DepotAt, OverShelf}
use Rattle.run_ends.specs.Losses.{AreLostBy}
use Rattle.run_ends.specs.Running.{Text}
use Rattle.run_ends.specs.declared.output.Output.{Output}
use Rattle.run_ends.specs.Compared.{AreRuns, IsCompared, Over}
use Rattle.run_ends.specs.Policies.{PolicyAt}
use Rattle.run_ends.specs.PolicyRuns.{IsMade}
use Rattle.run_ends.specs.Unanswered.{HasCause, LeavesUnanswered, SomeHasNoRows, SomeLeavesUnanswered}
use Rattle.run_ends.specs.declared.policy_run.PolicyRun.{PolicyRun}

module _ (columns : List Column) (dicts : List Fields) (h : History) (parts : ℕ) where
  -- where not all that is printed is an answer, some statement has no rows
  some-unanswered : (n : ℕ) (os : List Outcome) (given : List Answer) → AreLostBy h parts n os (losses os given) → AllZip (CanBeWritten dicts) (plans_of os) given
      → list_all is_answered (printed columns dicts n os given) ≡ false → SomeHasNoRows h parts n os given
  some-unanswered n [] given lost can e = cc e
  some-unanswered n (outcome.Refused why ∷ os) given lost can e = tt
  some-unanswered n (outcome.Planned p ∷ os) [] lost can e = cc e
  some-unanswered n (outcome.Planned p ∷ os) (answer.Rows rows ∷ given) lost can e = inr (some-unanswered (n + 1) os given lost.1 can.1 e)
  some-unanswered n (outcome.Planned p ∷ os) (answer.Picked rows ∷ given) lost can e = inr (some-unanswered (n + 1) os given lost.1 can.1 e)
  some-unanswered n (outcome.Planned p ∷ os) (answer.Overflow item total ∷ given) lost can e = inl can.0
  some-unanswered n (outcome.Planned p ∷ os) (answer.Stopped why ∷ given) lost can e = inl lost.0

not-all : (b : Bool) (n : ℕ) → n ≡ cond b 0 1 → n ≡ 1 → b ≡ false
not-all true n e one = cc (e, one)
not-all false n e one = refl

-- a run that is made with 1 leaves a statement unanswered
leaves-unanswered : (i : Inputs) (p : PolicyAt) (old new : DepotAt) (run : PolicyRun) → IsMade i p old new run 1 → LeavesUnanswered i p old new run
leaves-unanswered i p old new run made =
    let is = made.is_run in
    let columns = i.loaded.table.columns in
    let dicts = i.loaded.dicts.items in
    let e : 1 ≡ status (printed columns dicts 1 i.outcomes.items is.answers) = ap (λ (o : Text). o.0) is.prints in
    record {
      made = made;
      some = some-unanswered columns dicts (past run.story.items) i.options.parts 1 i.outcomes.items is.answers is.are.lost is.are.written
          (not-all (list_all is_answered (printed columns dicts 1 i.outcomes.items is.answers)) 1 e refl);
    }

abbrev text-status : Result Text Stop → ℕ
text-status (Ok o) = o.0
text-status (Err s) = 0

module _ (r : Request) (table batch : Option (List ℕ)) where
  some-run : (ps : List PolicyAt) (old new : DepotAt) (runs : List PolicyRun) (o : Text) → AreRuns r table batch ps old new runs (Ok o) → o.0 ≡ 1 → SomeLeavesUnanswered r table batch ps old runs
  some-run [] old new [] o (same, e) one = let zero : o.0 ≡ 0 = ap (λ (t : Text). t.0) e in cc (zero, one)
  some-run [] old new (run ∷ runs) o are one = absurd are
  some-run (p ∷ ps) old new [] o are one = absurd are
  some-run (p ∷ ps) old new (run ∷ runs) o (inl (between, own, Err s, over, more, e)) one = cc e
  some-run (p ∷ ps) old new (run ∷ runs) o (inl (between, own, Ok rest, over, more, e)) one =
      let is : o.0 ≡ max own rest.0 = ap text-status e in
      let Made = λ (n : ℕ). Over r table batch (λ i. IsMade i p old between run n) in
      elim (cases_eq own 1) [
        | inl here ↦ let ones : Made 1 = subst Made here over in
            (between, inl (record { given = ones.given; is_given = ones.is_given; comes = leaves-unanswered ones.given p old between run ones.comes }))
        | inr other ↦ (
          between,
          inr (
            record { given = over.given; is_given = over.is_given; comes = (own, other, over.comes) },
            some-run ps between new runs rest more (omega (arith, is, one, other)),
          ),
        )
      ]
  some-run (p ∷ ps) old new (run ∷ runs) o (inr (none, e, over)) one = cc e

-- a comparison that writes with 1 has its cause
pub one-cause : (r : Request) (shelf : OverShelf) (ps : List PolicyAt) (old new : DepotAt) (runs : List PolicyRun) (o : Text) → IsCompared r shelf ps old new runs (Ok o) → o.0 ≡ 1 → HasCause r shelf ps old runs
one-cause r shelf [] old new runs o is one = let zero : o.0 ≡ 0 = ap text-status is.writes in cc (zero, one)
one-cause r shelf (p ∷ ps) old new runs o is one = record {
  table = is.table;
  batch = is.batch;
  table_is = is.table_is;
  batch_is = is.batch_is;
  some = elim is.comes [
    | inl (accepted, are) ↦ some-run r is.table is.batch (p ∷ ps) old new runs o are one
    | inr before ↦ absurd before.stops
  ];
}

pub one-has-cause : (r : Request) (shelf : OverShelf) (ps : List PolicyAt) (old new : DepotAt) (runs : List PolicyRun) (ending : Result Output Stop) → IsCompared r shelf ps old new runs (shown ending)
    → IfOk ending (λ o. o.status ≡ 1 → HasCause r shelf ps old runs)
one-has-cause r shelf ps old new runs (Ok o) is = λ one. one-cause r shelf ps old new runs (o.status, o.text) is one
one-has-cause r shelf ps old new runs (Err s) is = tt
