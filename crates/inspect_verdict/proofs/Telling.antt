-- What a run that is told makes of its text: the answers, and what is read.
use Rattle.std.proofs.Common.{◌≡◌, ◌≤◌, ◌^◌, ◌++◌, ℕ, Bool, List, length, length-append, refl, ap, subst, arith}
use Rattle.std.specs.Prelude.{Option, Some, Result, map}
use Rattle.std.specs.List.{AllZip}
use Rattle.table_core.specs.Value.{row_values}
use Rattle.scan_story.specs.declared.cause.Cause.{Cause}
use Rattle.scan_story.specs.declared.entry.Entry.{Entry}
use Rattle.scan_story.specs.declared.setting.PolicyName.{PolicyName}
use Rattle.story_text.specs.Text.{story_text}
use Rattle.scan_story.specs.Views.{past}
use Rattle.query_gather.specs.declared.answer.Answer.{Answer}
use Rattle.run_output.specs.Answers.{printed}
use Rattle.run_stops.specs.Outcomes.{plans_of}
use Rattle.run_output.specs.Output.{IsOutput, PrintEach}
use Rattle.run_output.specs.Printed.{output, status, summary_of}
use Rattle.run_output.proofs.Alone.{output_alone}
use Rattle.run_output.proofs.Prints.{print_each}
use Rattle.run_inputs.specs.declared.inputs.Inputs.{Inputs}
use Rattle.run_ends.specs.Running.{CanRun}
use Rattle.run_ends.specs.Tasks.{totals_of}
use Rattle.inspect_verdict.specs.StatementParts.{IsPlainOrStopped}
use Rattle.inspect_verdict.specs.Plain.{ArePlain}
use Rattle.inspect_verdict.specs.Reading.{HasRead, IsToldBy, statements_text, text_with}
use Rattle.inspect_verdict.specs.Told.{IsRunTold}
use Rattle.inspect_verdict.specs.declared.output_reading.Told.{Told}
use Rattle.inspect_verdict.specs.declared.verdict.Verdict.{Verdict}
use Rattle.inspect_verdict.proofs.Fitting.{query_fits}
use Rattle.inspect_verdict.proofs.VerdictLines.{entries_few, summary_is}
use Rattle.inspect_verdict.proofs.Stopping.{answers_are, losses_are, plain_or, with_losses}

module _ (i : Inputs) (can : CanRun i) (name : PolicyName) (scratch : Bool) (out : List ℕ) (short : length out ≤ 2 ^ 30) (plain : List Answer) (are : ArePlain i.loaded.table.rows (plans_of i.outcomes.items) plain) (story : List Entry) (run : IsRunTold i name scratch out story) where
  -- the answers of the run
  abbrev pub given : List Answer
  given = with_losses i.outcomes.items plain run.losses

  pub given_or : AllZip IsPlainOrStopped plain given
  given_or = plain_or i.loaded.table.rows (past story) i.options.parts (λ n. query_fits story i.options.parts n run.fit) 1 i.outcomes.items plain run.losses are run.lost

  prints : List Answer → List (List ℕ) → List (Option Cause) → Type 0
  prints gs texts ls = PrintEach i.loaded.table.columns (map (row_values i.loaded.dicts.items) i.loaded.table.rows) 1 texts ls (printed i.loaded.table.columns i.loaded.dicts.items 1 i.outcomes.items gs)

  -- the text is what they print
  pub text_is : out ≡ text_with i given story
  text_is =
      let texts = can.statements.0 in
      let columns = i.loaded.table.columns in
      let dicts = i.loaded.dicts.items in
      let values = map (row_values dicts) i.loaded.table.rows in
      let totals = totals_of i.summary story (length i.loaded.table.rows) in
      let ps = printed columns dicts 1 i.outcomes.items given in
      let Each = λ (ls : List (Option Cause)). PrintEach columns values 1 texts ls ps in
      let each : PrintEach columns values 1 texts run.losses ps =
      subst Each (losses_are i.loaded.table.rows (past story) i.options.parts 1 i.outcomes.items plain run.losses are run.lost)
      (print_each columns dicts i.loaded.table.rows can.loaded.1.fits 1 texts i.outcomes.items given can.statements.1
      (answers_are i.loaded.table.rows (past story) i.options.parts 1 i.outcomes.items plain run.losses are run.lost)) in
      let mine : IsOutput columns values texts run.losses totals (Some story) (status ps) (output ps totals (Some story)) = record { printed = ps; each = each; bytes = refl; status = refl } in
      (output_alone columns values texts run.losses totals (Some story) run.status (status ps) out (output ps totals (Some story)) (run.output texts can.statements.1) mine).1

  line : List ℕ
  line = summary_of (printed i.loaded.table.columns i.loaded.dicts.items 1 i.outcomes.items given) (totals_of i.summary story (length i.loaded.table.rows))

  -- so it is read
  pub is_read : (r : Result Told Verdict) → ((answers : List Answer) (line : List ℕ) (es : List Entry) → AllZip IsPlainOrStopped plain answers → HasRead i answers line es out r) → IsToldBy i given story r
  is_read r reads =
      let whole : out ≡ statements_text i given ++ (summary_of (printed i.loaded.table.columns i.loaded.dicts.items 1 i.outcomes.items given) (totals_of i.summary story (length i.loaded.table.rows)) ++ story_text story) = text_is in
      let a = ap length whole in
      let b = length-append (statements_text i given) (summary_of (printed i.loaded.table.columns i.loaded.dicts.items 1 i.outcomes.items given) (totals_of i.summary story (length i.loaded.table.rows)) ++ story_text story) in
      let c = length-append (summary_of (printed i.loaded.table.columns i.loaded.dicts.items 1 i.outcomes.items given) (totals_of i.summary story (length i.loaded.table.rows))) (story_text story) in
      let few : length story ≤ 2 ^ 30 = omega (arith, short, a, b, c, entries_few story) in
      let rows : length i.loaded.table.rows ≤ 2 ^ 32 = omega (arith, can.loaded.1.few_rows) in
      reads given (summary_of (printed i.loaded.table.columns i.loaded.dicts.items 1 i.outcomes.items given) (totals_of i.summary story (length i.loaded.table.rows))) story given_or
      (summary_is i.loaded.table.columns i.loaded.dicts.items i.outcomes.items given story (length i.loaded.table.rows) can.few few rows i.summary) run.fit short whole
