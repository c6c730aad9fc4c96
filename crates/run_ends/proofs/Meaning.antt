-- What a run with one policy comes to, from the contract of `answer`.
use Rattle.std.proofs.Common.{◌≡◌, ◌∙◌, ℕ, List, refl, sym, ap, subst}
use Rattle.csv_load.specs.Judged.{Fields}
use Rattle.table_core.specs.declared.schema.Column.{Column}
use Rattle.query_gather.specs.declared.answer.Answer.{Answer}
use Rattle.run_output.specs.Answers.{printed}
use Rattle.run_output.specs.Printed.{status}
use Rattle.run_stops.specs.declared.outcome.Outcome.{Outcome}
use Rattle.run_output.proofs.Prints.{print_each}
use Rattle.run_inputs.specs.declared.inputs.Inputs.{Inputs}
use Rattle.run_ends.specs.Answering.{IsAnswered}
use Rattle.run_ends.specs.Devices.{DepotAt}
use Rattle.run_ends.specs.Running.{CanRun, IsRunOf, text_of}
use Rattle.run_ends.specs.Work.{Work, work}
use Rattle.batch_ends.specs.declared.taken.Taken.{Taken}
use Rattle.scan_story.specs.declared.entry.Entry.{Entry}
use Rattle.run_ends.specs.Policies.{PolicyAt}
use Rattle.run_ends.specs.PolicyRuns.{IsMade}
use Rattle.run_ends.specs.declared.policy_run.PolicyRun.{PolicyRun}

-- a batch that was answered is a run, which ends with the status of its answers
pub is_run : (i : Inputs) (w : Work) (os : List Outcome) (answers : List Answer) (columns : List Column) (dicts : List Fields) → CanRun i → IsAnswered i w os answers columns dicts → IsRunOf i w (text_of i w answers)
is_run i w os answers columns dicts can is = record {
  answers = answers;
  are = is.are;
  prints = refl;
  means = λ tells texts come. record {
    printed = printed i.loaded.table.columns i.loaded.dicts.items 1 i.outcomes.items answers;
    each = print_each i.loaded.table.columns i.loaded.dicts.items i.loaded.table.rows can.loaded.1.fits 1 texts i.outcomes.items answers come (is.right tells);
    bytes = refl;
    status = refl;
  };
}

pub ends_with : (i : Inputs) (w : Work) (os : List Outcome) (answers : List Answer) (columns : List Column) (dicts : List Fields) (ends : ℕ) → CanRun i → IsAnswered i w os answers columns dicts
    → ((columns : List Column) (dicts : List Fields) → ends ≡ status (printed columns dicts 1 os answers)) → IsRunOf i w (ends, (text_of i w answers).1)
ends_with i w os answers columns dicts ends can is ended =
    let same : ends ≡ (text_of i w answers).0 = ended i.loaded.table.columns i.loaded.dicts.items ∙ ap (λ (o : List Outcome). status (printed i.loaded.table.columns i.loaded.dicts.items 1 o answers)) is.outcomes_are in
    subst (λ (n : ℕ). IsRunOf i w (n, (text_of i w answers).1)) (sym same) (is_run i w os answers columns dicts can is)

-- what the workers left of a batch that was answered, under the policy's name, makes a run
pub made : (i : Inputs) (p : PolicyAt) (old new : DepotAt) (run : PolicyRun) (story : List Entry) (taken : List Taken) (os : List Outcome) (answers : List Answer) (columns : List Column) (dicts : List Fields) (ends : ℕ)
    → run.name ≡ p.name → run.story.items ≡ story → run.taken.items ≡ taken → CanRun i → IsAnswered i (work p.name p.cursor old new story taken) os answers columns dicts
    → ((columns : List Column) (dicts : List Fields) → ends ≡ status (printed columns dicts 1 os answers)) → IsMade i p old new run ends
made i p old new run story taken os answers columns dicts ends named story_is taken_is can is ended =
    let w = work p.name p.cursor old new story taken in
    record { name = named; text = (text_of i w answers).1; is_run = rw (story_is, taken_is) (ends_with i w os answers columns dicts ends can is ended) }
