use Rattle.std.proofs.Common.{◌≡◌, ◌∙◌, ◌≤◌, ◌*◌, ◌+◌, ℕ, List, [], append-nil, length, drop, map, rules, sym, ap, subst, arith}
use Rattle.std.specs.Prelude.{All, IfErr, IfNone, IfOk, IfSome, Option, Result}
use Rattle.std.specs.List.{AllByRecursion, AllZip}
use Rattle.std.proofs.lemmas.List.{length-map}
use Rattle.std.proofs.lemmas.List.Elements.{All-from_recursion}
use Rattle.story_text.specs.Reading.{Fits}
use Rattle.scan_story.specs.Spent.{reads}
use Rattle.story_text.specs.Text.{story_text}
use Rattle.scan_story.specs.Views.{past}
use Rattle.scan_story.specs.declared.entry.Entry.{Entry}
use Rattle.query_gather.specs.Answer.{CanBeWritten}
use Rattle.query_gather.specs.declared.answer.Answer.{Answer}
use Rattle.batch_plan.specs.declared.task.Task.{Task}
use Rattle.batch_ends.specs.Tasks.{IsPlanOfTable}
use Rattle.inspect_verdict.specs.Ends.{BeginsAtLine}
use Rattle.inspect_verdict.specs.Lines.{IsParting}
use Rattle.inspect_verdict.specs.declared.parting.Parting.{Parting}
use Rattle.run_stops.specs.Outcomes.{plans_of}
use Rattle.run_stops.specs.declared.outcome.Outcome.{Outcome}
use Rattle.run_ends.specs.Running.{shape_in}
use Rattle.run_ends.specs.Tasks.{tasks_in}
use Rattle.run_ends.proofs.Tasked.{scans-few, zip-length}
use Rattle.inspect_verdict.specs.Judged.{IsJudged}
use Rattle.inspect_verdict.specs.Plain.{ArePlain, IsPlain}
use Rattle.inspect_verdict.specs.Reading.{IsTrace, text_with}
use Rattle.inspect_verdict.specs.Stops.{stop_of_task}
use Rattle.inspect_verdict.specs.Told.{run_setting}
use Rattle.inspect_verdict.specs.Verdict.{IsOfReading, IsVerdict, left_open}
use Rattle.inspect_verdict.specs.declared.judging.Judged.{Judged}
use Rattle.inspect_verdict.specs.declared.judging.Judged.TheVariants as judged
use Rattle.inspect_verdict.specs.declared.output_reading.Told.{Told}
use Rattle.inspect_verdict.specs.declared.verdict.Verdict.{Verdict}
use Rattle.inspect_verdict.proofs.Given.{names_are, plans_are, tasks_count, tasks_some, written}
use Rattle.inspect_verdict.proofs.Partings.{parts_other}
use Rattle.inspect_verdict.proofs.Placed.{end_low, entry_at, line_low}
use Rattle.inspect_verdict.proofs.Sentence.{answers_lost, answers_now, differs_none, given_is, judged_none, none_told, open_is, refused_none, run_told}
use Rattle.inspect_verdict.proofs.Stopping.{given_written}
use Rattle.inspect_verdict.proofs.verdict.verdict_on.Goals as goal

pub answers_of-requires-clause-plans : goal.answers_of-requires-clause-plans
answers_of-requires-clause-plans c =
    let i = c.args.inputs.now in
    let can = c.requires.can in
    let rows = i.loaded.table.rows in
    let os = i.outcomes.items in
    let Plans = λ (xs : List Outcome). AllByRecursion (IsPlanOfTable i.loaded.table.columns i.loaded.dicts.items) (plans_of xs) in
    (i.loaded.dicts.items, subst Plans (sym c.deref-2.ensures.value) (plans_are i can), can.loaded.1.fits)

pub read_output-requires-clause-columns : goal.read_output-requires-clause-columns
read_output-requires-clause-columns c = names_are c.args.inputs.now c.requires.can

pub read_output-requires-clause-cells : goal.read_output-requires-clause-cells
read_output-requires-clause-cells c =
    let i = c.args.inputs.now in
    let can = c.requires.can in
    let rows = i.loaded.table.rows in
    let os = i.outcomes.items in
    let Plain = λ (xs : List Outcome). ArePlain rows (plans_of xs) c.in_ok-plain.plain.items in
    let are = subst Plain c.deref-2.ensures.value c.in_ok-plain.ensures.plain in
    let d3 = c.deref-3.result.now in
    let Here = λ (gs : List Answer). ArePlain rows (plans_of os) gs in
    let are3 = subst Here (sym c.deref-3.ensures.value) are in
    written i can (plans_of os) d3 are3

pub read_output-requires-clause-plain : goal.read_output-requires-clause-plain
read_output-requires-clause-plain c =
    let i = c.args.inputs.now in
    let rows = i.loaded.table.rows in
    let os = i.outcomes.items in
    let Plain = λ (xs : List Outcome). ArePlain rows (plans_of xs) c.in_ok-plain.plain.items in
    let Here = λ (gs : List Answer). ArePlain rows (plans_of os) gs in
    subst Here (sym c.deref-3.ensures.value) (subst Plain c.deref-2.ensures.value c.in_ok-plain.ensures.plain)

pub returns-in-Err : goal.returns-in-Err
returns-in-Err c =
    let i = c.args.inputs.now in
    let can = c.requires.can in
    let rows = i.loaded.table.rows in
    let os = i.outcomes.items in
    let Plain = λ (xs : List Outcome). ArePlain rows (plans_of xs) c.in_ok-plain.plain.items in
    let are = subst Plain c.deref-2.ensures.value c.in_ok-plain.ensures.plain in
    let d3 = c.deref-3.result.now in
    let Here = λ (gs : List Answer). ArePlain rows (plans_of os) gs in
    let are3 = subst Here (sym c.deref-3.ensures.value) are in
    let r = c.in_ok-told.field-0 in
    let reads_all = c.in_ok-told.ensures.read in
    let v = c.in-Err.verdict in
    let Not = λ (x : Result Told Verdict). IfErr x (IsOfReading i c.args.output.now) in
    record {
      verdict = none_told i c.args.policy c.args.scratch c.args.output.now v (subst Not c.in-Err.is c.in_ok-told.ensures.none)
          (refused_none i can c.args.policy c.args.scratch c.args.output.now c.requires.short d3 are3 r reads_all v c.in-Err.is);
    }

pub overflow_add-line : goal.overflow_add-line
overflow_add-line c =
    let Judges = λ (es : List Entry). IsJudged (run_setting c.args.inputs.now c.args.policy) (shape_in c.args.inputs.now) c.args.scratch es c.in_ok-counts.field-0 in
    let is = subst Judges c.deref-5.ensures.value c.in_ok-counts.ensures in
    let Refused = λ (k : Judged). IsJudged (run_setting c.args.inputs.now c.args.policy) (shape_in c.args.inputs.now) c.args.scratch c.in-Ok.told.story.items k in
    let Begins = λ (x : Result Told Verdict). IfOk x (λ (k : Told). BeginsAtLine c.args.output.now (story_text k.story.items) k.first) in
    let low = line_low c.args.output.now c.in-Ok.told.story.items c.in-Ok.told.first c.in-Illegal.place (subst Begins c.in-Ok.is c.in_ok-told.ensures.end) (subst Refused c.in-Illegal.is is).first.0 in
    omega (arith, low, c.requires.short)

pub overflow_add-at : goal.overflow_add-at
overflow_add-at c =
    let Judges = λ (es : List Entry). IsJudged (run_setting c.args.inputs.now c.args.policy) (shape_in c.args.inputs.now) c.args.scratch es c.in_ok-counts.field-0 in
    let is = subst Judges c.deref-5.ensures.value c.in_ok-counts.ensures in
    let Refused = λ (k : Judged). IsJudged (run_setting c.args.inputs.now c.args.policy) (shape_in c.args.inputs.now) c.args.scratch c.in-Ok.told.story.items k in
    let Begins = λ (x : Result Told Verdict). IfOk x (λ (k : Told). BeginsAtLine c.args.output.now (story_text k.story.items) k.first) in
    let low = line_low c.args.output.now c.in-Ok.told.story.items c.in-Ok.told.first c.in-Unfit.place (subst Begins c.in-Ok.is c.in_ok-told.ensures.end) (subst Refused c.in-Unfit.is is).first.there in
    omega (arith, low, c.requires.short)

pub returns-in-Illegal : goal.returns-in-Illegal
returns-in-Illegal c =
    let i = c.args.inputs.now in
    let can = c.requires.can in
    let rows = i.loaded.table.rows in
    let os = i.outcomes.items in
    let Plain = λ (xs : List Outcome). ArePlain rows (plans_of xs) c.in_ok-plain.plain.items in
    let are = subst Plain c.deref-2.ensures.value c.in_ok-plain.ensures.plain in
    let d3 = c.deref-3.result.now in
    let Here = λ (gs : List Answer). ArePlain rows (plans_of os) gs in
    let are3 = subst Here (sym c.deref-3.ensures.value) are in
    let r = c.in_ok-told.field-0 in
    let reads_all = c.in_ok-told.ensures.read in
    let t = c.in-Ok.told in
    let j = c.in_ok-counts.field-0 in
    let Judges = λ (es : List Entry). IsJudged (run_setting i c.args.policy) (shape_in i) c.args.scratch es j in
    let is = subst Judges c.deref-5.ensures.value c.in_ok-counts.ensures in
    let Refused = λ (k : Judged). IsJudged (run_setting i c.args.policy) (shape_in i) c.args.scratch t.story.items k in
    let refused = subst Refused c.in-Illegal.is is in
    let Begins = λ (x : Result Told Verdict). IfOk x (λ (k : Told). BeginsAtLine c.args.output.now (story_text k.story.items) k.first) in
    let begins = subst Begins c.in-Ok.is c.in_ok-told.ensures.end in
    let Traces = λ (x : Result Told Verdict). IfOk x (λ (k : Told). IsTrace i c.args.output.now (story_text k.story.items)) in
    let Fit = λ (x : Result Told Verdict). IfOk x (λ (k : Told). AllByRecursion Fits k.story.items) in
    let fit = subst Fit c.in-Ok.is c.in_ok-told.ensures.fits in
    record {
      verdict = record {
        none = judged_none i can c.args.policy c.args.scratch c.args.output.now c.requires.short d3 are3 r reads_all t c.in-Ok.is j is
            (λ n a e. let k : judged.Illegal c.in-Illegal.place c.in-Illegal.reason ≡ judged.Legal n a = sym c.in-Illegal.is ∙ e in absurd cc);
        story = t.story.items;
        rest = [];
        trace = subst (λ (l : List ℕ). IsTrace i c.args.output.now l) (sym (append-nil (story_text t.story.items))) (subst Traces c.in-Ok.is c.in_ok-told.ensures.trace);
        refused = refused;
        at_line = subst (λ (l : List ℕ). BeginsAtLine c.args.output.now l (t.first + c.in-Illegal.place)) (sym (append-nil (story_text (drop c.in-Illegal.place t.story.items)))) (entry_at c.args.output.now t.story.items t.first c.in-Illegal.place fit refused.first.0 begins);
      };
    }

pub returns-in-Unfit : goal.returns-in-Unfit
returns-in-Unfit c =
    let i = c.args.inputs.now in
    let can = c.requires.can in
    let rows = i.loaded.table.rows in
    let os = i.outcomes.items in
    let Plain = λ (xs : List Outcome). ArePlain rows (plans_of xs) c.in_ok-plain.plain.items in
    let are = subst Plain c.deref-2.ensures.value c.in_ok-plain.ensures.plain in
    let d3 = c.deref-3.result.now in
    let Here = λ (gs : List Answer). ArePlain rows (plans_of os) gs in
    let are3 = subst Here (sym c.deref-3.ensures.value) are in
    let r = c.in_ok-told.field-0 in
    let reads_all = c.in_ok-told.ensures.read in
    let t = c.in-Ok.told in
    let j = c.in_ok-counts.field-0 in
    let Judges = λ (es : List Entry). IsJudged (run_setting i c.args.policy) (shape_in i) c.args.scratch es j in
    let is = subst Judges c.deref-5.ensures.value c.in_ok-counts.ensures in
    let Refused = λ (k : Judged). IsJudged (run_setting i c.args.policy) (shape_in i) c.args.scratch t.story.items k in
    let refused = subst Refused c.in-Unfit.is is in
    let Begins = λ (x : Result Told Verdict). IfOk x (λ (k : Told). BeginsAtLine c.args.output.now (story_text k.story.items) k.first) in
    let begins = subst Begins c.in-Ok.is c.in_ok-told.ensures.end in
    let Traces = λ (x : Result Told Verdict). IfOk x (λ (k : Told). IsTrace i c.args.output.now (story_text k.story.items)) in
    let Fit = λ (x : Result Told Verdict). IfOk x (λ (k : Told). AllByRecursion Fits k.story.items) in
    let fit = subst Fit c.in-Ok.is c.in_ok-told.ensures.fits in
    record {
      verdict = record {
        none = judged_none i can c.args.policy c.args.scratch c.args.output.now c.requires.short d3 are3 r reads_all t c.in-Ok.is j is
            (λ n a e. let k : judged.Unfit c.in-Unfit.place c.in-Unfit.why ≡ judged.Legal n a = sym c.in-Unfit.is ∙ e in absurd cc);
        story = t.story.items;
        rest = [];
        trace = subst (λ (l : List ℕ). IsTrace i c.args.output.now l) (sym (append-nil (story_text t.story.items))) (subst Traces c.in-Ok.is c.in_ok-told.ensures.trace);
        stray = refused;
        at_line = subst (λ (l : List ℕ). BeginsAtLine c.args.output.now l (t.first + c.in-Unfit.place)) (sym (append-nil (story_text (drop c.in-Unfit.place t.story.items)))) (entry_at c.args.output.now t.story.items t.first c.in-Unfit.place fit refused.first.there begins);
      };
    }

pub left_open-requires : goal.left_open-requires
left_open-requires c =
    let Begins = λ (x : Result Told Verdict). IfOk x (λ (k : Told). BeginsAtLine c.args.output.now (story_text k.story.items) k.first) in
    let low = end_low c.args.output.now c.in-Ok.told.story.items c.in-Ok.told.first (subst Begins c.in-Ok.is c.in_ok-told.ensures.end) in
    omega (arith, low, c.requires.short, ap length c.deref-in-NotWhole.ensures.value)

pub returns-in-NotWhole : goal.returns-in-NotWhole
returns-in-NotWhole c =
    let i = c.args.inputs.now in
    let can = c.requires.can in
    let rows = i.loaded.table.rows in
    let os = i.outcomes.items in
    let Plain = λ (xs : List Outcome). ArePlain rows (plans_of xs) c.in_ok-plain.plain.items in
    let are = subst Plain c.deref-2.ensures.value c.in_ok-plain.ensures.plain in
    let d3 = c.deref-3.result.now in
    let Here = λ (gs : List Answer). ArePlain rows (plans_of os) gs in
    let are3 = subst Here (sym c.deref-3.ensures.value) are in
    let r = c.in_ok-told.field-0 in
    let reads_all = c.in_ok-told.ensures.read in
    let t = c.in-Ok.told in
    let j = c.in_ok-counts.field-0 in
    let Judges = λ (es : List Entry). IsJudged (run_setting i c.args.policy) (shape_in i) c.args.scratch es j in
    let is = subst Judges c.deref-5.ensures.value c.in_ok-counts.ensures in
    let Left = λ (k : Judged). IsJudged (run_setting i c.args.policy) (shape_in i) c.args.scratch t.story.items k in
    let left = subst Left c.in-NotWhole.is is in
    let Traces = λ (x : Result Told Verdict). IfOk x (λ (k : Told). IsTrace i c.args.output.now (story_text k.story.items)) in
    let Begins = λ (x : Result Told Verdict). IfOk x (λ (k : Told). BeginsAtLine c.args.output.now (story_text k.story.items) k.first) in
    let Fit = λ (x : Result Told Verdict). IfOk x (λ (k : Told). AllByRecursion Fits k.story.items) in
    let none = judged_none i can c.args.policy c.args.scratch c.args.output.now c.requires.short d3 are3 r reads_all t c.in-Ok.is j is
    (λ n a e. let k : judged.NotWhole ≡ judged.Legal n a = sym c.in-NotWhole.is ∙ e in absurd cc) in
    let opens = open_is i c.args.policy c.args.scratch c.args.output.now t.story.items t.first none (subst Traces c.in-Ok.is c.in_ok-told.ensures.trace) (subst Begins c.in-Ok.is c.in_ok-told.ensures.end)
    (subst Fit c.in-Ok.is c.in_ok-told.ensures.fits) left.0 left.1 in
    let Is = λ (v : Verdict). IsVerdict i c.args.policy c.args.scratch c.args.output.now v in
    let now : c.left_open.result ≡ left_open t.first t.story.items = c.left_open.ensures ∙ ap (left_open t.first) c.deref-in-NotWhole.ensures.value in
    record { verdict = subst Is (sym now) opens }

pub stops_of-requires-clause-queries : goal.stops_of-requires-clause-queries
stops_of-requires-clause-queries c =
    let i = c.args.inputs.now in
    let can = c.requires.can in
    let rows = i.loaded.table.rows in
    let os = i.outcomes.items in
    let tasks7 : c.deref-7.result.now ≡ tasks_in 1 os = c.deref-7.ensures.value ∙ (c.in_ok-tasks.ensures.tasks ∙ ap (tasks_in 1) c.deref.ensures.value) in
    let Some = λ (ts : List Task). All (λ (t : Task). 1 ≤ t.query) ts in
    subst Some (sym tasks7) (All-from_recursion (λ (t : Task). 1 ≤ t.query) (tasks_in 1 os) (tasks_some 1 os (omega arith)))

pub stops_of-requires-clause-few : goal.stops_of-requires-clause-few
stops_of-requires-clause-few c =
    let i = c.args.inputs.now in
    let can = c.requires.can in
    let rows = i.loaded.table.rows in
    let os = i.outcomes.items in
    let tasks7 : c.deref-7.result.now ≡ tasks_in 1 os = c.deref-7.ensures.value ∙ (c.in_ok-tasks.ensures.tasks ∙ ap (tasks_in 1) c.deref.ensures.value) in
    let n = length os in
    let few : n * i.options.parts ≤ 256 = omega (arith, can.scans) in
    let Few = λ (ts : List Task). All (λ (t : Task). t.query * i.options.parts ≤ 256) ts in
    subst Few (sym tasks7) (scans-few i.options.parts n 1 os few (omega arith))

pub answers_with-requires : goal.answers_with-requires
answers_with-requires c =
    let i = c.args.inputs.now in
    let can = c.requires.can in
    let rows = i.loaded.table.rows in
    let os = i.outcomes.items in
    let Plain = λ (xs : List Outcome). ArePlain rows (plans_of xs) c.in_ok-plain.plain.items in
    let are = subst Plain c.deref-2.ensures.value c.in_ok-plain.ensures.plain in
    let tasks7 : c.deref-7.result.now ≡ tasks_in 1 os = c.deref-7.ensures.value ∙ (c.in_ok-tasks.ensures.tasks ∙ ap (tasks_in 1) c.deref.ensures.value) in
    let f = stop_of_task (past c.deref-6.result.now) i.options.parts c.deref-8.result.now in
    let stops : c.deref-9.result.now ≡ map f c.deref-7.result.now = c.deref-9.ensures.value ∙ c.in_ok-stops.ensures.stops in
    ap length stops ∙ (length-map c.deref-7.result.now f ∙ (ap length tasks7 ∙ (tasks_count 1 os ∙ sym (zip-length (IsPlain rows) (plans_of os) c.in_ok-plain.plain.items are))))

pub parting_from-requires-clause-columns : goal.parting_from-requires-clause-columns
parting_from-requires-clause-columns c = names_are c.args.inputs.now c.requires.can

pub parting_from-requires-clause-cells : goal.parting_from-requires-clause-cells
parting_from-requires-clause-cells c =
    let i = c.args.inputs.now in
    let can = c.requires.can in
    let rows = i.loaded.table.rows in
    let os = i.outcomes.items in
    let Plain = λ (xs : List Outcome). ArePlain rows (plans_of xs) c.in_ok-plain.plain.items in
    let are = subst Plain c.deref-2.ensures.value c.in_ok-plain.ensures.plain in
    let d3 = c.deref-3.result.now in
    let Here = λ (gs : List Answer). ArePlain rows (plans_of os) gs in
    let are3 = subst Here (sym c.deref-3.ensures.value) are in
    let tasks7 : c.deref-7.result.now ≡ tasks_in 1 os = c.deref-7.ensures.value ∙ (c.in_ok-tasks.ensures.tasks ∙ ap (tasks_in 1) c.deref.ensures.value) in
    let t = c.in-Ok.told in
    let same = given_is i.options.parts t.story.items c.deref-6.result.now t.lines.items c.deref-8.result.now os c.deref-7.result.now c.in_ok-stops.stops.items c.deref-9.result.now c.in_ok-plain.plain.items d3
    c.in_ok-answers.answers.items c.deref-10.result.now c.deref-6.ensures.value c.deref-8.ensures.value tasks7 c.in_ok-stops.ensures.stops c.deref-9.ensures.value c.in_ok-answers.ensures.answers c.deref-10.ensures.value c.deref-3.ensures.value in
    let Written = λ (gs : List Answer). AllZip (CanBeWritten i.loaded.dicts.items) (plans_of os) gs in
    subst Written (sym same) (given_written rows (past t.story.items) i.options.parts i.loaded.dicts.items t.lines.items 1 os d3 (written i can (plans_of os) d3 are3))

pub returns-in-Some : goal.returns-in-Some
returns-in-Some c =
    let i = c.args.inputs.now in
    let can = c.requires.can in
    let rows = i.loaded.table.rows in
    let os = i.outcomes.items in
    let Plain = λ (xs : List Outcome). ArePlain rows (plans_of xs) c.in_ok-plain.plain.items in
    let are = subst Plain c.deref-2.ensures.value c.in_ok-plain.ensures.plain in
    let d3 = c.deref-3.result.now in
    let Here = λ (gs : List Answer). ArePlain rows (plans_of os) gs in
    let are3 = subst Here (sym c.deref-3.ensures.value) are in
    let r = c.in_ok-told.field-0 in
    let reads_all = c.in_ok-told.ensures.read in
    let tasks7 : c.deref-7.result.now ≡ tasks_in 1 os = c.deref-7.ensures.value ∙ (c.in_ok-tasks.ensures.tasks ∙ ap (tasks_in 1) c.deref.ensures.value) in
    let t = c.in-Ok.told in
    let same = given_is i.options.parts t.story.items c.deref-6.result.now t.lines.items c.deref-8.result.now os c.deref-7.result.now c.in_ok-stops.stops.items c.deref-9.result.now c.in_ok-plain.plain.items d3
    c.in_ok-answers.answers.items c.deref-10.result.now c.deref-6.ensures.value c.deref-8.ensures.value tasks7 c.in_ok-stops.ensures.stops c.deref-9.ensures.value c.in_ok-answers.ensures.answers c.deref-10.ensures.value c.deref-3.ensures.value in
    let now = answers_now i can c.args.policy c.args.scratch c.args.output.now c.requires.short d3 are3 r reads_all t c.in-Ok.is in
    let text : text_with i now t.story.items ≡ text_with i c.deref-10.result.now c.deref-11.result.now =
    ap (λ (gs : List Answer). text_with i gs t.story.items) (sym same) ∙ ap (λ (es : List Entry). text_with i c.deref-10.result.now es) (sym c.deref-11.ensures.value) in
    let Parts = λ (o : Option Parting). IfSome o (IsParting c.args.output.now (text_with i c.deref-10.result.now c.deref-11.result.now)) in
    let parts = subst Parts c.in-Some.is c.in_ok-other.ensures.parts in
    let At = λ (o : List ℕ). IsParting c.args.output.now o c.in-Some.parting in
    let here = subst At (sym text) parts in
    let Traces = λ (x : Result Told Verdict). IfOk x (λ (k : Told). IsTrace i c.args.output.now (story_text k.story.items)) in
    let j = c.in_ok-counts.field-0 in
    let Judges = λ (es : List Entry). IsJudged (run_setting i c.args.policy) (shape_in i) c.args.scratch es j in
    let is = subst Judges c.deref-5.ensures.value c.in_ok-counts.ensures in
    let Legal = λ (k : Judged). IsJudged (run_setting i c.args.policy) (shape_in i) c.args.scratch t.story.items k in
    let legal = subst Legal c.in-Legal.is is in
    record {
      verdict = record {
        none = differs_none i can c.args.policy c.args.scratch c.args.output.now c.requires.short d3 are3 r reads_all t c.in-Ok.is (parts_other c.args.output.now (text_with i now t.story.items) here.end here.more here.parts);
        story = t.story.items;
        trace = subst Traces c.in-Ok.is c.in_ok-told.ensures.trace;
        legal = legal.0;
        whole = legal.1;
        answers = now;
        lost = answers_lost i can c.args.policy c.args.scratch c.args.output.now c.requires.short d3 are3 r reads_all t c.in-Ok.is legal.0;
        parting = here;
      };
    }

pub returns : goal.returns
returns c =
    let i = c.args.inputs.now in
    let can = c.requires.can in
    let rows = i.loaded.table.rows in
    let os = i.outcomes.items in
    let Plain = λ (xs : List Outcome). ArePlain rows (plans_of xs) c.in_ok-plain.plain.items in
    let are = subst Plain c.deref-2.ensures.value c.in_ok-plain.ensures.plain in
    let d3 = c.deref-3.result.now in
    let Here = λ (gs : List Answer). ArePlain rows (plans_of os) gs in
    let are3 = subst Here (sym c.deref-3.ensures.value) are in
    let r = c.in_ok-told.field-0 in
    let reads_all = c.in_ok-told.ensures.read in
    let t = c.in-Ok.told in
    let j = c.in_ok-counts.field-0 in
    let Judges = λ (es : List Entry). IsJudged (run_setting i c.args.policy) (shape_in i) c.args.scratch es j in
    let is = subst Judges c.deref-5.ensures.value c.in_ok-counts.ensures in
    let tasks7 : c.deref-7.result.now ≡ tasks_in 1 os = c.deref-7.ensures.value ∙ (c.in_ok-tasks.ensures.tasks ∙ ap (tasks_in 1) c.deref.ensures.value) in
    let same = given_is i.options.parts t.story.items c.deref-6.result.now t.lines.items c.deref-8.result.now os c.deref-7.result.now c.in_ok-stops.stops.items c.deref-9.result.now c.in_ok-plain.plain.items d3
    c.in_ok-answers.answers.items c.deref-10.result.now c.deref-6.ensures.value c.deref-8.ensures.value tasks7 c.in_ok-stops.ensures.stops c.deref-9.ensures.value c.in_ok-answers.ensures.answers c.deref-10.ensures.value c.deref-3.ensures.value in
    let now = answers_now i can c.args.policy c.args.scratch c.args.output.now c.requires.short d3 are3 r reads_all t c.in-Ok.is in
    let text : text_with i now t.story.items ≡ text_with i c.deref-10.result.now c.deref-11.result.now =
    ap (λ (gs : List Answer). text_with i gs t.story.items) (sym same) ∙ ap (λ (es : List Entry). text_with i c.deref-10.result.now es) (sym c.deref-11.ensures.value) in
    let Same = λ (o : Option Parting). IfNone o (c.args.output.now ≡ text_with i c.deref-10.result.now c.deref-11.result.now) in
    let whole : c.args.output.now ≡ text_with i now t.story.items = subst Same c.in-None.is c.in_ok-other.ensures.same ∙ sym text in
    let Fit = λ (x : Result Told Verdict). IfOk x (λ (k : Told). AllByRecursion Fits k.story.items) in
    let Legal = λ (k : Judged). IsJudged (run_setting i c.args.policy) (shape_in i) c.args.scratch t.story.items k in
    let legal = subst Legal c.in-Legal.is is in
    let reads_same = c.of.ensures.counts.reads ∙ ap (λ (es : List Entry). reads (past es)) c.deref-in-None.ensures.value in
    record {
      verdict = record {
        story = t.story.items;
        told = run_told i can c.args.policy c.args.scratch c.args.output.now c.requires.short d3 are3 r reads_all t c.in-Ok.is (subst Fit c.in-Ok.is c.in_ok-told.ensures.fits) c.in-Legal.counts c.in-Legal.apart legal whole;
        entries_are = search rules;
        counts_are = legal.3;
        apart_are = legal.4;
        little = λ one none. omega (arith, legal.5 one legal.1 none, legal.4, reads_same);
        reads_are = reads_same;
      };
    }
