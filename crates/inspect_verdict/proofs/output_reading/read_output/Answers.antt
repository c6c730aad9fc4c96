use Rattle.std.proofs.Common.{◌≡◌, ◌∙◌, ◌+◌, ◌++◌, List, ℕ, ap, length, rules, subst}
use Rattle.std.specs.Prelude.{IfNone, IfSome, Option}
use Rattle.std.specs.Borrow.{Bor}
use Rattle.inspect_verdict.specs.Ends.{EndsWith, PartsFrom}
use Rattle.inspect_verdict.specs.Lines.{IsParting}
use Rattle.inspect_verdict.specs.Parts.{LacksPart}
use Rattle.inspect_verdict.specs.Plain.{ArePlain}
use Rattle.inspect_verdict.specs.Reading.{LacksAnswer}
use Rattle.inspect_verdict.specs.StatementParts.{parts_in}
use Rattle.inspect_verdict.specs.declared.part.Part.{Part}
use Rattle.inspect_verdict.specs.declared.parting.Parting.{Parting}
use Rattle.inspect_verdict.proofs.Linewise.{parts_behind}
use Rattle.inspect_verdict.proofs.PartLines.{end_of_end}
use Rattle.query_gather.specs.declared.answer.Answer.{Answer}
use Rattle.run_inputs.specs.declared.inputs.Inputs.{Inputs}
use Rattle.run_stops.specs.Outcomes.{plans_of}
use Rattle.run_stops.specs.declared.outcome.Outcome.{Outcome}
use Rattle.table_core.specs.declared.schema.Column.{Column}
use Rattle.inspect_verdict.proofs.output_reading.read_output.Goals as goal

pub told_at_end-requires-clause-end : goal.told_at_end-requires-clause-end
told_at_end-requires-clause-end c =
    let Ends = λ (o : Option (Bor (List ℕ))). IfSome o (λ b. EndsWith c.args.output.now b.now) in
    end_of_end c.args.output.now c.in-Some.behind.now c.in-Some-behind_summary.trace.now (subst Ends c.in-Some.is c.in_ok-lines.ensures.end) c.in-Some-behind_summary.ensures.end

-- nothing stands for the statement behind so many, and there the text parts from what could stand
lacks_answer : (i : Inputs) (out : List ℕ) (plain : List Answer) (parts : List Part) (n query : ℕ) (end more : List ℕ) (p : Parting) → ArePlain i.loaded.table.rows (plans_of i.outcomes.items) plain
    → parts ≡ parts_in i.loaded.table.columns i.loaded.dicts.items 1 i.outcomes.items plain → LacksPart parts out n end more → query ≡ n + 1
    → ((other : List ℕ) → PartsFrom out other end more → IsParting out other p) → LacksAnswer i out query p
lacks_answer i out plain parts n query end more p are is lacks number parting =
    let Lacks = λ (ps : List Part). LacksPart ps out n end more in
    let here = subst Lacks is lacks in
    record {
      answers = plain;
      plain = are;
      place = n;
      number = number;
      end = end;
      more = more;
      lacks = here;
      parting = parting (here.front ++ here.part.text) (parts_behind out here.front here.rest here.part.text end more here.text_is here.parted);
    }

pub returns-in_default-clause-none : goal.returns-in_default-clause-none
returns-in_default-clause-none c =
    let i = c.args.inputs.now in
    let plain = c.args.plain.now in
    let columns = i.loaded.table.columns in
    let dicts = i.loaded.dicts.items in
    let parts : c.deref-3.result.now ≡ parts_in columns dicts 1 i.outcomes.items plain =
    c.deref-3.ensures.value ∙ (c.in_ok-parts.ensures.parts ∙ (ap (λ (s : List Column). parts_in s c.deref.result.now 1 c.deref-2.result.now plain) c.schema-schema.ensures
    ∙ (ap (λ (d : List (List (List ℕ))). parts_in columns d 1 c.deref-2.result.now plain) c.deref.ensures.value ∙ ap (λ (os : List Outcome). parts_in columns dicts 1 os plain) c.deref-2.ensures.value))) in
    let split = c.in_ok-lines.field-0 in
    let n = length split.lines.items in
    let Lacks = λ (o : Option (Bor (List ℕ))). IfNone o (LacksPart c.deref-3.result.now c.args.output.now n split.left.now split.more.now) in
    let count : c.len-query.result ≡ n = search rules in
    lacks_answer i c.args.output.now plain c.deref-3.result.now n (c.len-query.result + 1) split.left.now split.more.now c.in_ok-parting.parting
    c.requires.plain parts (subst Lacks c.in_default.is c.in_ok-lines.ensures.lacks) (ap (λ (k : ℕ). k + 1) count) c.in_ok-parting.ensures
