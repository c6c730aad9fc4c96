-- What is read of an output.
use Rattle.std.specs.Prelude.{◌≡◌, ◌≢◌, ◌≤◌, ◌+◌, ◌^◌, true, false, ℕ, Bool, List, [], ◌++◌, Some, Result, Ok, Err}
use Rattle.std.specs.Prelude.{codes, length, map, is_some}
use Rattle.std.specs.List.{AllByRecursion, flat_map}
use Rattle.story_text.specs.Reading.{Fits}
use Rattle.story_text.specs.Text.{story_text}
use Rattle.scan_story.specs.declared.entry.Entry.{Entry}
use Rattle.query_gather.specs.declared.answer.Answer.{Answer}
use Rattle.run_output.specs.Answers.{printed}
use Rattle.run_output.specs.Printed.{output, text_in}
use Rattle.run_ends.specs.Tasks.{totals_of}
use Rattle.run_inputs.specs.declared.inputs.Inputs.{Inputs}
use Rattle.inspect_verdict.specs.Ends.{BeginsAtLine}
use Rattle.inspect_verdict.specs.Lines.{IsParting}
use Rattle.inspect_verdict.specs.Parts.{IsHeadedLine, LacksPart, StandsBehind}
use Rattle.inspect_verdict.specs.StatementParts.{parts_in, words_of}
use Rattle.run_stops.specs.Outcomes.{plans_of}
use Rattle.inspect_verdict.specs.Plain.{ArePlain}
use Rattle.inspect_verdict.specs.declared.output_reading.Told.{Told}
use Rattle.inspect_verdict.specs.declared.parting.Parting.{Parting}
use Rattle.inspect_verdict.specs.declared.verdict.Verdict.{Verdict}

-- how the summary begins
abbrev pub summary_head : List ℕ
summary_head = codes "summary: "

-- where there is a summary it is one line that begins so, and else nothing
abbrev pub IsSummaryLine : Bool → List ℕ → Type 0
IsSummaryLine true line = IsHeadedLine (Some summary_head) line
IsSummaryLine false line = line ≡ []

-- THE TRACE of an output: it stands behind the statements, for each of which its plain answer stands, the line of its
-- refusal, or a line that begins as one; and behind the summary line, where there is one
pub record IsTrace (i : Inputs) (out trace : List ℕ) : Type 0 where
  pub answers : List Answer
  pub plain : ArePlain i.loaded.table.rows (plans_of i.outcomes.items) answers
  pub line : List ℕ
  pub summary : IsSummaryLine i.summary line
  pub behind : StandsBehind (parts_in i.loaded.table.columns i.loaded.dicts.items 1 i.outcomes.items answers) out
      (line ++ trace)

-- NO ANSWER: for the statement of this number nothing stands, and there the text parts from what could stand: what
-- stands for those before it, and then its plain answer, or the line of its refusal
pub record LacksAnswer (i : Inputs) (out : List ℕ) (query : ℕ) (p : Parting) : Type 0 where
  pub answers : List Answer
  pub plain : ArePlain i.loaded.table.rows (plans_of i.outcomes.items) answers
  pub place : ℕ
  pub number : query ≡ place + 1
  pub end : List ℕ
  pub more : List ℕ
  pub lacks : LacksPart (parts_in i.loaded.table.columns i.loaded.dicts.items 1 i.outcomes.items answers) out place
      end more
  pub parting : IsParting out (lacks.front ++ lacks.part.text) p

-- NO SUMMARY: something stands for each statement, and behind them, from this line on, no summary line, though one is
-- to stand there
pub record LacksSummary (i : Inputs) (out : List ℕ) (line : ℕ) : Type 0 where
  pub answers : List Answer
  pub plain : ArePlain i.loaded.table.rows (plans_of i.outcomes.items) answers
  pub rest : List ℕ
  pub behind : StandsBehind (parts_in i.loaded.table.columns i.loaded.dicts.items 1 i.outcomes.items answers) out rest
  pub none : (summary more : List ℕ) → IsSummaryLine i.summary summary → rest ≢ summary ++ more
  pub at_line : BeginsAtLine out rest line

-- what the statements print with these answers
abbrev pub statements_text : Inputs → List Answer → List ℕ
statements_text i answers = flat_map text_in
    (printed i.loaded.table.columns i.loaded.dicts.items 1 i.outcomes.items answers)

-- WHAT A RUN PRINTS of what it is given, with these answers and this story: the statements, the summary where it is
-- asked for, the trace
abbrev pub text_with : Inputs → List Answer → List Entry → List ℕ
text_with i answers story =
    output (printed i.loaded.table.columns i.loaded.dicts.items 1 i.outcomes.items answers)
    (totals_of i.summary story (length i.loaded.table.rows)) (Some story)

-- these are the lines, and this is the story
abbrev pub IsToldIn : List Bool → List Entry → Result Told Verdict → Type 0
IsToldIn lines story (Ok t) = (t.lines.items ≡ lines) × (t.story.items ≡ story)
IsToldIn lines story (Err v) = ⊥

-- these lines stand for answers, and this is the story
abbrev pub IsToldBy : Inputs → List Answer → List Entry → Result Told Verdict → Type 0
IsToldBy i answers story r = IsToldIn (map is_some (words_of i.outcomes.items answers)) story r

-- where a text is what the statements print, a summary line and a story, that is what is read of it
abbrev pub HasRead : Inputs → List Answer → List ℕ → List Entry → List ℕ → Result Told Verdict → Type 0
HasRead i answers line story out r =
    IsSummaryLine i.summary line → AllByRecursion Fits story → length out ≤ 2 ^ 30
    → out ≡ statements_text i answers ++ (line ++ story_text story) → IsToldBy i answers story r
