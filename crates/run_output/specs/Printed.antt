-- What statements print, and what a run makes of it: its output and its status.
use Rattle.std.specs.Prelude.{ℕ, Bool, true, false, List, [], ◌++◌, length, Option, Some, None, if◌then◌else◌}
use Rattle.std.specs.List.{flat_map, list_all, count_by}
use Rattle.story_text.specs.Text.{story_text}
use Rattle.scan_story.specs.declared.entry.Entry.{Entry}
use Rattle.run_output.specs.Counts.{summary_line}
use Rattle.run_output.specs.declared.totals.Totals.{Totals}

-- a statement prints the text of its answer, or the line of its refusal
pub data Printed : Type 0 where
  answered : List ℕ → Printed
  refused : List ℕ → Printed

abbrev pub text_in : Printed → List ℕ
text_in (answered text) = text
text_in (refused line) = line

abbrev pub is_answered : Printed → Bool
is_answered (answered text) = true
is_answered (refused line) = false

-- the summary, where it is asked for: the statements, those that are answered, the deliveries, and the rows of the
-- table
abbrev pub summary_of : List Printed → Option Totals → List ℕ
summary_of printed None = []
summary_of printed (Some totals) = summary_line (length printed)
    (count_by is_answered printed) totals.deliveries totals.rows

-- the trace, where it is asked for: a line for each entry of the story
abbrev pub trace_of : Option (List Entry) → List ℕ
trace_of None = []
trace_of (Some story) = story_text story

-- THE OUTPUT of a run: what its statements print, in order, then the summary, then the trace
abbrev pub output : List Printed → Option Totals → Option (List Entry) → List ℕ
output printed summary trace = flat_map text_in printed ++ (summary_of printed summary ++ trace_of trace)

-- THE STATUS of a run that writes its output: 0 where each statement is answered, 1 where one is refused
abbrev pub status : List Printed → ℕ
status printed = if list_all is_answered printed then 0 else 1
