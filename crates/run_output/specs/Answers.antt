-- What statements print, from their plans and answers over cells.
use Rattle.std.specs.Prelude.{◌+◌, ◌-◌, ℕ, ℤ, List, [], ◌∷◌, map, All, Option, Some, None, slice_index_or}
use Rattle.table_core.specs.Value.{places_of}
use Rattle.table_core.specs.declared.cell.Cell.{Cell}
use Rattle.table_core.specs.declared.schema.Column.{Column}
use Rattle.table_core.specs.declared.schema.Kind.{Kind}
use Rattle.table_core.specs.declared.schema.Kind.TheVariants.{Int}
use Rattle.table_core.specs.Answer.{IsColumn, answer, kinds_of, values_of}
use Rattle.query_meaning.specs.GroupText as groups_text
use Rattle.query_meaning.specs.RowText as rows_text
use Rattle.query_meaning.specs.Rows.{RowQuery}
use Rattle.sql_bind.specs.declared.plan.Plan.{Plan}
use Rattle.run_output.specs.Refusals.{overflow_words, refusal_line, statement_words, stop_words}
use Rattle.query_gather.specs.declared.answer.Answer.{Answer}
use Rattle.query_gather.specs.declared.answer.Answer.TheVariants as answers
use Rattle.run_stops.specs.declared.outcome.Outcome.{Outcome}
use Rattle.run_stops.specs.declared.outcome.Outcome.TheVariants as outcome
use Rattle.run_output.specs.Printed.{Printed, answered, refused}

abbrev pub columns_where : Plan → Option RowQuery → List (Option ℕ)
columns_where p None = groups_text.columns_of p.keys.items p.items.items
columns_where p (Some q) = rows_text.columns_of q.columns

-- the columns in which the cells of a plan's result rows are read; a count has none
abbrev pub result_columns : Plan → List (Option ℕ)
result_columns p = columns_where p p.rows

-- these columns are among so many
abbrev pub NamesColumns : ℕ → Plan → Type 0
NamesColumns n p = All (IsColumn n) (result_columns p)

-- why a sum has no answer: its item, counted from 1, and the total, written with the places of the item's kind
abbrev pub overflow_of : List Kind → ℕ → ℤ → List ℕ
overflow_of kinds item total = overflow_words item total (places_of (slice_index_or kinds (item - 1) Int))

-- what result rows print: each cell in its column's kind, its code read in the column's dictionary
abbrev pub rows_printed : List Column → List (List (List ℕ)) → ℕ → Plan → List (List Cell) → Printed
rows_printed columns dicts n p rows = answered
    (answer n (kinds_of columns (result_columns p)) (map (values_of dicts (result_columns p)) rows))

-- what the answer to a plan prints, for the statement of this number
abbrev pub answer_printed : List Column → List (List (List ℕ)) → ℕ → Plan → Answer → Printed
answer_printed columns dicts n p (answers.Rows rows) = rows_printed columns dicts n p rows
answer_printed columns dicts n p (answers.Picked rows) = rows_printed columns dicts n p rows
answer_printed columns dicts n p (answers.Overflow item total) = refused
    (refusal_line n (overflow_of (kinds_of columns (result_columns p)) item total))
answer_printed columns dicts n p (answers.Stopped why) = refused (refusal_line n (stop_words why))

-- what statements print that come to these outcomes, the first one with this number: each one that has a plan takes the
-- next answer
abbrev pub printed : List Column → List (List (List ℕ)) → ℕ → List Outcome → List Answer → List Printed
printed columns dicts n [] answers = []
printed columns dicts n (outcome.Planned p ∷ outcomes) [] = []
printed columns dicts n (outcome.Planned p ∷ outcomes) (a ∷ answers) = answer_printed columns dicts n p a
    ∷ printed columns dicts (n + 1) outcomes answers
printed columns dicts n (outcome.Refused why ∷ outcomes) answers = refused (refusal_line n (statement_words why))
    ∷ printed columns dicts (n + 1) outcomes answers
