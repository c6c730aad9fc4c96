-- THE OUTPUT of statements over a table of values: what the texts of the statements mean, and nothing of plans or
-- cells.
use Rattle.std.specs.Prelude.{◌≡◌, ◌+◌, ◌⊎◌, ℕ, ℤ, List, [], ◌∷◌, map, Option, Some, None}
use Rattle.table_core.specs.Fitting.{kind_at}
use Rattle.table_core.specs.Value.{Value}
use Rattle.table_core.specs.declared.schema.Column.{Column}
use Rattle.table_core.specs.declared.schema.Kind.{Kind}
use Rattle.table_core.specs.declared.schema.Kind.TheVariants.{Int}
use Rattle.table_core.specs.Answer.{answer}
use Rattle.sql_text.specs.declared.query.QItem.{QItem}
use Rattle.sql_text.specs.declared.query.QItem.TheVariants as item
use Rattle.sql_text.specs.Grammar.{QueryTree}
use Rattle.sql_text.specs.Queries.{HasQuery}
use Rattle.sql_bind.specs.Names.{column_of}
use Rattle.sql_bind.specs.Refusals.{refusal_of}
use Rattle.sql_bind.specs.Meaning.{query_meaning, query_overflow, query_rows}
use Rattle.sql_bind.specs.Statements.{TextCause}
use Rattle.sql_bind.specs.declared.statement.StatementRefusal.{StatementRefusal}
use Rattle.scan_story.specs.declared.entry.Entry.{Entry}
use Rattle.run_output.specs.Refusals.{refusal_line, statement_words, stop_words}
use Rattle.scan_story.specs.declared.cause.Cause.{Cause}
use Rattle.run_output.specs.declared.totals.Totals.{Totals}
use Rattle.run_output.specs.Printed.{Printed, answered, refused, output, status}
use Rattle.run_output.specs.Answers.{overflow_of}

-- the kind in which an item's values are written: a count is a whole number, any other item has the kind of its column
abbrev pub item_kind : List Column → QItem → Kind
item_kind columns item.CountAll = Int
item_kind columns (item.Count c) = Int
item_kind columns (item.Sum c) = kind_at columns (column_of columns c)
item_kind columns (item.Min c) = kind_at columns (column_of columns c)
item_kind columns (item.Max c) = kind_at columns (column_of columns c)
item_kind columns (item.Plain c) = kind_at columns (column_of columns c)

abbrev pub item_kinds : List Column → QueryTree → List Kind
item_kinds columns q = map (item_kind columns) q.items

-- a query without a limit prints its result rows, unless a sum is no number of 64 bits
abbrev pub groups_printed : List Column → List (List Value) → ℕ → QueryTree → Option (ℕ × ℤ) → Printed
groups_printed columns table n q None = answered (answer n (item_kinds columns q) (query_meaning columns q table))
groups_printed columns table n q (Some over) = refused
    (refusal_line n (overflow_of (item_kinds columns q) over.0 over.1))

-- a query with a limit prints its first rows
abbrev pub meaning_printed : List Column → List (List Value) → ℕ → QueryTree → Option ℕ → Printed
meaning_printed columns table n q None = groups_printed columns table n q (query_overflow columns q table)
meaning_printed columns table n q (Some limit) = answered
    (answer n (item_kinds columns q) (query_rows columns q limit table))

-- a query prints its SQL meaning over the whole table, or why it was stopped, where it was
abbrev pub query_printed : List Column → List (List Value) → ℕ → QueryTree → Option Cause → Printed
query_printed columns table n q None = meaning_printed columns table n q q.limit
query_printed columns table n q (Some why) = refused (refusal_line n (stop_words why))

-- WHAT A STATEMENT PRINTS, by its number and its text: the cause for which its text is refused, or what its query
-- prints
abbrev pub Prints : List Column → List (List Value) → ℕ → List ℕ → Option Cause → Printed → Type 0
Prints columns table n text lost printed =
    ((why : StatementRefusal) × TextCause text columns (Some why)
    × (printed ≡ refused (refusal_line n (statement_words why))))
    ⊎ ((q : QueryTree) × HasQuery text q × (refusal_of columns q ≡ None)
    × (printed ≡ query_printed columns table n q lost))

-- what each statement prints, the first one with this number
abbrev pub PrintEach : List Column → List (List Value) → ℕ → List (List ℕ) → List (Option Cause) → List Printed → Type 0
PrintEach columns table n [] [] [] = Unit {0}
PrintEach columns table n (text ∷ texts) (lost ∷ losses) (p ∷ printed) = Prints columns table n text lost p
    × PrintEach columns table (n + 1) texts losses printed
PrintEach columns table n _ _ _ = ⊥

-- THE OUTPUT AND THE STATUS of a run over a table of values: each query that isn't refused prints its SQL meaning over
-- the whole table, each other statement its refusal; statements are numbered from 1
pub record IsOutput (columns : List Column) (table : List (List Value)) (texts : List (List ℕ))
    (losses : List (Option Cause)) (summary : Option Totals) (trace : Option (List Entry)) (ends : ℕ)
    (out : List ℕ) : Type 0 where
  pub printed : List Printed
  pub each : PrintEach columns table 1 texts losses printed
  pub bytes : out ≡ output printed summary trace
  pub status : ends ≡ status printed
