-- The line of a query that was refused: one for each way to be refused, by the words that say why.
use Rattle.std.specs.Prelude.{◌++◌, ℕ, ℤ, List, codes, decimal}
use Rattle.table_core.specs.Value.{number_text, quoted}
use Rattle.scan_story.specs.declared.cause.Cause.{Cause}
use Rattle.scan_story.specs.declared.cause.Cause.TheVariants as cause
use Rattle.sql_tokens.specs.declared.refusal.TextRefusal.{TextRefusal}
use Rattle.sql_tokens.specs.declared.refusal.TextRefusal.TheVariants as text
use Rattle.sql_bind.specs.declared.refusal.BindRefusal.{BindRefusal}
use Rattle.sql_bind.specs.declared.refusal.BindRefusal.TheVariants as bind
use Rattle.sql_bind.specs.declared.statement.StatementRefusal.{StatementRefusal}
use Rattle.sql_bind.specs.declared.statement.StatementRefusal.TheVariants as statement
use Rattle.run_output.specs.Counts.{number_and}

-- a text that is no query
abbrev pub text_words : TextRefusal → List ℕ
text_words text.Syntax = codes "syntax"
text_words text.TooNested = codes "too nested"
text_words text.TooManyItems = codes "too many items"
text_words text.Memory = codes "memory"

-- a query that isn't bound
abbrev pub query_words : BindRefusal → List ℕ
query_words (bind.UnknownTable name) = codes "unknown table " ++ quoted name
query_words (bind.UnknownColumn name) = codes "unknown column " ++ quoted name
query_words (bind.WrongKind name) = codes "wrong kind " ++ quoted name
query_words (bind.NotGrouped name) = codes "not grouped " ++ quoted name
query_words bind.Memory = codes "memory"

-- a statement that is refused for its text or the names in it
abbrev pub statement_words : StatementRefusal → List ℕ
statement_words (statement.Text why) = text_words why
statement_words (statement.Query why) = query_words why

-- a query that was stopped
abbrev pub stop_words : Cause → List ℕ
stop_words (cause.Read before after) = codes "read fault"
stop_words (cause.Damage piece word) = codes "damaged piece " ++ decimal piece
stop_words cause.Memory = codes "memory"

-- the sum of this item is no number of 64 bits: its total, with these places
abbrev pub overflow_words : ℕ → ℤ → ℕ → List ℕ
overflow_words item total places = codes "sum overflow item "
    ++ (number_and item (codes " total ") ++ number_text places total)

-- what stands before the words of a refusal
abbrev pub refusal_head : ℕ → List ℕ
refusal_head query = codes "refused " ++ number_and query (codes ": ")

-- THE LINE OF A REFUSAL of the query of this number, with the words that say why
abbrev pub refusal_line : ℕ → List ℕ → List ℕ
refusal_line query words = refusal_head query ++ (words ++ codes "\n")
