-- The statements of a batch.
use Rattle.std.specs.Prelude.{◌≤◌, ◌-◌, ℕ, true, List, map, take, drop}
use Rattle.sql_tokens.specs.Statements.{marks, start_of, statements}
use Rattle.sql_tokens.specs.declared.span.Span.{Span}
use Rattle.sql_tokens.specs.declared.statements.Mode.TheVariants.{Plain}

-- where the statements of a batch stand
abbrev pub spans_in : List ℕ → List Span
spans_in batch = statements (start_of batch) (start_of batch) true (marks Plain (drop (start_of batch) batch))

-- the bytes of a span
abbrev pub part : List ℕ → Span → List ℕ
part batch span = take (span.to - span.from) (drop span.from batch)

-- the texts of the statements of a batch, in their order
abbrev pub statements_in : List ℕ → List (List ℕ)
statements_in batch = map (part batch) (spans_in batch)

-- a span of a text of so many bytes
pub record IsSpanIn (len : ℕ) (span : Span) : Type 0 where
  pub rises : span.from ≤ span.to
  pub there : span.to ≤ len
