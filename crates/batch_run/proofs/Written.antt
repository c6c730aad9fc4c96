-- The cells of an answer over rows that were read can be written.
use Rattle.std.proofs.Common.{◌≡◌, ℕ, List, [], ◌∷◌, length, inl, inr}
use Rattle.std.specs.Prelude.{All}
use Rattle.std.specs.List.{AllByRecursion}
use Rattle.std.proofs.lemmas.Bool.{cases_Bool}
use Rattle.std.proofs.lemmas.List.Elements.{All-from_recursion}
use Rattle.table_core.specs.Fitting.{FitsRow}
use Rattle.table_core.specs.Dict.{Rises}
use Rattle.table_core.specs.declared.cell.Cell.{Cell}
use Rattle.table_core.specs.declared.schema.Column.{Column}
use Rattle.piece_format.specs.Shape.{TableShape}
use Rattle.query_meaning.specs.Rows.{Numbered}
use Rattle.sql_bind.specs.Meaning.{matches}
use Rattle.sql_bind.specs.declared.plan.Plan.{Plan}
use Rattle.query_gather.specs.declared.answer.Answer.{Answer}
use Rattle.query_gather.specs.Answer.{CanBeWritten, IsAnswerOver}
use Rattle.query_gather.specs.Partial.{matching, unnumbered}
use Rattle.query_gather.proofs.Written.{can_be_written}
use Rattle.batch_ends.specs.Rows.{FitsShape}

-- what holds of each row that has a shape holds of those that match
matching_hold : (s : TableShape) (P : List Cell → Type 0) (p : Plan) (rows : List (Numbered Cell)) → ((row : List Cell) → FitsShape s row → P row) → AllByRecursion (λ (r : Numbered Cell). FitsShape s r.1) rows
    → AllByRecursion P (unnumbered (matching p rows))
matching_hold s P p [] since each = tt
matching_hold s P p (r ∷ rows) since each = elim (cases_Bool (matches p.cond r.1)) [
  | inl so ↦ rw so (since r.1 each.0, matching_hold s P p rows since each.1)
  | inr not ↦ rw not (matching_hold s P p rows since each.1)
]

pub read_written : (s : TableShape) (columns : List Column) (dicts : List (List (List ℕ))) (p : Plan) (rows : List (Numbered Cell)) (a : Answer) → length dicts ≡ length columns → All Rises dicts
    → ((row : List Cell) → FitsShape s row → FitsRow columns dicts row) → IsAnswerOver p (matching p rows) a → AllByRecursion (λ (r : Numbered Cell). FitsShape s r.1) rows → CanBeWritten dicts p a
read_written s columns dicts p rows a count rises fits answer shaped =
    let Fits = FitsRow columns dicts in
    can_be_written columns dicts p (matching p rows) a count rises (All-from_recursion Fits (unnumbered (matching p rows)) (matching_hold s Fits p rows fits shaped)) answer
