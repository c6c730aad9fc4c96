-- The matching rows of a table are the matching ones of its numbered rows.
use Rattle.std.proofs.Common.{◌≡◌, ◌∙◌, ℕ, ◌+◌, List, [], ◌∷◌, filter, refl, sym, ap, inl, inr}
use Rattle.std.proofs.lemmas.Bool.{cases_Bool}
use Rattle.table_core.specs.declared.cell.Cell.{Cell}
use Rattle.query_meaning.specs.Cells.{codes}
use Rattle.query_meaning.specs.Meaning.{meaning, overflow}
use Rattle.sql_bind.specs.declared.plan.Plan.{Plan}
use Rattle.sql_bind.specs.Meaning.{matches, numbered}
use Rattle.query_gather.specs.declared.answer.Answer.{Answer}
use Rattle.query_gather.specs.declared.answer.Answer.TheVariants.{Rows, Picked, Overflow, Stopped}
use Rattle.query_gather.specs.Partial.{unnumbered, matching}
use Rattle.query_gather.specs.Laws.{AnswersTable}

pub unnumbered_matching : (p : Plan) (n : ℕ) (table : List (List Cell)) → unnumbered (matching p (numbered n table)) ≡ filter (matches p.cond) table
unnumbered_matching p n [] = refl
unnumbered_matching p n (row ∷ table) = elim (cases_Bool (matches p.cond row)) [
  | inl so ↦ rw so (ap (λ rows. row ∷ rows) (unnumbered_matching p (n + 1) table))
  | inr not ↦ rw not (unnumbered_matching p (n + 1) table)
]

-- THE ANSWER OVER THE MATCHING ROWS OF A TABLE IS THAT OVER THE TABLE
pub answer_of_table : (p : Plan) (table : List (List Cell)) (a : Answer) → AnswersTable p table a
answer_of_table p table (Rows r) h = (
  h.0,
  h.1 ∙ ap (meaning codes p.items.items p.keys.items) (unnumbered_matching p 0 table),
  sym (ap (overflow codes p.items.items p.keys.items) (unnumbered_matching p 0 table)) ∙ h.2,
)
answer_of_table p table (Picked r) h = h
answer_of_table p table (Overflow item total) h = (h.0, sym (ap (overflow codes p.items.items p.keys.items) (unnumbered_matching p 0 table)) ∙ h.1)
answer_of_table p table (Stopped why) h = tt
