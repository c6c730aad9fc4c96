-- The cells of an answer can be written.
use Rattle.std.proofs.Common.{◌≡◌, ◌∙◌, ◌+◌, ℕ, ℤ, false, List, [], ◌∷◌, length, sym, ap, subst, refl, inl, inr}
use Rattle.std.specs.Prelude.{All, Option, Some, None, MatchOption, pos, if◌then◌else◌}
use Rattle.std.proofs.lemmas.Bool.{cases_Bool}
use Rattle.std.specs.List.{AllByRecursion}
use Rattle.std.proofs.lemmas.List.Elements.{recursion_from_All}
use Rattle.table_core.specs.Fitting.{FitsRow}
use Rattle.table_core.specs.Dict.{Rises}
use Rattle.table_core.specs.declared.cell.Cell.{Cell}
use Rattle.table_core.specs.declared.schema.Column.{Column}
use Rattle.table_core.specs.Answer as answers
use Rattle.query_meaning.specs.Cells.{codes}
use Rattle.query_meaning.specs.GroupText as groups_text
use Rattle.query_meaning.specs.RowText as rows_text
use Rattle.query_meaning.specs.Meaning.{first_some, fits, or_else, group, keys_of, over, total, values}
use Rattle.query_meaning.specs.Rows.{Numbered, RowQuery, rows_meaning}
use Rattle.query_meaning.specs.declared.item.Item.{Item}
use Rattle.query_meaning.specs.declared.item.Item.TheVariants as items
use Rattle.sql_bind.specs.Texts.{AreCellsOf}
use Rattle.sql_bind.proofs.Groups.{readable_results}
use Rattle.sql_bind.proofs.Firsts.{readable_rows}
use Rattle.sql_bind.specs.declared.plan.Plan.{Plan}
use Rattle.sql_bind.proofs.Matching.{cells_fit}
use Rattle.query_gather.specs.declared.answer.Answer.{Answer}
use Rattle.query_gather.specs.declared.answer.Answer.TheVariants.{Rows, Picked, Overflow, Stopped}
use Rattle.query_gather.specs.Partial.{unnumbered}
use Rattle.query_gather.specs.Answer.{IsAnswerOver, IsSumOf, CanBeWritten}

-- the item and the total of what doesn't fit
item_in : Option (ℕ × ℤ) → ℕ
item_in None = 0
item_in (Some found) = found.0

total_in : Option (ℕ × ℤ) → ℤ
total_in None = pos 0
total_in (Some found) = found.1

-- the first sum of some rows that doesn't fit is a sum among the items
module _ (rows : List (List Cell)) (item : ℕ) (t : ℤ) where
  over_names : (n : ℕ) (is : List Item) → over codes n is rows ≡ Some (item, t) → IsSumOf n is item × (fits t ≡ false)
  unfolding item_in total_in
  over_names n [] e = cc e
  over_names n (items.Sum x ∷ is) e =
      let first = total codes (values codes x rows) in
      elim (cases_Bool (fits first)) [
        | inl f ↦ let rest = over_names (n + 1) is (sym (ap (λ b. if b then over codes (n + 1) is rows else Some (n, first)) f) ∙ e) in (inr rest.0, rest.1)
        | inr f ↦ let here : Some (n, first) ≡ Some (item, t) = sym (ap (λ b. if b then over codes (n + 1) is rows else Some (n, first)) f) ∙ e in
            (inl (sym (ap item_in here)), subst (λ (z : ℤ). fits z ≡ false) (ap total_in here) f)
      ]
  over_names n (items.CountAll ∷ is) e = over_names (n + 1) is e
  over_names n (items.Count x ∷ is) e = over_names (n + 1) is e
  over_names n (items.Min x ∷ is) e = over_names (n + 1) is e
  over_names n (items.Max x ∷ is) e = over_names (n + 1) is e
  over_names n (items.Key j ∷ is) e = over_names (n + 1) is e

-- so is the first of all groups
module _ (is : List Item) (keys : List ℕ) (rows : List (List Cell)) (item : ℕ) (t : ℤ) where
  first_names : (qs : List (List Cell)) → first_some (λ q. over codes 1 is (group codes keys q rows)) qs ≡ Some (item, t) → IsSumOf 1 is item × (fits t ≡ false)
  first_names [] e = cc e
  first_names (q ∷ qs) e = by (over codes 1 is (group codes keys q rows)) refl (λ rest. first_names qs rest) where
    others : Option (ℕ × ℤ)
    others = first_some (λ p. over codes 1 is (group codes keys p rows)) qs

    Names : Type 0
    Names = IsSumOf 1 is item × (fits t ≡ false)

    by : (o : Option (ℕ × ℤ)) → over codes 1 is (group codes keys q rows) ≡ o → (others ≡ Some (item, t) → Names) → Names
    by None none rest = rest (sym (ap (λ o. or_else o others) none) ∙ e)
    by (Some found) some rest = over_names (group codes keys q rows) item t 1 is (some ∙ sym (ap (λ o. or_else o others) some) ∙ e)

module _ (columns : List Column) (dicts : List (List (List ℕ))) (same : length dicts ≡ length columns) where
  rows_fit : (rows : List (List Cell)) → AllByRecursion (FitsRow columns dicts) rows → AllByRecursion (AreCellsOf dicts) rows
  rows_fit [] fits = tt
  rows_fit (row ∷ rows) fits = (cells_fit columns dicts row same fits.0, rows_fit rows fits.1)

  numbered_fit : (rows : List (Numbered Cell)) → AllByRecursion (FitsRow columns dicts) (unnumbered rows) → AllByRecursion (λ (r : Numbered Cell). AreCellsOf dicts r.1) rows
  numbered_fit [] fits = tt
  numbered_fit (r ∷ rows) fits = (cells_fit columns dicts r.1 same fits.0, numbered_fit rows fits.1)

  pub written : (p : Plan) (rows : List (Numbered Cell)) → AllByRecursion Rises dicts → AllByRecursion (FitsRow columns dicts) (unnumbered rows) → (a : Answer) → IsAnswerOver p rows a → CanBeWritten dicts p a
  written p rows rises fits (Rows r) h =
      let Readable : List (List Cell) → Type 0 = λ rs. All (answers.AreCellsOf (groups_text.columns_of p.keys.items p.items.items) dicts) rs in
      (h.0, subst Readable (sym h.1) (readable_results dicts rises p.items.items p.keys.items (unnumbered rows) (rows_fit (unnumbered rows) fits)))
  written p rows rises fits (Picked r) h = by p.rows h where
    by : (o : Option RowQuery) → MatchOption o ⊥ (λ q. r ≡ rows_meaning codes q rows) → MatchOption o ⊥ (λ q. All (answers.AreCellsOf (rows_text.columns_of q.columns) dicts) r)
    by None m = m
    by (Some q) m =
        let Readable : List (List Cell) → Type 0 = λ rs. All (answers.AreCellsOf (rows_text.columns_of q.columns) dicts) rs in
        subst Readable (sym m) (readable_rows dicts rises q rows (numbered_fit rows fits))
  written p rows rises fits (Overflow item total) h =
      let names = first_names p.items.items p.keys.items (unnumbered rows) item total (keys_of codes p.keys.items (unnumbered rows)) h.1 in
      record { grouped = h.0; sum = names.0; beyond = names.1 }
  written p rows rises fits (Stopped why) h = tt

-- WHAT IS ANSWERED CAN BE WRITTEN
pub can_be_written : (columns : List Column) (dicts : List (List (List ℕ))) (p : Plan) (rows : List (Numbered Cell)) (a : Answer) → length dicts ≡ length columns → All Rises dicts
    → All (FitsRow columns dicts) (unnumbered rows) → IsAnswerOver p rows a → CanBeWritten dicts p a
can_be_written columns dicts p rows a same rises fits h =
    written columns dicts same p rows (recursion_from_All Rises dicts rises) (recursion_from_All (FitsRow columns dicts) (unnumbered rows) fits) a h
