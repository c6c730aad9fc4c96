-- A groups query over rows of values means what it means over their rows of cells.
use Rattle.std.proofs.Common.{◌≡◌, ◌∙◌, ℕ, List, [], ◌∷◌, map, refl, sym, ap}
use Rattle.std.specs.List.{AllByRecursion}
use Rattle.table_core.specs.Dict.{Rises}
use Rattle.table_core.specs.Value.{row_values}
use Rattle.table_core.specs.declared.cell.Cell.{Cell}
use Rattle.table_core.specs.Answer.{values_of}
use Rattle.table_core.specs.Answer as answers
use Rattle.std.proofs.lemmas.List.Elements.{All-from_recursion}
use Rattle.query_meaning.specs.declared.item.Item.{Item}
use Rattle.query_meaning.specs.Cells.{codes}
use Rattle.query_meaning.specs.Meaning.{group, answer, over, or_else, first_some, keys_of, meaning}
use Rattle.query_meaning.specs.GroupText.{columns_of}
use Rattle.sql_bind.specs.Texts.{texts, AreCellsOf}
use Rattle.sql_bind.specs.Laws.{SameMeaning, SameOverflow, AreReadable}
use Rattle.sql_bind.proofs.Keys.{key_values, IsKey, group-map, group_valid}
use Rattle.sql_bind.proofs.KeyLists.{keys_valid, keys-map}
use Rattle.sql_bind.proofs.Answers.{row-map, over-map, row_readable}

module _ (dicts : List (List (List ℕ))) (rises : AllByRecursion Rises dicts) (items : List Item) (keys : List ℕ) (rows : List (List Cell)) (all : AllByRecursion (AreCellsOf dicts) rows) where
  result_of : (q : List Cell) → IsKey dicts rises keys q
      → map (answer texts (key_values dicts rises keys q) (group texts keys (key_values dicts rises keys q) (map (row_values dicts) rows))) items ≡ values_of dicts (columns_of keys items) (map (answer codes q (group codes keys q rows)) items)
  result_of q v =
      ap (λ rs. map (answer texts (key_values dicts rises keys q) rs) items) (group-map dicts rises keys q v rows all)
      ∙ row-map dicts rises keys items q v (group codes keys q rows) (group_valid dicts rises keys q rows all)

  results_of : (qs : List (List Cell)) → AllByRecursion (IsKey dicts rises keys) qs
      → map (λ q. map (answer texts q (group texts keys q (map (row_values dicts) rows))) items) (map (key_values dicts rises keys) qs) ≡ map (values_of dicts (columns_of keys items)) (map (λ q. map (answer codes q (group codes keys q rows)) items) qs)
  results_of [] v = refl
  results_of (q ∷ qs) v =
      ap (λ r. r ∷ map (λ p. map (answer texts p (group texts keys p (map (row_values dicts) rows))) items) (map (key_values dicts rises keys) qs)) (result_of q v.0)
      ∙ ap (λ rs. values_of dicts (columns_of keys items) (map (answer codes q (group codes keys q rows)) items) ∷ rs) (results_of qs v.1)

  pub same_meaning : SameMeaning dicts items keys rows
  same_meaning =
      sym (ap (map (λ q. map (answer texts q (group texts keys q (map (row_values dicts) rows))) items)) (keys-map dicts rises keys rows all)
      ∙ results_of (keys_of codes keys rows) (keys_valid dicts rises keys rows all))

  over_of : (q : List Cell) → IsKey dicts rises keys q → over texts 1 items (group texts keys (key_values dicts rises keys q) (map (row_values dicts) rows)) ≡ over codes 1 items (group codes keys q rows)
  over_of q v = ap (over texts 1 items) (group-map dicts rises keys q v rows all) ∙ over-map dicts rises 1 items (group codes keys q rows) (group_valid dicts rises keys q rows all)

  first_over : (qs : List (List Cell)) → AllByRecursion (IsKey dicts rises keys) qs
      → first_some (λ q. over texts 1 items (group texts keys q (map (row_values dicts) rows))) (map (key_values dicts rises keys) qs) ≡ first_some (λ q. over codes 1 items (group codes keys q rows)) qs
  first_over [] v = refl
  first_over (q ∷ qs) v =
      ap (λ o. or_else o (first_some (λ p. over texts 1 items (group texts keys p (map (row_values dicts) rows))) (map (key_values dicts rises keys) qs))) (over_of q v.0)
      ∙ ap (or_else (over codes 1 items (group codes keys q rows))) (first_over qs v.1)

  pub same_overflow : SameOverflow dicts items keys rows
  same_overflow =
      sym (ap (first_some (λ q. over texts 1 items (group texts keys q (map (row_values dicts) rows)))) (keys-map dicts rises keys rows all)
      ∙ first_over (keys_of codes keys rows) (keys_valid dicts rises keys rows all))

  results_readable : (qs : List (List Cell)) → AllByRecursion (IsKey dicts rises keys) qs
      → AllByRecursion (answers.AreCellsOf (columns_of keys items) dicts) (map (λ q. map (answer codes q (group codes keys q rows)) items) qs)
  results_readable [] v = tt
  results_readable (q ∷ qs) v = (row_readable dicts rises keys items q v.0 (group codes keys q rows) (group_valid dicts rises keys q rows all), results_readable qs v.1)

  pub readable_results : AreReadable dicts items keys rows
  readable_results = All-from_recursion (answers.AreCellsOf (columns_of keys items) dicts) (meaning codes items keys rows) (results_readable (keys_of codes keys rows) (keys_valid dicts rises keys rows all))
