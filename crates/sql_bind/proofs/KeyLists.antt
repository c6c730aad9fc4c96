-- The keys of an answer over rows of values are those over their rows of cells.
use Rattle.std.proofs.Common.{◌≡◌, ◌∙◌, ℕ, List, [], ◌∷◌, map, ap, sym}
use Rattle.std.specs.List.{AllByRecursion}
use Rattle.table_core.specs.Dict.{Rises}
use Rattle.table_core.specs.Value.{row_values}
use Rattle.table_core.specs.declared.cell.Cell.{Cell}
use Rattle.query_meaning.specs.Cells.{codes}
use Rattle.query_meaning.specs.Meaning.{distinct, key_of, keys_of}
use Rattle.sql_bind.specs.Texts.{texts, AreCellsOf}
use Rattle.sql_bind.proofs.Keys.{key_values, IsKey, keeps, row_keys_valid, row_keys-map}
use Rattle.sql_bind.proofs.Maps.{distinct_valid, distinct-map}

module _ (dicts : List (List (List ℕ))) (rises : AllByRecursion Rises dicts) where
  pub keys_valid : (keys : List ℕ) (rows : List (List Cell)) → AllByRecursion (AreCellsOf dicts) rows → AllByRecursion (IsKey dicts rises keys) (keys_of codes keys rows)
  keys_valid [] rows all = distinct_valid codes texts (key_values dicts rises []) (IsKey dicts rises []) (keeps dicts rises []) ([] ∷ map (key_of codes []) rows) (tt, row_keys_valid dicts rises [] rows all)
  keys_valid (x ∷ keys) rows all =
      distinct_valid codes texts (key_values dicts rises (x ∷ keys)) (IsKey dicts rises (x ∷ keys)) (keeps dicts rises (x ∷ keys)) (map (key_of codes (x ∷ keys)) rows) (row_keys_valid dicts rises (x ∷ keys) rows all)

  pub keys-map : (keys : List ℕ) (rows : List (List Cell)) → AllByRecursion (AreCellsOf dicts) rows
      → keys_of texts keys (map (row_values dicts) rows) ≡ map (key_values dicts rises keys) (keys_of codes keys rows)
  keys-map [] rows all =
      ap (λ qs. distinct texts ([] ∷ qs)) (row_keys-map dicts rises [] rows all)
      ∙ sym (distinct-map codes texts (key_values dicts rises []) (IsKey dicts rises []) (keeps dicts rises []) ([] ∷ map (key_of codes []) rows) (tt, row_keys_valid dicts rises [] rows all))
  keys-map (x ∷ keys) rows all =
      ap (distinct texts) (row_keys-map dicts rises (x ∷ keys) rows all)
      ∙ sym (distinct-map codes texts (key_values dicts rises (x ∷ keys)) (IsKey dicts rises (x ∷ keys)) (keeps dicts rises (x ∷ keys)) (map (key_of codes (x ∷ keys)) rows) (row_keys_valid dicts rises (x ∷ keys) rows all))
