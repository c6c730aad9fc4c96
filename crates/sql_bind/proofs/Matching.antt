-- The rows of cells that match are those whose values match.
use Rattle.std.proofs.Common.{◌≡◌, ◌∙◌, ◌+◌, ◌<◌, ℕ, suc, List, [], ◌∷◌, length, map, filter, refl, sym, ap, arith, inl, inr}
use Rattle.std.specs.Prelude.{Option, Some, None, slice_index_or}
use Rattle.std.specs.List.{AllByRecursion}
use Rattle.std.proofs.lemmas.Bool.{cases_Bool}
use Rattle.table_core.specs.Fitting.{FitsRow, dict_at, kind_at}
use Rattle.table_core.proofs.Fitting.{cell_fits}
use Rattle.table_core.specs.Value.{Value, IsCellOf, row_values}
use Rattle.table_core.specs.declared.cell.Cell.{Cell}
use Rattle.table_core.specs.declared.cell.Cell.TheVariants.{Null}
use Rattle.table_core.specs.declared.schema.Column.{Column}
use Rattle.filter_zones.specs.declared.cond.Cond.{Cond}
use Rattle.query_meaning.specs.Rows.{Numbered}
use Rattle.sql_bind.specs.Texts.{AreCellsOf}
use Rattle.sql_bind.specs.Laws.{numbered_values}
use Rattle.sql_text.specs.Grammar.{Tree}
use Rattle.sql_bind.specs.Bounds.{HasTruth}
use Rattle.sql_bind.specs.Meaning.{is_true, numbered, matches_query, matches}

-- ---- rows that fit

cells_are : (dicts : List (List (List ℕ))) (row : List Cell) → length row ≡ length dicts → ((x : ℕ) → x < length dicts → IsCellOf (dict_at dicts x) (slice_index_or row x Null)) → AreCellsOf dicts row
cells_are [] [] same each = tt
cells_are [] (c ∷ row) same each = absurd (omega arith)
cells_are (d ∷ dicts) [] same each = absurd (omega arith)
cells_are (d ∷ dicts) (c ∷ row) same each = (each 0 (omega arith), cells_are dicts row (omega arith) (λ x low. each (suc x) (omega arith)))

pub cells_fit : (columns : List Column) (dicts : List (List (List ℕ))) (row : List Cell) → length dicts ≡ length columns → FitsRow columns dicts row → AreCellsOf dicts row
cells_fit columns dicts row same fits = cells_are dicts row (fits.width ∙ sym same) (λ x low. cell_fits (kind_at columns x) (dict_at dicts x) (slice_index_or row x Null) (fits.cells x (omega arith)))

module _ (columns : List Column) (dicts : List (List (List ℕ))) (same : length dicts ≡ length columns) (t : Option Tree) (c : Option Cond) (truth : HasTruth columns dicts t c) where
  same_match : (row : List Cell) → FitsRow columns dicts row → matches_query columns t (row_values dicts row) ≡ matches c row
  same_match row fits = by t c truth where
    by : (t : Option Tree) (c : Option Cond) → HasTruth columns dicts t c → matches_query columns t (row_values dicts row) ≡ matches c row
    by None None b = refl
    by None (Some y) b = absurd b
    by (Some x) None b = absurd b
    by (Some x) (Some y) b = sym (ap is_true (b.0 row fits))

  pub matching-map : (rows : List (List Cell)) → AllByRecursion (FitsRow columns dicts) rows → map (row_values dicts) (filter (matches c) rows) ≡ filter (matches_query columns t) (map (row_values dicts) rows)
  matching-map [] all = refl
  matching-map (row ∷ rows) all = elim (cases_Bool (matches c row)) [
    | inl so ↦ rw (same_match row all.0, so) (ap (λ rs. row_values dicts row ∷ rs) (matching-map rows all.1))
    | inr not ↦ rw (same_match row all.0, not) (matching-map rows all.1)
  ]

  pub matching_are : (rows : List (List Cell)) → AllByRecursion (FitsRow columns dicts) rows → AllByRecursion (AreCellsOf dicts) (filter (matches c) rows)
  matching_are [] all = tt
  matching_are (row ∷ rows) all = elim (cases_Bool (matches c row)) [
    | inl so ↦ rw so (cells_fit columns dicts row same all.0, matching_are rows all.1)
    | inr not ↦ rw not (matching_are rows all.1)
  ]

  pub numbered-map : (n : ℕ) (rows : List (List Cell)) → AllByRecursion (FitsRow columns dicts) rows
      → map (numbered_values dicts) (filter (λ (r : Numbered Cell). matches c r.1) (numbered n rows)) ≡ filter (λ (r : Numbered Value). matches_query columns t r.1) (numbered n (map (row_values dicts) rows))
  numbered-map n [] all = refl
  numbered-map n (row ∷ rows) all = elim (cases_Bool (matches c row)) [
    | inl so ↦ rw (same_match row all.0, so) (ap (λ rs. (n, row_values dicts row) ∷ rs) (numbered-map (n + 1) rows all.1))
    | inr not ↦ rw (same_match row all.0, not) (numbered-map (n + 1) rows all.1)
  ]

  pub numbered_are : (n : ℕ) (rows : List (List Cell)) → AllByRecursion (FitsRow columns dicts) rows → AllByRecursion (λ (r : Numbered Cell). AreCellsOf dicts r.1) (filter (λ (r : Numbered Cell). matches c r.1) (numbered n rows))
  numbered_are n [] all = tt
  numbered_are n (row ∷ rows) all = elim (cases_Bool (matches c row)) [
    | inl so ↦ rw so (cells_fit columns dicts row same all.0, numbered_are (n + 1) rows all.1)
    | inr not ↦ rw not (numbered_are (n + 1) rows all.1)
  ]
