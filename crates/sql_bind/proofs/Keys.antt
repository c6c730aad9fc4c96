-- The keys of rows of values are those of their rows of cells, and so are their groups.
use Rattle.std.proofs.Common.{◌≡◌, ◌∙◌, ℕ, zero, suc, List, [], ◌∷◌, map, refl, ap, inl, inr}
use Rattle.std.specs.Ordering.{is_eq, ordering_then}
use Rattle.std.specs.Cmp.Lexicographic.{slice_cmp}
use Rattle.std.specs.List.{AllByRecursion}
use Rattle.std.proofs.lemmas.Bool.{cases_Bool}
use Rattle.table_core.specs.Fitting.{dict_at}
use Rattle.table_core.specs.Cell.{cell_cmp}
use Rattle.table_core.specs.Dict.{Rises}
use Rattle.table_core.specs.Value.{Value, value_cmp, value_in, row_values}
use Rattle.table_core.proofs.Rising.{rises-none}
use Rattle.table_core.specs.declared.cell.Cell.{Cell}
use Rattle.query_meaning.specs.Cells.{codes}
use Rattle.query_meaning.specs.Meaning.{cell, key_of, key_cmp, same_key, group}
use Rattle.sql_bind.specs.Texts.{texts, AreCellsOf}
use Rattle.sql_bind.proofs.Stand.{cells_stand, value_at, cell_of}

-- keys stand as their values do
pub keys_stand : (dicts : List (List (List ℕ))) → AllByRecursion Rises dicts → (p q : List Cell) → AreCellsOf dicts p → AreCellsOf dicts q → key_cmp texts (row_values dicts p) (row_values dicts q) ≡ key_cmp codes p q
keys_stand [] rises [] [] v w = refl
keys_stand [] rises [] (b ∷ q) v w = absurd w
keys_stand [] rises (a ∷ p) q v w = absurd v
keys_stand (d ∷ dicts) rises [] q v w = absurd v
keys_stand (d ∷ dicts) rises (a ∷ p) [] v w = absurd w
keys_stand (d ∷ dicts) rises (a ∷ p) (b ∷ q) v w =
    ap (λ o. ordering_then o (slice_cmp value_cmp (row_values dicts p) (row_values dicts q))) (cells_stand d rises.0 a b v.0 w.0)
    ∙ ap (ordering_then (cell_cmp a b)) (keys_stand dicts rises.1 p q v.1 w.1)

-- the dictionaries of key columns
abbrev pub dicts_at : List (List (List ℕ)) → List ℕ → List (List (List ℕ))
dicts_at dicts keys = map (dict_at dicts) keys

pub key_valid : (dicts : List (List (List ℕ))) (keys : List ℕ) (row : List Cell) → AreCellsOf dicts row → AreCellsOf (dicts_at dicts keys) (key_of codes keys row)
key_valid dicts [] row v = tt
key_valid dicts (x ∷ keys) row v = (cell_of dicts row x v, key_valid dicts keys row v)

pub key-map : (dicts : List (List (List ℕ))) (keys : List ℕ) (row : List Cell) → AreCellsOf dicts row → key_of texts keys (row_values dicts row) ≡ row_values (dicts_at dicts keys) (key_of codes keys row)
key-map dicts [] row v = refl
key-map dicts (x ∷ keys) row v =
    ap (λ c. c ∷ key_of texts keys (row_values dicts row)) (value_at dicts row x v) ∙ ap (λ cs. value_in (dict_at dicts x) (cell codes row x) ∷ cs) (key-map dicts keys row v)

module _ (dicts : List (List (List ℕ))) (rises : AllByRecursion Rises dicts) (keys : List ℕ) where
  pub rises_at : (x : ℕ) → Rises (dict_at dicts x)
  rises_at x = at dicts x rises where
    at : (ds : List (List (List ℕ))) (x : ℕ) → AllByRecursion Rises ds → Rises (dict_at ds x)
    at [] x r = rises-none
    at (d ∷ ds) zero r = r.0
    at (d ∷ ds) (suc x) r = at ds x r.1

  key_rises : (ks : List ℕ) → AllByRecursion Rises (dicts_at dicts ks)
  key_rises [] = tt
  key_rises (x ∷ ks) = (rises_at x, key_rises ks)

  -- the value of a key of cells
  abbrev pub key_values : List Cell → List Value
  key_values q = row_values (dicts_at dicts keys) q

  abbrev pub IsKey : List Cell → Type 0
  IsKey q = AreCellsOf (dicts_at dicts keys) q

  pub keeps : (p q : List Cell) → IsKey p → IsKey q → key_cmp texts (key_values p) (key_values q) ≡ key_cmp codes p q
  keeps = keys_stand (dicts_at dicts keys) (key_rises keys)

  pub row_keys_valid : (rows : List (List Cell)) → AllByRecursion (AreCellsOf dicts) rows → AllByRecursion IsKey (map (key_of codes keys) rows)
  row_keys_valid [] all = tt
  row_keys_valid (row ∷ rows) all = (key_valid dicts keys row all.0, row_keys_valid rows all.1)

  pub row_keys-map : (rows : List (List Cell)) → AllByRecursion (AreCellsOf dicts) rows → map (key_of texts keys) (map (row_values dicts) rows) ≡ map key_values (map (key_of codes keys) rows)
  row_keys-map [] all = refl
  row_keys-map (row ∷ rows) all =
      ap (λ q. q ∷ map (key_of texts keys) (map (row_values dicts) rows)) (key-map dicts keys row all.0) ∙ ap (λ qs. key_values (key_of codes keys row) ∷ qs) (row_keys-map rows all.1)

  -- the rows of a key
  pub group-map : (q : List Cell) → IsKey q → (rows : List (List Cell)) → AllByRecursion (AreCellsOf dicts) rows
      → group texts keys (key_values q) (map (row_values dicts) rows) ≡ map (row_values dicts) (group codes keys q rows)
  group-map q v [] all = refl
  group-map q v (row ∷ rows) all =
      let test : same_key texts (key_values q) (key_of texts keys (row_values dicts row)) ≡ same_key codes q (key_of codes keys row) =
      ap is_eq (ap (key_cmp texts (key_values q)) (key-map dicts keys row all.0) ∙ keeps q (key_of codes keys row) v (key_valid dicts keys row all.0)) in
      elim (cases_Bool (same_key codes q (key_of codes keys row))) [
        | inl so ↦ rw (test, so) (ap (λ rs. row_values dicts row ∷ rs) (group-map q v rows all.1))
        | inr not ↦ rw (test, not) (group-map q v rows all.1)
      ]

  pub group_valid : (q : List Cell) (rows : List (List Cell)) → AllByRecursion (AreCellsOf dicts) rows → AllByRecursion (AreCellsOf dicts) (group codes keys q rows)
  group_valid q [] all = tt
  group_valid q (row ∷ rows) all = elim (cases_Bool (same_key codes q (key_of codes keys row))) [
    | inl so ↦ rw so (all.0, group_valid q rows all.1)
    | inr not ↦ rw not (group_valid q rows all.1)
  ]
