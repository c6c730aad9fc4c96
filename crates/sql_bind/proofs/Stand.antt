-- Cells stand as their values do, and a row's values are those of its cells.
use Rattle.std.proofs.Common.{◌≡◌, ◌∙◌, ◌<◌, ℕ, zero, suc, List, [], ◌∷◌, length, refl, sym, ap}
use Rattle.std.specs.Prelude.{slice_index_or}
use Rattle.std.specs.Ordering.{nat_cmp}
use Rattle.std.specs.declared.cmp.Ordering.{Ordering}
use Rattle.std.specs.declared.cmp.Ordering.TheVariants.{Less, Equal, Greater}
use Rattle.std.proofs.lemmas.Cmp.{ranked, nat_list_cmp_total, tied_itself}
use Rattle.table_core.specs.Fitting.{dict_at}
use Rattle.table_core.specs.Cell.{cell_cmp}
use Rattle.table_core.specs.Dict.{text_cmp, Rises}
use Rattle.table_core.specs.Value.{value_cmp, value_in, row_values, IsCellOf}
use Rattle.table_core.specs.declared.cell.Cell.{Cell}
use Rattle.table_core.specs.declared.cell.Cell.TheVariants.{Null, Int, Code}
use Rattle.table_core.proofs.Rising.{less_greater}
use Rattle.query_meaning.specs.Cells.{codes}
use Rattle.query_meaning.specs.Meaning.{cell}
use Rattle.sql_bind.specs.Texts.{texts, AreCellsOf}

-- the codes of a rising dictionary stand as their texts do
pub codes_stand : (dict : List (List ℕ)) → Rises dict → (j k : ℕ) → j < length dict → k < length dict → nat_cmp j k ≡ text_cmp (slice_index_or dict j []) (slice_index_or dict k [])
codes_stand dict rises j k a b = by (nat_cmp j k) refl where
  by : (o : Ordering) → nat_cmp j k ≡ o → nat_cmp j k ≡ text_cmp (slice_index_or dict j []) (slice_index_or dict k [])
  by Less e = (let l : j < k = ranked j k Less (sym e) in e ∙ sym (rises j k l b))
  by Equal e = (let l : j ≡ k = ranked j k Equal (sym e) in e ∙ sym (ap (λ i. text_cmp (slice_index_or dict i []) (slice_index_or dict k [])) l ∙ tied_itself nat_list_cmp_total (slice_index_or dict k [])))
  by Greater e = (let l : k < j = ranked j k Greater (sym e) in e ∙ sym (less_greater (slice_index_or dict k []) (slice_index_or dict j []) (rises k j l a)))

pub cells_stand : (dict : List (List ℕ)) → Rises dict → (a b : Cell) → IsCellOf dict a → IsCellOf dict b → value_cmp (value_in dict a) (value_in dict b) ≡ cell_cmp a b
cells_stand dict rises Null Null v w = refl
cells_stand dict rises Null (Int n) v w = refl
cells_stand dict rises Null (Code k) v w = refl
cells_stand dict rises (Int m) Null v w = refl
cells_stand dict rises (Int m) (Int n) v w = refl
cells_stand dict rises (Int m) (Code k) v w = refl
cells_stand dict rises (Code j) Null v w = refl
cells_stand dict rises (Code j) (Int n) v w = refl
cells_stand dict rises (Code j) (Code k) v w = sym (codes_stand dict rises j k v w)

-- the value of a row in a column is what its cell there stands for
pub value_at : (dicts : List (List (List ℕ))) (row : List Cell) (x : ℕ) → AreCellsOf dicts row → cell texts (row_values dicts row) x ≡ value_in (dict_at dicts x) (cell codes row x)
value_at [] [] x v = refl
value_at [] (c ∷ row) x v = absurd v
value_at (d ∷ dicts) [] x v = absurd v
value_at (d ∷ dicts) (c ∷ row) zero v = refl
value_at (d ∷ dicts) (c ∷ row) (suc x) v = value_at dicts row x v.1

pub cell_of : (dicts : List (List (List ℕ))) (row : List Cell) (x : ℕ) → AreCellsOf dicts row → IsCellOf (dict_at dicts x) (cell codes row x)
cell_of [] [] x v = tt
cell_of [] (c ∷ row) x v = absurd v
cell_of (d ∷ dicts) [] x v = absurd v
cell_of (d ∷ dicts) (c ∷ row) zero v = v.0
cell_of (d ∷ dicts) (c ∷ row) (suc x) v = cell_of dicts row x v.1
