-- A table's records, judged one by one.
use Rattle.std.proofs.Common.{◌≡◌, ◌≢◌, ◌+◌, ◌≤◌, ℕ, List, ◌∷◌, length, arith, Fits, w32, sym, refl, inl, inr, None}
use Rattle.std.specs.Prelude.{All}
use Rattle.std.proofs.lemmas.Bool.{cases_eq}
use Rattle.std.proofs.lemmas.Bool.Decides.{nat_tests}
use Rattle.std.proofs.lemmas.List.Elements.{All-head, All-same}
use Rattle.csv_load.specs.Judged.{refusal_of, header_refusal, first_bad_row, row_refusal}
use Rattle.csv_load.specs.declared.limits.TheConstants.{MOST_TEXT_BYTES}
use Rattle.table_sets.specs.declared.limits.TheConstants.{MOST_ROWS}

-- a row of fields that are few enough is counted in 32 bits
pub fits-row : (size : ℕ) (r : List (List ℕ)) (rest all : List (List (List ℕ))) → size ≤ MOST_TEXT_BYTES → all ≡ r ∷ rest → All (λ r. length r ≤ size + 1) all → Fits w32 (length r)
fits-row size r rest all small e short =
    let h = All-head (λ (r : List (List ℕ)). length r ≤ size + 1) r rest (All-same (λ (r : List (List ℕ)). length r ≤ size + 1) (r ∷ rest) all (sym e) short) in omega arith

first-judged : (all rest : List (List (List ℕ))) (r : List (List ℕ)) (width : ℕ) → all ≡ r ∷ rest → width ≡ length r → header_refusal r ≡ None → refusal_of all ≡ first_bad_row width 0 rest
first-judged all rest r width e w none = rw (e, w) (rw none refl)

-- a record that is a row has the width, and is within the limit
pub row-taken : (r : List (List ℕ)) (width count : ℕ) → row_refusal width count r ≡ None → (length r ≡ width) × (count ≢ MOST_ROWS)
row-taken r width count none = elim (cases_eq count MOST_ROWS) [
  | inl full ↦ grind (arith, nat_tests)
  | inr more ↦ elim (cases_eq (length r) width) [
    | inl same ↦ (same, more)
    | inr other ↦ grind (arith, nat_tests)
  ]
]

pub next-judged : (all rest : List (List (List ℕ))) (r : List (List ℕ)) (width count : ℕ) → all ≡ r ∷ rest → row_refusal width count r ≡ None
    → first_bad_row width count all ≡ first_bad_row width (count + 1) rest
next-judged all rest r width count e none = rw e (rw none refl)

pub first-counted : (all rest : List (List (List ℕ))) (r : List (List ℕ)) (width count : ℕ) → all ≡ r ∷ rest → width ≡ length r → header_refusal r ≡ None → count ≡ 0
    → refusal_of all ≡ first_bad_row width count rest
first-counted all rest r width count e w none zero_rows = rw zero_rows (first-judged all rest r width e w none)
