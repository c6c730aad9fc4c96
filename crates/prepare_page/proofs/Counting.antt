-- Definitions by recursion over records and fields, where a loop stands in the middle of them.
use Rattle.std.proofs.Common.{◌≡◌, ◌+◌, ◌<◌, ◌≤◌, ℕ, zero, suc, true, false, List, [], ◌∷◌, length, drop, replicate, refl, ap, ◌∙◌, add-one, drop-cons, drop_of_length-le}
use Rattle.std.specs.Prelude.{nat_le, slice_index_or}
use Rattle.prepare_look.specs.Lines.{one_if}
use Rattle.prepare_look.specs.Rows.{Row}
use Rattle.prepare_page.specs.Titles.{filled, names_in, titles_from}

pub filled-more : (fs : List (List ℕ)) (i : ℕ) → i < length fs
    → filled (drop i fs) ≡ one_if (nat_le 1 (length (slice_index_or fs i []))) + filled (drop (i + 1) fs)
unfolding filled
filled-more fs i h = rw (add-one, drop-cons fs i [] h) refl

pub filled-done : (fs : List (List ℕ)) (i : ℕ) → length fs ≤ i → filled (drop i fs) ≡ 0
unfolding filled
filled-done fs i h = rw (drop_of_length-le fs h) refl

pub zero-counts : (z n i : ℕ) → slice_index_or (replicate n z) i z ≡ z
zero-counts z zero i = refl
zero-counts z (suc n) zero = refl
zero-counts z (suc n) (suc i) = zero-counts z n i

pub zero-in : (counts : List ℕ) (m : ℕ) → counts ≡ replicate m 0 → (n : ℕ) → slice_index_or counts n 0 ≡ 0
zero-in counts m e n = ap (λ (l : List ℕ). slice_index_or l n 0) e ∙ zero-counts 0 m n

-- ---- titles

pub titles_here : (width before : ℕ) (row : Row) (rows : List Row) → names_in width row.fields ≡ true → titles_from width before (row ∷ rows) ≡ before
unfolding titles_from
titles_here width before row rows h = rw h refl

pub titles_next : (width before : ℕ) (row : Row) (rows : List Row) → names_in width row.fields ≡ false
    → titles_from width before (row ∷ rows) ≡ titles_from width (before + 1) rows
unfolding titles_from
titles_next width before row rows h = rw h refl

pub titles_none : (width before : ℕ) → titles_from width before [] ≡ 0
unfolding titles_from
titles_none width before = refl
