-- Fields cut at a power of ten, and digits without the zeros in front.
use Rattle.std.proofs.Common.{◌≡◌, ◌+◌, ◌-◌, ◌<◌, ◌≤◌, ℕ, zero, suc, true, false, Some, None, List, [], ◌∷◌, length, take, drop, get_or, refl, ap, inl, inr, arith}
use Rattle.std.proofs.lemmas.Bool.{cases_Bool}
use Rattle.std.specs.Prelude.{◌==◌}
use Rattle.prepare_numbers.specs.Plain.{stripped}
use Rattle.prepare_numbers.specs.Spells.{is_e, mantissa, power}

pub shorter : (xs r : List ℕ) → power xs ≡ Some r → length r < length xs
shorter [] r e = cc e
shorter (x ∷ xs) r e = elim (cases_Bool (is_e x)) [
  | inl so ↦ let same : xs ≡ r = cc (rw so at e) in omega (arith, ap length same)
  | inr not ↦ omega (arith, shorter xs r (rw not at e))
]

pub cut-some : (xs r : List ℕ) → power xs ≡ Some r → take ((length xs - length r) - 1) xs ≡ mantissa xs
cut-some [] r e = cc e
cut-some (x ∷ xs) r e = elim (cases_Bool (is_e x)) [
  | inl so ↦
      let same : xs ≡ r = cc (rw so at e) in
      let none : (length (x ∷ xs) - length r) - 1 ≡ 0 = omega (arith, ap length same) in
      rw (so, none) refl
  | inr not ↦
      let less = shorter xs r (rw not at e) in
      let more : (length (x ∷ xs) - length r) - 1 ≡ suc ((length xs - length r) - 1) = omega (arith, less) in
      rw (not, more) (ap (λ (l : List ℕ). x ∷ l) (cut-some xs r (rw not at e)))
]

pub cut-none : (xs : List ℕ) → power xs ≡ None → mantissa xs ≡ xs
cut-none [] e = refl
cut-none (x ∷ xs) e = elim (cases_Bool (is_e x)) [
  | inl so ↦ cc (rw so at e)
  | inr not ↦ rw not (ap (λ (l : List ℕ). x ∷ l) (cut-none xs (rw not at e)))
]

-- ---- zeros in front

pub strip-more : (ds : List ℕ) (i : ℕ) → i + 1 < length ds → (get_or ds i 0 == 48) ≡ true → stripped (drop i ds) ≡ stripped (drop (i + 1) ds)
strip-more [] i lt e = absurd (omega arith)
strip-more (d ∷ []) i lt e = absurd (omega arith)
strip-more (d ∷ f ∷ ds) zero lt e = rw e refl
strip-more (d ∷ f ∷ ds) (suc i) lt e = let p : suc i + 1 ≡ suc (i + 1) = omega arith in rw p (strip-more (f ∷ ds) i (omega arith) e)

pub strip-stop : (ds : List ℕ) (i : ℕ) → (get_or ds i 0 == 48) ≡ false → stripped (drop i ds) ≡ drop i ds
strip-stop [] zero e = refl
strip-stop [] (suc i) e = refl
strip-stop (d ∷ []) zero e = refl
strip-stop (d ∷ f ∷ ds) zero e = rw e refl
strip-stop (d ∷ ds) (suc i) e = strip-stop ds i e

pub strip-last : (ds : List ℕ) (i : ℕ) → length ds ≤ i + 1 → stripped (drop i ds) ≡ drop i ds
strip-last [] zero le = refl
strip-last [] (suc i) le = refl
strip-last (d ∷ []) zero le = refl
strip-last (d ∷ f ∷ ds) zero le = absurd (omega arith)
strip-last (d ∷ ds) (suc i) le = strip-last ds i (omega arith)
