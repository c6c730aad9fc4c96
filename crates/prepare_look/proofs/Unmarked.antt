-- A text without a byte order mark.
use Rattle.std.proofs.Common.{◌≡◌, ◌<◌, ◌≤◌, ℕ, List, length, drop, get_or, refl, arith}
use Rattle.std.specs.Prelude.{[], ◌∷◌, if◌then◌else◌}
use Rattle.csv.specs.Reading.{is_bom, strip_bom}

pub strip-short : (xs : List ℕ) → length xs < 3 → strip_bom xs ≡ xs
unfolding strip_bom
strip-short [] h = refl
strip-short (a ∷ []) h = refl
strip-short (a ∷ b ∷ []) h = refl
strip-short (a ∷ b ∷ c ∷ rest) h = absurd (omega arith)

pub strip-long : (xs : List ℕ) → 3 ≤ length xs → strip_bom xs ≡ (if is_bom (get_or xs 0 0) (get_or xs 1 0) (get_or xs 2 0) then drop 3 xs else xs)
unfolding strip_bom
strip-long [] h = absurd (omega arith)
strip-long (a ∷ []) h = absurd (omega arith)
strip-long (a ∷ b ∷ []) h = absurd (omega arith)
strip-long (a ∷ b ∷ c ∷ rest) h = refl
