-- Texts that are cut from a run of bytes: one more at the end, and the one at a place.
use Rattle.std.proofs.Common.{◌≡◌, ◌+◌, ◌-◌, ◌≤◌, ◌<◌, ℕ, zero, suc, List, [], ◌∷◌, ◌++◌, arith, refl, length, get_or, take, drop, length-drop}
use Rattle.std.proofs.lemmas.List.{take-append-le, drop-append-le}
use Rattle.std.proofs.Math.Seq.{drop-append_seam, take-length}
use Rattle.table_core.specs.Texts.{cut, CutsAll}

pub cut-length : (start : ℕ) (ends bytes : List ℕ) → length (cut start ends bytes) ≡ length ends
cut-length start [] bytes = refl
cut-length start (end ∷ ends) bytes = omega (arith, cut-length end ends bytes)

pub cut-within : (start : ℕ) (ends : List ℕ) (size : ℕ) → CutsAll start ends size → start ≤ size
cut-within start [] size is = omega arith
cut-within start (end ∷ ends) size is = omega (arith, is.0, cut-within end ends size is.1)

pub cuts-push : (start : ℕ) (ends : List ℕ) (size more : ℕ) → CutsAll start ends size → CutsAll start (ends ++ (size + more) ∷ []) (size + more)
cuts-push start [] size more is = (omega arith, refl)
cuts-push start (end ∷ ends) size more is = (is.0, cuts-push end ends size more is.1)

pub cut-push : (start : ℕ) (ends bytes text : List ℕ) → CutsAll start ends (length bytes)
    → cut start (ends ++ (length bytes + length text) ∷ []) (bytes ++ text) ≡ cut start ends bytes ++ text ∷ []
cut-push start [] bytes text is =
    let n : length bytes + length text - length bytes ≡ length text = omega arith in
    rw (is, drop-append_seam bytes text, n, take-length text) refl
cut-push start (end ∷ ends) bytes text is =
    let within : end ≤ length bytes = cut-within end ends (length bytes) is.1 in
    let low : start ≤ length bytes = omega (arith, is.0) in
    let room : end - start ≤ length (drop start bytes) = omega (arith, length-drop start bytes) in
    rw (drop-append-le start bytes text low, take-append-le (end - start) (drop start bytes) text room, cut-push end ends bytes text is.1) refl

pub cut-get : (start : ℕ) (ends bytes : List ℕ) (i : ℕ) → i < length ends
    → get_or (cut start ends bytes) i [] ≡ take (get_or ends i 0 - get_or (start ∷ ends) i 0) (drop (get_or (start ∷ ends) i 0) bytes)
cut-get start [] bytes i below = absurd (omega arith)
cut-get start (end ∷ ends) bytes zero below = refl
cut-get start (end ∷ ends) bytes (suc i) below = cut-get end ends bytes i (omega arith)

pub cut-rises : (start : ℕ) (ends : List ℕ) (size i : ℕ) → CutsAll start ends size → i < length ends
    → (get_or (start ∷ ends) i 0 ≤ get_or ends i 0) × (get_or ends i 0 ≤ size)
cut-rises start [] size i is below = absurd (omega arith)
cut-rises start (end ∷ ends) size zero is below = (is.0, cut-within end ends size is.1)
cut-rises start (end ∷ ends) size (suc i) is below = cut-rises end ends size i is.1 (omega arith)

pub start-is : (ends : List ℕ) (i : ℕ) → 0 < i → get_or (0 ∷ ends) i 0 ≡ get_or ends (i - 1) 0
start-is ends zero some = absurd (omega arith)
start-is ends (suc i) some = let e : suc i - 1 ≡ i = omega arith in rw e refl
