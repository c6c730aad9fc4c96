-- A number whose bits are pushed in from the last one down.
use Rattle.std.proofs.Common.{◌≡◌, ◌<◌, ◌≤◌, ◌+◌, ◌-◌, ◌*◌, ◌^◌, ℕ, zero, suc, Bool, true, false, if◌then◌else◌, arith, refl, sym, ap, ◌∙◌, inl, inr}
use Rattle.std.proofs.lemmas.Bool.{cases_Bool}
use Rattle.std.proofs.Math.Nat.{pow-suc, pow-le-pow_right}
use Rattle.piece_format.specs.Words.{bits}
use Rattle.piece_format.proofs.Bits.{bits-lt, bits-same}

-- the lowest bit, and the others moved down by one
bits-first : (p : ℕ → Bool) (n : ℕ) → bits p (suc n) ≡ bits (λ j. p (suc j)) n + bits (λ j. p (suc j)) n + (if p 0 then 1 else 0)
unfolding bits
bits-first p zero = elim (cases_Bool (p 0)) [ inl t ↦ rw t refl | inr f ↦ rw f refl ]
bits-first p (suc n) = more (p (suc n)) (bits p (suc n)) (bits (λ j. p (suc j)) n) (2 ^ n) (2 ^ suc n) (if p 0 then 1 else 0) (bits-first p n) (pow-suc 2 n)
  where
    more : (b : Bool) (x y half whole z : ℕ) → x ≡ y + y + z → whole ≡ half * 2 → x + (if b then whole else 0) ≡ (y + (if b then half else 0)) + (y + (if b then half else 0)) + z
    more true x y half whole z e f = omega (arith, e, f)
    more false x y half whole z e f = omega (arith, e)

-- the bits from i on are those from i + 1 on, moved up by one, with bit i below
bits-from : (p : ℕ → Bool) (i n : ℕ) → i < n → bits (λ j. p (i + j)) (n - i) ≡ bits (λ j. p (i + 1 + j)) (n - (i + 1)) + bits (λ j. p (i + 1 + j)) (n - (i + 1)) + (if p i then 1 else 0)
bits-from p i n low =
    let m = n - (i + 1) in
    let long : n - i ≡ suc m = omega (arith, low) in
    let above = bits-same (λ j. p (i + suc j)) (λ j. p (i + 1 + j)) m (λ b _. let e : i + suc b ≡ i + 1 + b = omega arith in ap p e) in
    let first : i + 0 ≡ i = omega arith in
    ap (bits (λ j. p (i + j))) long ∙ bits-first (λ j. p (i + j)) m ∙ ap (λ (k : ℕ). k + k + (if p (i + 0) then 1 else 0)) above
    ∙ ap (λ (k : ℕ). bits (λ j. p (i + 1 + j)) m + bits (λ j. p (i + 1 + j)) m + (if p k then 1 else 0)) first

-- no bits yet
pub bits-end : (p : ℕ → Bool) (n : ℕ) → 0 ≡ bits (λ j. p (n + j)) (n - n)
unfolding bits
bits-end p n = let none : n - n ≡ 0 = omega arith in sym (ap (bits (λ j. p (n + j))) none)

-- there is room for one more
pub bits-few : (p : ℕ → Bool) (i n word : ℕ) → n ≤ 64 → 0 < i → word ≡ bits (λ j. p (i + j)) (n - i) → word < 2 ^ 63
bits-few p i n word few some is =
    let low = bits-lt (λ j. p (i + j)) (n - i) in
    let less : n - i ≤ 63 = omega (arith, few, some) in
    let most = let two : 0 < 2 = omega arith in pow-le-pow_right two less in
    omega (arith, low, is, most)

-- one bit more
pub bits-pushed : (p : ℕ → Bool) (i n word more : ℕ) (set : Bool) → 0 < i → i ≤ n → word ≡ bits (λ j. p (i + j)) (n - i) → set ≡ p (i - 1) → more ≡ word + word + (if set then 1 else 0)
    → more ≡ bits (λ j. p (i - 1 + j)) (n - (i - 1))
bits-pushed p i n word more set some within is bit e =
    let k = i - 1 in
    let next : i ≡ k + 1 = omega (arith, some) in
    let above = is ∙ ap (λ (m : ℕ). bits (λ j. p (m + j)) (n - m)) next in
    e ∙ ap (λ b. word + word + (if b then 1 else 0)) bit ∙ ap (λ (w : ℕ). w + w + (if p k then 1 else 0)) above ∙ sym (bits-from p k n (omega (arith, some, within)))

-- all bits
pub bits-all : (p : ℕ → Bool) (i n word : ℕ) → i ≤ 0 → word ≡ bits (λ j. p (i + j)) (n - i) → word ≡ bits p n
bits-all p i n word none is =
    let first : i ≡ 0 = omega (arith, none) in
    let long : n - 0 ≡ n = omega arith in
    is ∙ ap (λ (m : ℕ). bits (λ j. p (m + j)) (n - m)) first ∙ ap (bits (λ j. p (0 + j))) long ∙ bits-same (λ j. p (0 + j)) p n (λ b _. let e : 0 + b ≡ b = omega arith in ap p e)
