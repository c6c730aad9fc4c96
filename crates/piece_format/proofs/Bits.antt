-- A number by its bits.
use Rattle.std.proofs.Common.{◌≡◌, ◌∙◌, ◌+◌, ◌-◌, ◌*◌, ◌/◌, ◌^◌, ◌<◌, ◌==◌, ℕ, zero, suc, Bool, true, false, not, nat_le, if◌then◌else◌, arith, refl, ap, inl, inr}
use Rattle.std.proofs.lemmas.Bool.{cases_Bool, cases_lt, le-leb, lt-leb, ne_eqb}
use Rattle.std.proofs.lemmas.Nat.Bits.{bit_at_cat_low, bit_at_cat_high}
use Rattle.std.proofs.Math.Nat.{add_comm, div-eq_of_lt, div-lt_iff_lt-mul, pow-suc}
use Rattle.std.proofs.lemmas.Nat.{pow_pos}
use Rattle.std.specs.Int.{bit_at}
use Rattle.piece_format.specs.Words.{bits}

abbrev one_if : Bool → ℕ
one_if true = 1
one_if false = 0

pub bits-lt : (p : ℕ → Bool) (n : ℕ) → bits p n < 2 ^ n
unfolding bits
bits-lt p zero = omega arith
bits-lt p (suc n) = elim (cases_Bool (p n)) [
  | inl so ↦ rw (so, pow-suc 2 n) (omega (arith, bits-lt p n))
  | inr not ↦ rw (not, pow-suc 2 n) (omega (arith, bits-lt p n))
]

bits-top : (p : ℕ → Bool) (n : ℕ) → bits p (suc n) ≡ one_if (p n) * 2 ^ n + bits p n
unfolding bits
bits-top p n = ap (λ m. bits p n + m) (one_if-pow (p n)) ∙ add_comm (bits p n) (one_if (p n) * 2 ^ n) where
  one_if-pow : (b : Bool) → (if b then 2 ^ n else 0) ≡ one_if b * 2 ^ n
  one_if-pow true = omega arith
  one_if-pow false = omega arith

lowest : (b : Bool) → (bit_at (one_if b) 0 == 1) ≡ b
lowest true = refl
lowest false = refl

-- a bit below the count passes exactly where it is set
pub bit_at-bits : (p : ℕ → Bool) (n b : ℕ) → b < n → (bit_at (bits p n) b == 1) ≡ p b
bit_at-bits p zero b low = absurd (omega arith)
bit_at-bits p (suc n) b low = rw (bits-top p n) (elim (cases_lt b n) [
  | inl below ↦ rw (bit_at_cat_low (one_if (p n)) n (bits p n) b below) (bit_at-bits p n b below)
  | inr top ↦
      let e : n ≡ b = omega arith in
      let z : n - n ≡ 0 = omega arith in
      rw (← e, bit_at_cat_high (one_if (p n)) n (bits p n) n (bits-lt p n) (omega arith), z) (lowest (p n))
])

-- tests that agree below the count have one number
pub bits-same : (p q : ℕ → Bool) (n : ℕ) → ((b : ℕ) → b < n → p b ≡ q b) → bits p n ≡ bits q n
unfolding bits
bits-same p q zero same = refl
bits-same p q (suc n) same = rw (bits-same p q n (λ b low. same b (omega arith)), same n (omega arith)) refl

-- one bit more
pub bits-more : (p : ℕ → Bool) (n : ℕ) → bits p (n + 1) ≡ bits p n + (if p n then 2 ^ n else 0)
unfolding bits
bits-more p n = let e : n + 1 ≡ suc n = omega arith in rw e refl

-- a number has a bit from k on exactly where it is at least 2 ^ k
pub high_bit : (w k : ℕ) → not (w / 2 ^ k == 0) ≡ nat_le (2 ^ k) w
high_bit w k = elim (cases_lt w (2 ^ k)) [
  | inl low ↦ rw (div-eq_of_lt low, lt-leb (2 ^ k) w low) refl
  | inr high ↦
      let some : 0 < 2 ^ k = pow_pos k in
      let ne : w / 2 ^ k ≡ 0 → ⊥ = λ z.
      let below : w < 1 * 2 ^ k = (div-lt_iff_lt-mul {k = 2 ^ k} {x = w} {y = 1} some).0 (omega (arith, z)) in
      omega (arith, below) in
      rw (ne_eqb (w / 2 ^ k) 0 ne, le-leb (2 ^ k) w high) refl
]
