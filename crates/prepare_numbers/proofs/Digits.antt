-- Lists of digits.
use Rattle.std.proofs.Common.{◌≡◌, ◌∙◌, ◌+◌, ◌-◌, ◌*◌, ◌^◌, ℕ, zero, suc, Bool, true, false, List, [], ◌∷◌, ◌++◌, take, drop, refl, sym, ap, inl, inr, arith, pow-suc}
use Rattle.std.proofs.lemmas.Bool.{cases_Bool, eqb-true}
use Rattle.std.proofs.lemmas.Bool.Decides.{nat_tests}
use Rattle.std.specs.Prelude.{◌==◌, ◌&&◌, ◌||◌, not}
use Rattle.std.specs.Char.{is_ascii_digit}
use Rattle.std.specs.List.{list_any}
use Rattle.prepare_numbers.specs.Plain.{is_nonzero, spread, stripped, zeros}
use Rattle.prepare_numbers.specs.Spells.{is_e, is_minus, mantissa, number, number_after, power}
use Rattle.prepare_numbers.specs.Values.{AreDigits, behind, digits_in}

pub found-digits : (xs : List ℕ) → AreDigits (digits_in xs)
found-digits [] = tt
found-digits (b ∷ xs) = elim (cases_Bool (is_ascii_digit b)) [
  | inl so ↦ rw so (so, found-digits xs)
  | inr not ↦ rw not (found-digits xs)
]

pub join-digits : (xs ys : List ℕ) → AreDigits xs → AreDigits ys → AreDigits (xs ++ ys)
join-digits [] ys a b = b
join-digits (x ∷ xs) ys a b = (a.0, join-digits xs ys a.1 b)

pub zeros-digits : (n : ℕ) → AreDigits (zeros n)
zeros-digits zero = tt
zeros-digits (suc n) = (refl, zeros-digits n)

pub take-digits : (n : ℕ) (xs : List ℕ) → AreDigits xs → AreDigits (take n xs)
take-digits zero xs a = tt
take-digits (suc n) [] a = tt
take-digits (suc n) (x ∷ xs) a = (a.0, take-digits n xs a.1)

pub drop-digits : (n : ℕ) (xs : List ℕ) → AreDigits xs → AreDigits (drop n xs)
drop-digits zero xs a = a
drop-digits (suc n) [] a = tt
drop-digits (suc n) (x ∷ xs) a = drop-digits n xs a.1

pub stripped-digits : (xs : List ℕ) → AreDigits xs → AreDigits (stripped xs)
stripped-digits [] a = tt
stripped-digits (d ∷ []) a = a
stripped-digits (d ∷ e ∷ xs) a = elim (cases_Bool (d == 48)) [
  | inl so ↦ rw so (stripped-digits (e ∷ xs) a.1)
  | inr not ↦ rw not a
]

-- ---- digits at the front of a text

apart : (b m : ℕ) → is_ascii_digit b ≡ true → is_ascii_digit m ≡ false → (b == m) ≡ false
apart b m d e = elim (cases_Bool (b == m)) [
  | inl so ↦ let p : b ≡ m = eqb-true b m so in cc (sym d ∙ ap is_ascii_digit p ∙ e)
  | inr not ↦ not
]

no-e : (b : ℕ) → is_ascii_digit b ≡ true → is_e b ≡ false
no-e b d = rw (apart b 101 d refl, apart b 69 d refl) refl

pub mantissa-digits : (xs ys : List ℕ) → AreDigits xs → mantissa (xs ++ ys) ≡ xs ++ mantissa ys
mantissa-digits [] ys a = refl
mantissa-digits (x ∷ xs) ys a = rw (no-e x a.0) (ap (λ (l : List ℕ). x ∷ l) (mantissa-digits xs ys a.1))

pub power-digits : (xs ys : List ℕ) → AreDigits xs → power (xs ++ ys) ≡ power ys
power-digits [] ys a = refl
power-digits (x ∷ xs) ys a = rw (no-e x a.0) (power-digits xs ys a.1)

pub in-digits : (xs ys : List ℕ) → AreDigits xs → digits_in (xs ++ ys) ≡ xs ++ digits_in ys
in-digits [] ys a = refl
in-digits (x ∷ xs) ys a = rw a.0 (ap (λ (l : List ℕ). x ∷ l) (in-digits xs ys a.1))

pub behind-digits : (xs ys : List ℕ) → AreDigits xs → behind 46 (xs ++ ys) ≡ behind 46 ys
behind-digits [] ys a = refl
behind-digits (x ∷ xs) ys a = rw (apart x 46 a.0 refl) (behind-digits xs ys a.1)

pub minus-digits : (xs ys : List ℕ) → AreDigits xs → is_minus ys ≡ false → is_minus (xs ++ ys) ≡ false
minus-digits [] ys a e = e
minus-digits (x ∷ xs) ys a e = apart x 45 a.0 refl

-- ---- what they write

pub number-stripped : (xs ys : List ℕ) → number (stripped xs ++ ys) ≡ number (xs ++ ys)
number-stripped [] ys = refl
number-stripped (d ∷ []) ys = refl
number-stripped (d ∷ e ∷ xs) ys = elim (cases_Bool (d == 48)) [
  | inl so ↦ let p : d ≡ 48 = eqb-true d 48 so in rw p (number-stripped (e ∷ xs) ys)
  | inr not ↦ rw not refl
]

pub number-append : (n : ℕ) (xs ys : List ℕ) → number_after n (xs ++ ys) ≡ number_after (number_after n xs) ys
number-append n [] ys = refl
number-append n (x ∷ xs) ys = number-append (n * 10 + (x - 48)) xs ys

pub zeros-front : (k : ℕ) (xs : List ℕ) → number (zeros k ++ xs) ≡ number xs
zeros-front zero xs = refl
zeros-front (suc k) xs = zeros-front k xs

pub zeros-behind : (k n : ℕ) → number_after n (zeros k) ≡ n * 10 ^ k
zeros-behind zero n = omega arith
zeros-behind (suc k) n = zeros-behind k (n * 10 + 0) ∙ omega (arith, ap (λ x. n * x) (pow-suc 10 k))

pub spread-number : (up down : ℕ) (ds : List ℕ) → number (spread up down ds) ≡ number ds * 10 ^ (up - down)
spread-number up down ds = zeros-front ((down - up) + 1) (ds ++ zeros (up - down)) ∙ number-append 0 ds (zeros (up - down)) ∙ zeros-behind (up - down) (number ds)

pub spread-digits : (up down : ℕ) (ds : List ℕ) → AreDigits ds → AreDigits (spread up down ds)
spread-digits up down ds a =
    join-digits (zeros ((down - up) + 1)) (ds ++ zeros (up - down)) (zeros-digits ((down - up) + 1)) (join-digits ds (zeros (up - down)) a (zeros-digits (up - down)))

-- it is 0 where no digit is another one
pub number-zero : (n : ℕ) (ds : List ℕ) → AreDigits ds → (number_after n ds == 0) ≡ ((n == 0) && not (list_any is_nonzero ds))
number-zero n [] a = grind (arith, nat_tests)
number-zero n (d ∷ ds) a = number-zero (n * 10 + (d - 48)) ds a.1 ∙ first n d (list_any is_nonzero ds) a.0
  where
    first : (n d : ℕ) (rest : Bool) → is_ascii_digit d ≡ true → ((n * 10 + (d - 48) == 0) && not rest) ≡ ((n == 0) && not (is_nonzero d || rest))
    first n d rest a = grind (arith, nat_tests)
