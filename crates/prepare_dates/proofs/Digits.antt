-- Runs of digits, and what a mark parts.
use Rattle.std.proofs.Common.{◌≡◌, ◌++◌, ◌==◌, ◌≤◌, ◌<◌, ◌^◌, subst, ap, refl, arith, ℕ, Bool, true, false, List, [], ◌∷◌, length}
use Rattle.std.specs.Prelude.{if◌then◌else◌}
use Rattle.std.proofs.lemmas.Bool.Decides.{nat_tests}
use Rattle.std.specs.Char.{digit_value, is_ascii_digit}
use Rattle.std.specs.List.{list_all}
use Rattle.std.specs.Str.Parse.{AllDigits, digits_value}
use Rattle.std.proofs.lemmas.Int.Digits.{digits_value-lt}
use Rattle.prepare_dates.specs.Days.{before, behind, is_run}

pub run_digits : (least most : ℕ) (run : List ℕ) → is_run least most run ≡ true → list_all is_ascii_digit run ≡ true
run_digits least most run h = grind (arith, nat_tests)

pub run_length : (least most : ℕ) (run : List ℕ) → is_run least most run ≡ true → length run ≤ most
run_length least most run h = grind (arith, nat_tests)

other_byte : (mark b : ℕ) → is_ascii_digit mark ≡ false → is_ascii_digit b ≡ true → (b == mark) ≡ false
other_byte mark b none digit = grind (arith, nat_tests)

pub digit_first : (b : ℕ) (bytes : List ℕ) → list_all is_ascii_digit (b ∷ bytes) ≡ true → (is_ascii_digit b ≡ true) × (list_all is_ascii_digit bytes ≡ true)
digit_first b bytes h = grind (arith, nat_tests)

-- no mark stands among digits
pub before_run : (mark : ℕ) (run rest : List ℕ) → is_ascii_digit mark ≡ false → list_all is_ascii_digit run ≡ true → before mark (run ++ rest) ≡ run ++ before mark rest
before_run mark [] rest none h = refl
before_run mark (b ∷ run) rest none h =
    let parts = digit_first b run h in
    rw (other_byte mark b none parts.0) (ap (λ bs. b ∷ bs) (before_run mark run rest none parts.1))

pub behind_run : (mark : ℕ) (run rest : List ℕ) → is_ascii_digit mark ≡ false → list_all is_ascii_digit run ≡ true → behind mark (run ++ rest) ≡ behind mark rest
behind_run mark [] rest none h = refl
behind_run mark (b ∷ run) rest none h =
    let parts = digit_first b run h in
    rw (other_byte mark b none parts.0) (behind_run mark run rest none parts.1)

pub none_behind : (mark : ℕ) (run : List ℕ) → is_ascii_digit mark ≡ false → list_all is_ascii_digit run ≡ true → behind mark run ≡ []
none_behind mark [] none h = refl
none_behind mark (b ∷ run) none h =
    let parts = digit_first b run h in
    rw (other_byte mark b none parts.0) (none_behind mark run none parts.1)

digits_from : (run : List ℕ) → list_all is_ascii_digit run ≡ true → AllDigits 10 run
digits_from [] h = tt
digits_from (b ∷ run) h =
    let parts = digit_first b run h in
    let is : is_ascii_digit b ≡ true = parts.0 in
    let low : digit_value b < 10 = grind (arith, nat_tests) in
    (low, digits_from run parts.1)

-- what a mark cuts, put together again
pub cut : (mark : ℕ) (bytes : List ℕ) → 0 < length (behind mark bytes) → before mark bytes ++ (mark ∷ behind mark bytes) ≡ bytes
cut mark [] h = absurd (omega arith)
cut mark (b ∷ bytes) h = go (b == mark) refl h (cut mark bytes)
  where
    go : (is : Bool) → (b == mark) ≡ is → 0 < length (behind mark (b ∷ bytes)) → (0 < length (behind mark bytes) → before mark bytes ++ (mark ∷ behind mark bytes) ≡ bytes)
        → before mark (b ∷ bytes) ++ (mark ∷ behind mark (b ∷ bytes)) ≡ b ∷ bytes
    go true e h rest = let same : mark ≡ b = grind (arith, nat_tests) in rw e (ap (λ m. m ∷ bytes) same)
    go false e h rest =
        let more : 0 < length (behind mark bytes) = subst (λ is. 0 < length (if is then bytes else behind mark bytes)) e h in
        rw e (ap (λ bs. b ∷ bs) (rest more))

-- four digits write a number below 10,000
pub run_low : (run : List ℕ) → is_run 4 4 run ≡ true → digits_value 10 run < 10000
run_low run h =
    let four : length run ≡ 4 = grind (arith, nat_tests) in
    let low = digits_value-lt 10 run (digits_from run (run_digits 4 4 run h)) in
    subst (λ n. digits_value 10 run < 10 ^ n) four low
