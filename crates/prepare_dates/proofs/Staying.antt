-- A date YYYY-MM-DD is written as it stands.
use Rattle.std.proofs.Common.{◌≡◌, ◌∙◌, ◌++◌, ◌+◌, ◌-◌, ◌*◌, ◌/◌, ◌%◌, ◌<◌, ◌≤◌, ap, ap₂, refl, sym, subst, arith, ℕ, Bool, true, false, List, [], ◌∷◌, length, Option, Some, None, pos}
use Rattle.std.specs.Prelude.{if◌then◌else◌}
use Rattle.std.proofs.lemmas.Bool.Decides.{nat_tests}
use Rattle.std.specs.Char.{digit_value, is_ascii_digit}
use Rattle.std.specs.Str.Parse.{digits_value}
use Rattle.prepare_dates.specs.Days.{Numbers, before, behind, date_by, date_in, has_day, is_run, number_in, parted, year_first}
use Rattle.prepare_dates.specs.Written.{Stays, date_text, four_digits, two_digits}
use Rattle.prepare_dates.proofs.Back.{is_there, known_back, known_by}
use Rattle.prepare_dates.proofs.Digits.{cut, digit_first, run_digits, run_length}

digit_worth : (b : ℕ) → is_ascii_digit b ≡ true → (d : ℕ) × (d < 10) × (b ≡ 48 + d) × (digit_value b ≡ d)
digit_worth b h =
    let low : 48 ≤ b = grind (arith, nat_tests) in
    let high : b ≤ 57 = grind (arith, nat_tests) in
    let is : digit_value b ≡ b - 48 = grind (arith, nat_tests) in
    (b - 48, omega arith, omega arith, is)

four_of : (a b c e n : ℕ) → a < 10 → b < 10 → c < 10 → e < 10 → n ≡ ((a * 10 + b) * 10 + c) * 10 + e
    → four_digits n ≡ (48 + a) ∷ (48 + b) ∷ (48 + c) ∷ (48 + e) ∷ []
four_of a b c e n ha hb hc he is =
    let p : n / 1000 % 10 ≡ a = omega arith in
    let q : n / 100 % 10 ≡ b = omega arith in
    let r : n / 10 % 10 ≡ c = omega arith in
    let s : n / 1 % 10 ≡ e = omega arith in
    rw (p, q, r, s) refl

two_of : (a b n : ℕ) → a < 10 → b < 10 → n ≡ a * 10 + b → two_digits n ≡ (48 + a) ∷ (48 + b) ∷ []
two_of a b n ha hb is =
    let p : n / 10 % 10 ≡ a = omega arith in
    let q : n / 1 % 10 ≡ b = omega arith in
    rw (p, q) refl

four_back : (run : List ℕ) → is_run 4 4 run ≡ true → four_digits (digits_value 10 run) ≡ run
four_back [] h = absurd cc
four_back (a ∷ []) h = absurd cc
four_back (a ∷ b ∷ []) h = absurd cc
four_back (a ∷ b ∷ c ∷ []) h = absurd cc
four_back (a ∷ b ∷ c ∷ e ∷ []) h =
    let first = digit_first a (b ∷ c ∷ e ∷ []) (run_digits 4 4 (a ∷ b ∷ c ∷ e ∷ []) h) in
    let second = digit_first b (c ∷ e ∷ []) first.1 in
    let third = digit_first c (e ∷ []) second.1 in
    let fourth = digit_first e [] third.1 in
    let p = digit_worth a first.0 in
    let q = digit_worth b second.0 in
    let r = digit_worth c third.0 in
    let s = digit_worth e fourth.0 in
    four_of p.0 q.0 r.0 s.0 (digits_value 10 (a ∷ b ∷ c ∷ e ∷ [])) p.1 q.1 r.1 s.1 (rw (p.3, q.3, r.3, s.3) (omega arith)) ∙ rw (sym p.2, sym q.2, sym r.2, sym s.2) refl
four_back (a ∷ b ∷ c ∷ e ∷ f ∷ run) h =
    let most : length (a ∷ b ∷ c ∷ e ∷ f ∷ run) ≤ 4 = run_length 4 4 (a ∷ b ∷ c ∷ e ∷ f ∷ run) h in
    absurd (omega arith)

two_back : (run : List ℕ) → is_run 2 2 run ≡ true → two_digits (digits_value 10 run) ≡ run
two_back [] h = absurd cc
two_back (a ∷ []) h = absurd cc
two_back (a ∷ b ∷ []) h =
    let first = digit_first a (b ∷ []) (run_digits 2 2 (a ∷ b ∷ []) h) in
    let second = digit_first b [] first.1 in
    let p = digit_worth a first.0 in
    let q = digit_worth b second.0 in
    two_of p.0 q.0 (digits_value 10 (a ∷ b ∷ [])) p.1 q.1 (rw (p.3, q.3) (omega arith)) ∙ rw (sym p.2, sym q.2) refl
two_back (a ∷ b ∷ c ∷ run) h =
    let most : length (a ∷ b ∷ c ∷ run) ≤ 2 = run_length 2 2 (a ∷ b ∷ c ∷ run) h in
    absurd (omega arith)

-- the runs of a date that begins with its year
record HasRuns (a b c : List ℕ) (d : Numbers) : Type 0 where
  year : is_run 4 4 a ≡ true
  month : is_run 2 2 b ≡ true
  day : is_run 2 2 c ≡ true
  is : record { year = pos (digits_value 10 a); month = digits_value 10 b; day = digits_value 10 c } ≡ d

runs_of : (a b c : List ℕ) (d : Numbers) → year_first a b c ≡ Some d → HasRuns a b c d
runs_of a b c d h = go (is_run 4 4 a) (is_run 2 2 b) (is_run 2 2 c) refl refl refl h
  where
    numbered : Bool → List ℕ → Option ℕ
    numbered is run = if is then Some (digits_value 10 run) else None

    go : (p q r : Bool) → is_run 4 4 a ≡ p → is_run 2 2 b ≡ q → is_run 2 2 c ≡ r → date_by (numbered p a) (numbered q b) (numbered r c) ≡ Some d → HasRuns a b c d
    go true true true p q r h =
        record { year = p; month = q; day = r; is = (is_there (has_day (digits_value 10 a) (digits_value 10 b) (digits_value 10 c)) _ d h).1 }
    go true true false p q r h = absurd cc
    go true false _ p q r h = absurd cc
    go false _ _ p q r h = absurd cc

not_empty : (mark : ℕ) (bytes : List ℕ) → is_run 2 2 (before mark bytes) ≡ true → 0 < length bytes
not_empty mark [] h = absurd cc
not_empty mark (b ∷ bytes) h = omega arith

filled : (run : List ℕ) → is_run 2 2 run ≡ true → 0 < length run
filled [] h = absurd cc
filled (b ∷ run) h = omega arith

text_stays : (field : List ℕ) (d : Numbers) → parted year_first 45 field ≡ Some d → date_text d ≡ field
text_stays field d h =
    let rest = behind 45 field in
    let runs = runs_of (before 45 field) (before 45 rest) (behind 45 rest) d h in
    let year = four_back (before 45 field) runs.year in
    let month = two_back (before 45 rest) runs.month in
    let day = two_back (behind 45 rest) runs.day in
    let text = ap₂ (λ ys bs. ys ++ (45 ∷ bs)) year (ap₂ (λ ms ds. ms ++ (45 ∷ ds)) month day) in
    let behind_year = ap (λ bs. before 45 field ++ (45 ∷ bs)) (cut 45 rest (filled (behind 45 rest) runs.day)) in
    subst (λ (n : Numbers). date_text n ≡ field) runs.is (text ∙ behind_year ∙ cut 45 field (not_empty 45 rest runs.month))

pub stays : Stays
stays order field d h =
    let same = text_stays field d h in
    (subst (λ bytes. date_in order bytes ≡ Some d) same (known_back order d (known_by (before 45 field) (number_in 2 2 (before 45 (behind 45 field))) (number_in 2 2 (behind 45 (behind 45 field))) d h)), same)
