-- What is written of a date is read as it.
use Rattle.std.proofs.Common.{◌≡◌, ◌∙◌, ◌++◌, ◌/◌, ◌%◌, ◌==◌, ◌<◌, ◌≤◌, ap, refl, sym, subst, arith, ℕ, Bool, true, false, List, [], ◌∷◌, Option, Some, None, ℤ, pos}
use Rattle.std.specs.Prelude.{if◌then◌else◌}
use Rattle.std.proofs.lemmas.Bool.Decides.{nat_tests}
use Rattle.std.proofs.Math.Nat.{mod-lt}
use Rattle.std.specs.Char.{digit_value, is_ascii_digit}
use Rattle.std.specs.List.{list_all}
use Rattle.std.specs.Str.Parse.{digits_value}
use Rattle.jiff_core.specs.Calendar.{days_in_month}
use Rattle.prepare_dates.specs.Days.{Numbers, before, behind, date_by, date_in, date_with, either_end, has_day, is_run, number_in, or_else, parted, year_first, year_last}
use Rattle.prepare_dates.specs.Written.{ReadsBack, date_text, digit_at, four_digits, two_digits}
use Rattle.prepare_dates.specs.declared.order.Order.{Order}
use Rattle.prepare_dates.specs.declared.order.Order.TheVariants.{DayFirst, MonthFirst}
use Rattle.prepare_dates.proofs.Digits.{before_run, behind_run, none_behind, run_low}

is_digit : (worth n : ℕ) → is_ascii_digit (digit_at worth n) ≡ true
is_digit worth n = let low : n / worth % 10 < 10 = mod-lt (n / worth) (omega arith) in grind (arith, nat_tests)

four_are_digits : (n : ℕ) → list_all is_ascii_digit (four_digits n) ≡ true
four_are_digits n = rw (is_digit 1000 n, is_digit 100 n, is_digit 10 n, is_digit 1 n) refl

two_are_digits : (n : ℕ) → list_all is_ascii_digit (two_digits n) ≡ true
two_are_digits n = rw (is_digit 10 n, is_digit 1 n) refl

digit_is : (worth n : ℕ) → digit_value (digit_at worth n) ≡ n / worth % 10
digit_is worth n = let low : n / worth % 10 < 10 = mod-lt (n / worth) (omega arith) in grind (arith, nat_tests)

four_value : (n : ℕ) → n < 10000 → digits_value 10 (four_digits n) ≡ n
four_value n h = rw (digit_is 1000 n, digit_is 100 n, digit_is 10 n, digit_is 1 n) (omega arith)

two_value : (n : ℕ) → n < 100 → digits_value 10 (two_digits n) ≡ n
two_value n h = rw (digit_is 10 n, digit_is 1 n) (omega arith)

-- ---- what holds of a date that was read

abbrev pub Known : Numbers → Type 0
Known d = (y : ℕ) × (d.year ≡ pos y) × (y < 10000) × (has_day y d.month d.day ≡ true)

pub is_there : {A : Type 0} (b : Bool) (x n : A) → (if b then Some x else None) ≡ Some n → (b ≡ true) × (x ≡ n)
is_there true x n h = (refl, cc)
is_there false x n h = absurd cc

known_with : (y m d : ℕ) (n : Numbers) → y < 10000 → date_with y m d ≡ Some n → Known n
known_with y m d n low h =
    let is = is_there (has_day y m d) (record { year = pos y; month = m; day = d }) n h in
    subst Known is.1 (y, refl, low, is.0)

pub known_by : (run : List ℕ) (m d : Option ℕ) (n : Numbers) → date_by (number_in 4 4 run) m d ≡ Some n → Known n
known_by run m d n h = go (is_run 4 4 run) m d refl h
  where
    go : (b : Bool) (m d : Option ℕ) → is_run 4 4 run ≡ b → date_by (if b then Some (digits_value 10 run) else None) m d ≡ Some n → Known n
    go true (Some m) (Some d) is h = known_with (digits_value 10 run) m d n (run_low run is) h
    go true (Some m) None is h = absurd cc
    go true None d is h = absurd cc
    go false m d is h = absurd cc

known_last : (order : Order) (a b c : List ℕ) (n : Numbers) → year_last order a b c ≡ Some n → Known n
known_last DayFirst a b c n h = known_by c _ _ n h
known_last MonthFirst a b c n h = known_by c _ _ n h

known_either : (order : Order) (a b c : List ℕ) (n : Numbers) → either_end order a b c ≡ Some n → Known n
known_either order a b c n h = go (is_run 4 4 a) h
  where
    go : (is : Bool) → (if is then year_first a b c else year_last order a b c) ≡ Some n → Known n
    go true h = known_by a _ _ n h
    go false h = known_last order a b c n h

one_of : (a b : Option Numbers) (n : Numbers) → (a ≡ Some n → Known n) → (b ≡ Some n → Known n) → or_else a b ≡ Some n → Known n
one_of (Some x) b n first second h = first h
one_of None b n first second h = second h

known : (order : Order) (field : List ℕ) (n : Numbers) → date_in order field ≡ Some n → Known n
known order field n h = one_of _ _ n (known_last order _ _ _ n) (one_of _ _ n (known_last order _ _ _ n) (known_either order (before 45 field) (before 45 (behind 45 field)) (behind 45 (behind 45 field)) n)) h

-- ---- what is written is read

month_days : (y : ℤ) (m : ℕ) → days_in_month y m ≤ 31
month_days y m = grind (arith, nat_tests)

low_numbers : (y m d : ℕ) → has_day y m d ≡ true → (m < 100) × (d < 100)
low_numbers y m d h = let most = month_days (pos y) m in grind (arith, nat_tests)

abbrev parts_text : ℕ → ℕ → ℕ → List ℕ
parts_text y m d = four_digits y ++ (45 ∷ two_digits m ++ (45 ∷ two_digits d))

no_last : (order : Order) (mark : ℕ) (field : List ℕ) → behind mark field ≡ [] → parted (year_last order) mark field ≡ None
no_last DayFirst mark field h = rw h refl
no_last MonthFirst mark field h = rw h refl

past_dash : (mark : ℕ) (rest : List ℕ) → (45 == mark) ≡ false → behind mark (45 ∷ rest) ≡ behind mark rest
past_dash mark rest dash = rw dash refl

lacks : (mark y m d : ℕ) → is_ascii_digit mark ≡ false → (45 == mark) ≡ false → behind mark (parts_text y m d) ≡ []
lacks mark y m d none dash = behind_run mark (four_digits y) (45 ∷ two_digits m ++ (45 ∷ two_digits d)) none (four_are_digits y)
    ∙ past_dash mark (two_digits m ++ (45 ∷ two_digits d)) dash
    ∙ behind_run mark (two_digits m) (45 ∷ two_digits d) none (two_are_digits m)
    ∙ past_dash mark (two_digits d) dash
    ∙ none_behind mark (two_digits d) none (two_are_digits d)

dashes : (order : Order) (y m d : ℕ) → parted (either_end order) 45 (parts_text y m d) ≡ year_first (four_digits y) (two_digits m) (two_digits d)
dashes order y m d =
    let first = before_run 45 (four_digits y) (45 ∷ two_digits m ++ (45 ∷ two_digits d)) refl (four_are_digits y) in
    let rest = behind_run 45 (four_digits y) (45 ∷ two_digits m ++ (45 ∷ two_digits d)) refl (four_are_digits y) in
    let second = before_run 45 (two_digits m) (45 ∷ two_digits d) refl (two_are_digits m) in
    let last = behind_run 45 (two_digits m) (45 ∷ two_digits d) refl (two_are_digits m) in
    rw (first, rest, second, last, four_are_digits y) refl

year_is : (y m d : ℕ) → y < 10000 → has_day y m d ≡ true → year_first (four_digits y) (two_digits m) (two_digits d) ≡ Some (record { year = pos y; month = m; day = d })
year_is y m d low h =
    let lows = low_numbers y m d h in
    rw (four_are_digits y, two_are_digits m, two_are_digits d, four_value y low, two_value m lows.0, two_value d lows.1, h) refl

back : (other : Order) (y m d : ℕ) → y < 10000 → has_day y m d ≡ true → date_in other (date_text (record { year = pos y; month = m; day = d })) ≡ Some (record { year = pos y; month = m; day = d })
back other y m d low h =
    let point = no_last other 46 (parts_text y m d) (lacks 46 y m d refl refl) in
    let slash = no_last other 47 (parts_text y m d) (lacks 47 y m d refl refl) in
    rw (point, slash) (dashes other y m d ∙ year_is y m d low h)

pub known_back : (other : Order) (d : Numbers) → Known d → date_in other (date_text d) ≡ Some d
known_back other d k =
    let same = ap (λ y. record { year = y; month = d.month; day = d.day }) (sym k.1) in
    subst (λ (n : Numbers). date_in other (date_text n) ≡ Some n) same (back other k.0 d.month d.day k.2 k.3)

pub reads-back : ReadsBack
reads-back order other field d h =
    known_back other d (known order field d h)
