-- A number that is written is worth what it was.
use Rattle.std.proofs.Common.{◌≡◌, ◌∙◌, ◌+◌, ◌-◌, ◌*◌, ◌^◌, ◌≤◌, ℕ, zero, suc, Bool, true, false, None, List, [], ◌∷◌, ◌++◌, length, take, drop, refl, sym, ap, ap₂, arith, append-nil, take-append-drop, length-append, length-drop, pow-add, pow-suc}
use Rattle.std.proofs.lemmas.Bool.Decides.{nat_tests}
use Rattle.std.proofs.lemmas.List.{length-replicate}
use Rattle.std.specs.Prelude.{◌==◌, ◌&&◌, not, if◌then◌else◌}
use Rattle.std.specs.List.{list_any}
use Rattle.prepare_numbers.specs.Plain.{KeepsValue, is_nonzero, moved, plain, pointed, spread, stripped, written, zeros}
use Rattle.prepare_numbers.specs.Spells.{is_minus, mantissa, number, power}
use Rattle.prepare_numbers.specs.Values.{AreDigits, IsSame, Value, digits_in, lowered, places_in, raised, value_of}
use Rattle.prepare_numbers.proofs.Digits.{behind-digits, drop-digits, found-digits, in-digits, mantissa-digits, minus-digits, number-stripped, number-zero, power-digits, spread-digits, spread-number, stripped-digits, take-digits}

-- a text of digits, perhaps with a point
pub record IsPointed (places : ℕ) (digits text : List ℕ) : Type 0 where
  pub cut : mantissa text ≡ text
  pub none : power text ≡ None
  pub worth : number (digits_in text) ≡ number digits
  pub count : places_in 46 text ≡ places
  pub bare : is_minus text ≡ false

whole : (ds : List ℕ) → AreDigits ds → IsPointed 0 ds (stripped ds)
whole ds a =
    let s = stripped-digits ds a in
    let e = append-nil (stripped ds) in
    record {
      cut = ap mantissa (sym e) ∙ mantissa-digits (stripped ds) [] s ∙ e;
      none = ap power (sym e) ∙ power-digits (stripped ds) [] s;
      worth = ap (λ (l : List ℕ). number (digits_in l)) (sym e) ∙ ap number (in-digits (stripped ds) [] s) ∙ number-stripped ds [] ∙ ap number (append-nil ds);
      count = ap (λ (l : List ℕ). places_in 46 l) (sym e) ∙ ap (λ (l : List ℕ). length (digits_in l)) (behind-digits (stripped ds) [] s);
      bare = ap is_minus (sym e) ∙ minus-digits (stripped ds) [] s refl;
    }

-- digits, a point, and digits
parted : (w b : List ℕ) → AreDigits w → AreDigits b → IsPointed (length b) (w ++ b) (stripped w ++ (46 ∷ b))
parted w b aw ab =
    let s = stripped-digits w aw in
    let t = stripped w ++ (46 ∷ b) in
    let e = append-nil b in
    let rest : mantissa b ≡ b = ap mantissa (sym e) ∙ mantissa-digits b [] ab ∙ e in
    let none : power b ≡ None = ap power (sym e) ∙ power-digits b [] ab in
    let same : digits_in b ≡ b = ap digits_in (sym e) ∙ in-digits b [] ab ∙ e in
    record {
      cut = mantissa-digits (stripped w) (46 ∷ b) s ∙ ap (λ (l : List ℕ). stripped w ++ (46 ∷ l)) rest;
      none = power-digits (stripped w) (46 ∷ b) s ∙ none;
      worth = ap number (in-digits (stripped w) (46 ∷ b) s) ∙ ap (λ (l : List ℕ). number (stripped w ++ l)) same ∙ number-stripped w b;
      count = ap (λ (l : List ℕ). length (digits_in l)) (behind-digits (stripped w) (46 ∷ b) s) ∙ ap (length {A = ℕ}) same;
      bare = minus-digits (stripped w) (46 ∷ b) s refl;
    }

pub is-pointed : (p : ℕ) (ds : List ℕ) → AreDigits ds → p ≤ length ds → IsPointed p ds (pointed p ds)
is-pointed zero ds a le = whole ds a
is-pointed (suc p) ds a le =
    let k = length ds - suc p in
    let long : length (drop k ds) ≡ suc p = omega (arith, length-drop k ds) in
    let all : take k ds ++ drop k ds ≡ ds = take-append-drop k ds in
    let some : (suc p == 0) ≡ false = grind (arith, nat_tests) in
    rw some (rw (long, all) at (parted (take k ds) (drop k ds) (take-digits k ds a) (drop-digits k ds a)))

-- ---- the value of what is written

value-same : (a b : Bool) (c d e f g h : ℕ) → a ≡ b → c ≡ d → e ≡ f → g ≡ h
    → ◌≡◌ {A = Value} (record { below = a; units = c; up = e; down = g }) (record { below = b; units = d; up = f; down = h })
value-same a b c d e f g h p q r s = rw (p, q, r, s) refl

plus-none : (p : ℕ) → p + 0 ≡ p
plus-none p = omega arith

-- digits with so many places
abbrev pub simple : Bool → ℕ → ℕ → Value
simple below units places = record { below = below; units = units; up = 0; down = places }

signed-value : (b : Bool) (p : ℕ) (ds text : List ℕ) → IsPointed p ds text
    → value_of 46 ((if b then 45 ∷ [] else []) ++ text) ≡ simple (b && not (number ds == 0)) (number ds) p
signed-value true p ds text is =
    let units : number (digits_in (mantissa text)) ≡ number ds = ap (λ (l : List ℕ). number (digits_in l)) is.cut ∙ is.worth in
    let down : places_in 46 (mantissa text) + lowered (power text) ≡ p = ap₂ (λ (a b : ℕ). a + b) (ap (λ (l : List ℕ). places_in 46 l) is.cut ∙ is.count) (ap lowered is.none) ∙ plus-none p in
    value-same _ _ _ _ _ _ _ _ (ap (λ (u : ℕ). not (u == 0)) units) units (ap raised is.none) down
signed-value false p ds text is =
    let units : number (digits_in (mantissa text)) ≡ number ds = ap (λ (l : List ℕ). number (digits_in l)) is.cut ∙ is.worth in
    let down : places_in 46 (mantissa text) + lowered (power text) ≡ p = ap₂ (λ (a b : ℕ). a + b) (ap (λ (l : List ℕ). places_in 46 l) is.cut ∙ is.count) (ap lowered is.none) ∙ plus-none p in
    value-same _ _ _ _ _ _ _ _ (ap (λ (m : Bool). m && not (number (digits_in (mantissa text)) == 0)) is.bare) units (ap raised is.none) down

below-zero : (m : Bool) (ds : List ℕ) → AreDigits ds → ((m && list_any is_nonzero ds) && not (number ds == 0)) ≡ (m && not (number ds == 0))
below-zero m ds a =
    let any = list_any is_nonzero ds in
    let z : (number ds == 0) ≡ ((0 == 0) && not any) = number-zero 0 ds a in
    ap (λ (b : Bool). (m && any) && not b) z ∙ by m any ∙ ap (λ (b : Bool). m && not b) (sym z)
  where
    by : (m any : Bool) → ((m && any) && not ((0 == 0) && not any)) ≡ (m && not ((0 == 0) && not any))
    by true true = refl
    by true false = refl
    by false any = refl

-- the value of digits with a point behind a sign
pub written-value : (m : Bool) (p : ℕ) (ds : List ℕ) → AreDigits ds → p ≤ length ds → value_of 46 (written m p ds) ≡ simple (m && not (number ds == 0)) (number ds) p
written-value m p ds a le =
    signed-value (m && list_any is_nonzero ds) p ds (pointed p ds) (is-pointed p ds a le)
    ∙ ap (λ (b : Bool). simple b (number ds) p) (below-zero m ds a)

-- ---- powers of ten

powers : (u up down : ℕ) → u * 10 ^ (up + (down - up)) ≡ u * 10 ^ (up - down) * 10 ^ (0 + down)
powers u up down =
    let e : up + (down - up) ≡ (up - down) + (0 + down) = omega arith in
    rw (e, pow-add 10 (up - down) (0 + down)) (grind arith)

long-enough : (up down : ℕ) (ds : List ℕ) → down - up ≤ length (spread up down ds)
long-enough up down ds =
    let k = down - up in
    let tail = ds ++ zeros (up - down) in
    omega (arith, length-append (zeros (k + 1)) tail, length-replicate {A = ℕ} (k + 1) 48)

pub moved-value : (m : Bool) (up down : ℕ) (ds : List ℕ) → AreDigits ds
    → value_of 46 (moved m up down ds) ≡ simple (m && not (number ds * 10 ^ (up - down) == 0)) (number ds * 10 ^ (up - down)) (down - up)
moved-value m up down ds a =
    written-value m (down - up) (spread up down ds) (spread-digits up down ds a) (long-enough up down ds)
    ∙ ap (λ (u : ℕ). simple (m && not (u == 0)) u (down - up)) (spread-number up down ds)

pub ten-pos : (k : ℕ) → 1 ≤ 10 ^ k
ten-pos zero = omega arith
ten-pos (suc k) = omega (arith, pow-suc 10 k, ten-pos k)

pub times-zero : (u k : ℕ) → (u * 10 ^ k == 0) ≡ (u == 0)
times-zero zero k = let e : 0 * 10 ^ k ≡ 0 = grind arith in rw e refl
times-zero (suc u) k = grind (arith, nat_tests, ten-pos k)

same-moved : (m : Bool) (u up down : ℕ) (v w : Value) → v ≡ record { below = m && not (u == 0); units = u; up = up; down = down }
    → w ≡ simple (m && not (u * 10 ^ (up - down) == 0)) (u * 10 ^ (up - down)) (down - up) → IsSame v w
same-moved m u up down v w is e = rw (is, e) (ap (λ (b : Bool). m && not b) (sym (times-zero u (up - down))), powers u up down)

pub keeps-value : KeepsValue
keeps-value form field h =
    let v = value_of form.mark field in
    let ds = digits_in (mantissa field) in
    same-moved (is_minus field) (number ds) v.up v.down v (value_of 46 (plain form.mark field)) refl (moved-value (is_minus field) v.up v.down ds (found-digits (mantissa field)))
