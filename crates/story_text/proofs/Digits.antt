-- The number that digits make, and the digits of a number.
use Rattle.std.proofs.Common.{◌≡◌, ◌<◌, ◌≤◌, ◌+◌, ◌-◌, ◌*◌, ◌/◌, ◌%◌, ◌^◌, ◌∷◌, [], ◌++◌, ◌==◌, ◌&&◌, not, ℕ, Bool, true, false, List, length, take, drop, get_or, refl, sym, ◌∙◌, ap, subst, arith}
use Rattle.std.specs.Prelude.{decimal}
use Rattle.std.proofs.lemmas.Fmt.{decimal_by_steps}
use Rattle.std.proofs.lemmas.List.{take_more, take-append-drop}
use Rattle.std.proofs.lemmas.Bool.Decides.{nat_tests}
use Rattle.story_text.specs.Reading.{lacks, number_from, number_of}

number_snoc : (n : ℕ) (ds : List ℕ) (d : ℕ) → number_from n (ds ++ d ∷ []) ≡ number_from n ds * 10 + (d - 48)
number_snoc n [] d = refl
number_snoc n (b ∷ bs) d = number_snoc (n * 10 + (b - 48)) bs d

pub number_step : (ds : List ℕ) (i : ℕ) → i < length ds → number_of (take (i + 1) ds) ≡ number_of (take i ds) * 10 + (get_or ds i 0 - 48)
number_step ds i lt = ap number_of (take_more ds i 0 lt) ∙ number_snoc 0 (take i ds) (get_or ds i 0)

number_grows : (n : ℕ) (ds : List ℕ) → n ≤ number_from n ds
number_grows n [] = omega arith
number_grows n (b ∷ bs) = omega (arith, number_grows (n * 10 + (b - 48)) bs)

number_joins : (n : ℕ) (ds es : List ℕ) → number_from n (ds ++ es) ≡ number_from (number_from n ds) es
number_joins n [] es = refl
number_joins n (b ∷ bs) es = number_joins (n * 10 + (b - 48)) bs es

-- digits that stand first make no more than all
pub number_within : (ds : List ℕ) (i : ℕ) → number_of (take i ds) ≤ number_of ds
number_within ds i =
    let grows = number_grows (number_of (take i ds)) (drop i ds) in
    subst (λ (l : List ℕ). number_of (take i ds) ≤ number_of l) (take-append-drop i ds)
    (subst (λ (n : ℕ). number_of (take i ds) ≤ n) (sym (number_joins 0 (take i ds) (drop i ds))) grows)

lacks_snoc : (mark : ℕ) (ds : List ℕ) (d : ℕ) → lacks mark ds ≡ true → (d == mark) ≡ false → lacks mark (ds ++ d ∷ []) ≡ true
lacks_snoc mark [] d e f = ap (λ t. not t && true) f
lacks_snoc mark (b ∷ bs) d e f = at_byte (λ k. lacks_snoc mark bs d k f) (b == mark) e
  where
    at_byte : (lacks mark bs ≡ true → lacks mark (bs ++ d ∷ []) ≡ true) → (t : Bool) → (not t && lacks mark bs) ≡ true → (not t && lacks mark (bs ++ d ∷ [])) ≡ true
    at_byte again true k = absurd cc
    at_byte again false k = again k

no_digit : (mark d : ℕ) → mark < 48 → ((48 + d) == mark) ≡ false
no_digit mark d lt = grind (arith, nat_tests)

-- the digits make the number again, and none of them is a mark
pub record AreDigits (n : ℕ) (ds : List ℕ) : Type 0 where
  pub value : number_of ds ≡ n
  pub unmarked : (mark : ℕ) → mark < 48 → lacks mark ds ≡ true

pub decimal_digits : (n : ℕ) → n < 2 ^ 64 → AreDigits n (decimal n)
decimal_digits n h = decimal_by_steps AreDigits one more n h
  where
    one : (n : ℕ) → n < 10 → AreDigits n ((48 + n) ∷ [])
    one n h = record { value = omega arith; unmarked = λ mark lt. ap (λ t. not t && true) (no_digit mark n lt) }

    more : (n : ℕ) (ds : List ℕ) → 10 ≤ n → AreDigits (n / 10) ds → AreDigits n (ds ++ ((48 + n % 10) ∷ []))
    more n ds h k = record {
      value = (let v = k.value in number_snoc 0 ds (48 + n % 10) ∙ (ap (λ x. x * 10 + (48 + n % 10 - 48)) v ∙ omega arith));
      unmarked = λ mark lt. lacks_snoc mark ds (48 + n % 10) (k.unmarked mark lt) (no_digit mark (n % 10) lt);
    }
