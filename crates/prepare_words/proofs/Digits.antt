-- A text that `parse` reads as a number.
use Rattle.std.proofs.Common.{◌≡◌, ◌∙◌, ◌<◌, ◌^◌, ◌==◌, ℕ, Bool, true, false, refl, sym, ap, subst, arith, [], ◌∷◌, length, Some, None, nat_lt, lt-ltb, ltb-true, true≢false}
use Rattle.std.specs.List.{list_all}
use Rattle.std.specs.Char.{digit_value}
use Rattle.std.specs.Str.Parse.{AllDigits, IsNumeral, digits_value, without_leading_plus}
use Rattle.std.proofs.lemmas.Bool.Decides.{nat_tests}
use Rattle.clap.specs.Walk.{Text}
use Rattle.clap.proofs.WalkLemmas.{both}
use Rattle.prepare_words.specs.Reading.{begins_with_digit, is_number, number_of}

no_plus : (text : Text) → begins_with_digit text ≡ true → without_leading_plus text ≡ text
no_plus [] h = absurd (true≢false (sym h))
no_plus (b ∷ bytes) h = let e : (b == 43) ≡ false = grind (arith, nat_tests) in rw e refl

digits_pass : (ds : Text) → AllDigits 10 ds → list_all (λ d. nat_lt (digit_value d) 10) ds ≡ true
digits_pass [] h = refl
digits_pass (d ∷ ds) h = rw (lt-ltb (digit_value d) 10 h.0) (digits_pass ds h.1)

digits_from : (ds : Text) → list_all (λ d. nat_lt (digit_value d) 10) ds ≡ true → AllDigits 10 ds
digits_from [] e = tt
digits_from (d ∷ ds) e =
    let parts = both _ _ e in
    (ltb-true _ _ parts.0, digits_from ds parts.1)

some_digit : (text : Text) → begins_with_digit text ≡ true → 0 < length text
some_digit [] h = absurd (true≢false (sym h))
some_digit (b ∷ bytes) h = omega arith

pub read : (text : Text) (n : ℕ) → begins_with_digit text ≡ true
    → (IsNumeral 10 (without_leading_plus text) × (digits_value 10 (without_leading_plus text) < 2 ^ 32)) × (n ≡ digits_value 10 (without_leading_plus text))
    → Some n ≡ number_of text
read text n first h =
    let same = no_plus text first in
    let whole : AllDigits 10 text = subst (AllDigits 10) same h.0.0.1 in
    let bound : digits_value 10 text < 2 ^ 32 = subst (λ t. digits_value 10 t < 2 ^ 32) same h.0.1 in
    rw (first, digits_pass text whole, lt-ltb (digits_value 10 text) (2 ^ 32) bound) (ap Some (h.1 ∙ ap (digits_value 10) same))

pub unread : (text : Text) → begins_with_digit text ≡ true
    → (IsNumeral 10 (without_leading_plus text) × (digits_value 10 (without_leading_plus text) < 2 ^ 32) → ⊥) → None ≡ number_of text
unread text first h = go (is_number text) refl
  where
    go : (b : Bool) → is_number text ≡ b → None ≡ number_of text
    go false t = rw (first, t) refl
    go true t =
        let parts = both _ _ t in
        let same = sym (no_plus text first) in
        absurd (h (subst (λ ds. IsNumeral 10 ds) same (some_digit text first, digits_from text parts.0), subst (λ ds. digits_value 10 ds < 2 ^ 32) same (ltb-true _ _ parts.1)))
