-- The number of an entry, as `parse` and clap read it.
use Rattle.std.proofs.Common.{◌≡◌, ◌∙◌, ◌<◌, ◌≤◌, ◌^◌, ℕ, Bool, true, false, refl, sym, ap, subst, arith, Some, None, nat_le, le-leb, leb-true, true≢false}
use Rattle.std.specs.Prelude.{if◌then◌else◌}
use Rattle.std.specs.Str.Parse.{IsNumeral, digits_value, without_leading_plus}
use Rattle.clap.specs.Values.{IsUnsignedIn}
use Rattle.clap.specs.ValueTests.{is_unsigned_in}
use Rattle.clap.specs.Walk.{Text}
use Rattle.clap.specs.declared.builder.value_parser.ValueParser.TheVariants as vp
use Rattle.clap.proofs.ValueTestLemmas.{Accepts-accepts, accepts-Accepts}
use Rattle.inspect_words.specs.Windows.{counted, number_of}

abbrev digits : Text → ℕ
digits text = digits_value 10 (without_leading_plus text)

bounds_of : (text : Text) → is_unsigned_in 1 4294967295 text ≡ true → IsUnsignedIn 1 4294967295 text
bounds_of text e = accepts-Accepts false (vp.Unsigned 1 4294967295) text e

pub read : (text : Text) (n : ℕ) → (IsNumeral 10 (without_leading_plus text) × (digits text < 2 ^ 32)) × (n ≡ digits text) → counted n ≡ number_of text
read text n h = by (nat_le 1 n) refl
  where
    small : digits text < 4294967296
    small = h.0.1

    other : nat_le 1 n ≡ false → (t : Bool) → is_unsigned_in 1 4294967295 text ≡ t → None ≡ number_of text
    other e false t = rw t refl
    other e true t = absurd (true≢false (sym (le-leb 1 n (subst (λ k. 1 ≤ k) (sym h.1) (bounds_of text t).2)) ∙ e))

    by : (b : Bool) → nat_le 1 n ≡ b → (if b then Some n else None) ≡ number_of text
    by true e =
        let low : 1 ≤ digits text = subst (λ k. 1 ≤ k) h.1 (leb-true 1 n e) in
        let within : IsUnsignedIn 1 4294967295 text = (h.0.0, omega (arith, small), low, omega (arith, small)) in
        let passes : is_unsigned_in 1 4294967295 text ≡ true = Accepts-accepts false (vp.Unsigned 1 4294967295) text within in
        rw passes (ap Some h.1)
    by false e = other e (is_unsigned_in 1 4294967295 text) refl

pub unread : (text : Text) → (IsNumeral 10 (without_leading_plus text) × (digits text < 2 ^ 32) → ⊥) → None ≡ number_of text
unread text none = by (is_unsigned_in 1 4294967295 text) refl
  where
    by : (t : Bool) → is_unsigned_in 1 4294967295 text ≡ t → None ≡ number_of text
    by false t = rw t refl
    by true t =
        let within = bounds_of text t in
        let small : digits text < 4294967296 = omega (arith, within.3) in
        absurd (none (within.0, small))
