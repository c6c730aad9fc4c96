-- A number that is too great stays so.
use Rattle.std.proofs.Common.{◌≡◌, ◌<◌, ◌≤◌, ◌+◌, ◌*◌, ◌-◌, ◌&&◌, ℕ, Bool, cond, true, false, refl, sym, [], ◌∷◌, length, drop, get_or, None, arith, drop-cons, suc}
use Rattle.std.specs.Prelude.{nat_le, option_and_then}
use Rattle.std.proofs.lemmas.Bool.Decides.{nat_tests}
use Rattle.command_words.specs.Pairs.{Text}
use Rattle.command_words.specs.Options.{is_digit, number_after, number_in, within}

beyond : (low high n : ℕ) → high < n → within low high n ≡ None
beyond low high n h = grind (arith, nat_tests)

pub too_great : (low high n : ℕ) (bs : Text) → high < n → option_and_then (within low high) (number_after n bs) ≡ None
too_great low high n [] h = beyond low high n h
too_great low high n (b ∷ bs) h = go (is_digit b) (too_great low high (n * 10 + (b - 48)) bs (omega arith))
  where
    go : (d : Bool) → option_and_then (within low high) (number_after (n * 10 + (b - 48)) bs) ≡ None
        → option_and_then (within low high) (cond d (number_after (n * 10 + (b - 48)) bs) None) ≡ None
    go true e = e
    go false e = refl

pub step_over : (low high n : ℕ) (text : Text) (i : ℕ) → i < length text → 48 ≤ get_or text i 0 → get_or text i 0 ≤ 57 → high < n * 10 + (get_or text i 0 - 48)
    → option_and_then (within low high) (number_after n (drop i text)) ≡ None
step_over low high n text i lt a b h =
    let digit : is_digit (get_or text i 0) ≡ true = grind (arith, nat_tests) in
    rw (drop-cons text i 0, digit) (too_great low high (n * 10 + (get_or text i 0 - 48)) (drop (suc i) text) h)

pub overflowed : (most low high : ℕ) (text : Text) → option_and_then (within low high) (number_after 0 text) ≡ None → None ≡ number_in most low high text
overflowed most low high text e = go (nat_le 1 (length text) && nat_le (length text) most)
  where
    go : (b : Bool) → None ≡ cond b (option_and_then (within low high) (number_after 0 text)) None
    go true = sym e
    go false = refl
