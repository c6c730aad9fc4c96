-- Columns, one behind the other; and one of two.
use Rattle.std.proofs.Common.{◌≡◌, ◌+◌, ◌<◌, ℕ, zero, suc, Bool, true, false, Some, List, [], ◌∷◌, ◌++◌, length, refl, ap, arith, inl, inr}
use Rattle.std.proofs.lemmas.Bool.{cases_Bool}
use Rattle.std.proofs.lemmas.List.{map-append}
use Rattle.std.specs.Prelude.{codes, decimal}
use Rattle.prepare_rules.specs.Outcome.{counted_names}
use Rattle.std.specs.Prelude.{Result, Ok, Err, if◌then◌else◌}
use Rattle.std.specs.Str.{bytes_eq}
use Rattle.prepare_rules.specs.Columns.{from_on, place_from}
use Rattle.prepare_rules.specs.Records.{Record}

-- those before, and then these, where all are there
abbrev pub onto : List ℕ → Result (List ℕ) ℕ → Result (List ℕ) ℕ
onto done (Err word) = Err word
onto done (Ok places) = Ok (done ++ places)

-- the numbers grow at their end
pub from_on-more : (at n : ℕ) → from_on at (n + 1) ≡ from_on at n ++ ((at + n) ∷ [])
from_on-more at zero = let p : at + 0 ≡ at = omega arith in rw p refl
from_on-more at (suc n) =
    let e : suc n + 1 ≡ suc (n + 1) = omega arith in
    let p : (at + 1) + n ≡ at + suc n = omega arith in
    rw e (ap (λ (l : List ℕ). at ∷ l) (rw p at (from_on-more (at + 1) n)))

pub counted-more : (n : ℕ) → counted_names (n + 1) ≡ counted_names n ++ ((codes "c" ++ decimal (n + 1)) ∷ [])
counted-more n = let p : 1 + n ≡ n + 1 = omega arith in rw (from_on-more 1 n, map-append, p) refl

-- a name that is found is one of those
pub place-within : (at : ℕ) (names : Record) (name : List ℕ) (p : ℕ) → place_from at names name ≡ Some p → p < at + length names
place-within at [] name p e = cc e
place-within at (n ∷ names) name p e = elim (cases_Bool (bytes_eq n name)) [
  | inl same ↦ let is : at ≡ p = cc (rw same at e) in omega (arith, is)
  | inr other ↦ let h = place-within (at + 1) names name p (rw other at e) in omega (arith, h)
]

pub first-of : {T : Type 0} (b : Bool) (x y : T) → b ≡ true → (if b then x else y) ≡ x
first-of true x y e = refl
first-of false x y e = cc e

pub second-of : {T : Type 0} (b : Bool) (x y : T) → b ≡ false → (if b then x else y) ≡ y
second-of true x y e = cc e
second-of false x y e = refl
