-- The places of a list, read from its end.
use Rattle.std.proofs.Common.{◌≡◌, ◌<◌, ◌≤◌, ◌==◌, ◌+◌, ◌∷◌, ℕ, Bool, true, false, if◌then◌else◌, List, length, drop, get_or, refl, sym, ◌∙◌, ap, arith}
use Rattle.std.proofs.lemmas.Bool.Decides.{nat_tests}
use Rattle.std.proofs.lemmas.List.{drop_all, drop_more}
use Rattle.scan_story.specs.Policies.{place_in}

-- a place in the rest of a list, in the list of which so many stand before it
abbrev pub shifted : ℕ → ℕ → ℕ
shifted n p = if p == 0 then 0 else p + n

pub unshifted : (p : ℕ) → shifted 0 p ≡ p
unshifted p = at (p == 0) refl
  where
    at : (b : Bool) → (p == 0) ≡ b → (if b then 0 else p + 0) ≡ p
    at true e = grind (arith, nat_tests, e)
    at false e = omega arith

joined : (i p : ℕ) (b : Bool) → shifted i (if b then 1 else (if p == 0 then 0 else p + 1)) ≡ (if b then i + 1 else shifted (i + 1) p)
joined i p true = omega arith
joined i p false = at (p == 0)
  where
    some : (b : Bool) → (p + 1 == 0) ≡ b → (if b then 0 else p + 1 + i) ≡ p + (i + 1)
    some true e = absurd (grind (arith, nat_tests, e))
    some false e = omega arith

    at : (b : Bool) → shifted i (if b then 0 else p + 1) ≡ (if b then 0 else p + (i + 1))
    at true = refl
    at false = some (p + 1 == 0) refl

-- behind the end there is none
pub ended : (xs : List ℕ) (n x : ℕ) → length xs ≤ n → shifted n (place_in (drop n xs) x) ≡ 0
ended xs n x le = ap (λ (ys : List ℕ). shifted n (place_in ys x)) (drop_all n xs le)

pub noted_more : (xs : List ℕ) (i n : ℕ) (old new : List ℕ) → n ≡ i + 1 → i < length xs → ((c : ℕ) → c < 1024 → get_or old c 0 ≡ shifted n (place_in (drop n xs) c))
    → ((x : ℕ) → x < 1024 → get_or new x 0 ≡ (if get_or xs i 0 == x then i + 1 else get_or old x 0)) → (c : ℕ) → c < 1024 → get_or new c 0 ≡ shifted i (place_in (drop i xs) c)
noted_more xs i n old new next lt was is c small =
    let x = get_or xs i 0 in
    let p = place_in (drop (i + 1) xs) c in
    let before : get_or old c 0 ≡ shifted (i + 1) p = was c small ∙ ap (λ (k : ℕ). shifted k (place_in (drop k xs) c)) next in
    is c small ∙ (ap (λ (k : ℕ). if x == c then i + 1 else k) before ∙ (sym (joined i p (x == c)) ∙ ap (λ (ys : List ℕ). shifted i (place_in ys c)) (sym (drop_more xs i 0 lt))))
