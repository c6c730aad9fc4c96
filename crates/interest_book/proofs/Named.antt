-- Counts over the needs are counts over all queries, where only queries of needs count.
use Rattle.std.proofs.Common.{◌≡◌, ◌≢◌, ◌+◌, ◌∷◌, [], ◌==◌, ◌&&◌, ◌||◌, ℕ, Bool, true, false, if◌then◌else◌, List, find, Some, is_some, nat_lt, refl, sym, ◌∙◌, ap, arith}
use Rattle.std.specs.List.{list_any, AllByRecursion}
use Rattle.std.proofs.lemmas.Bool.Decides.{nat_tests}
use Rattle.scan_story.specs.declared.setting.Need as asked
use Rattle.scan_story.specs.declared.setting.Setting.{Setting}
use Rattle.scan_story.specs.Counting.{count_among, count_below}
use Rattle.scan_story.specs.Setting.{IsNeed, AreDistinct}
use Rattle.chunk_interest.proofs.Below.{equal_number, other_number}
use Rattle.chunk_interest.proofs.Counting.{count_add}
use Rattle.chunk_interest.proofs.Below.{count_none}

-- the query is one of these needs'
abbrev pub is_named : List asked.Need → ℕ → Bool
is_named ns q = is_some (find (λ n. n.query == q) ns)

unnamed : (x : ℕ) (ns : List asked.Need) → AllByRecursion (λ (n : asked.Need). x ≢ n.query) ns → is_named ns x ≡ false
unnamed x [] all = refl
unnamed x (n ∷ ns) all = ap (λ (b : Bool). is_some (if b then Some n else find (λ m. m.query == x) ns)) (other_number n.query x (λ e. all.0 (sym e))) ∙ unnamed x ns all.1

and_false : (b : Bool) → (b && false) ≡ false
and_false true = refl
and_false false = refl

and_true : (b : Bool) → (b && true) ≡ b
and_true true = refl
and_true false = refl

pub named_count : (s : Setting) (p : ℕ → Bool) (ns : List asked.Need) → AllByRecursion (IsNeed s) ns → AreDistinct ns → count_among (λ n. p n.query) ns ≡ count_below (λ q. p q && is_named ns q) 257
named_count s p [] all apart = sym (count_none (λ q. p q && false) 257 (λ q lt. and_false (p q)))
named_count s p (n ∷ ns) all apart =
    let x = n.query in
    let f : ℕ → Bool = λ q. p q && is_named (n ∷ ns) q in
    let g : ℕ → Bool = λ q. p q && is_named ns q in
    let small = all.0.query.1 in
    let out : g x ≡ false = ap (λ (b : Bool). p x && b) (unnamed x ns apart.0) ∙ and_false (p x) in
    let here : f x ≡ p x = ap (λ (b : Bool). p x && is_some (if b then Some n else find (λ m. m.query == x) ns)) (equal_number x x refl) ∙ and_true (p x) in
    let more = count_add f g 257 x (omega (arith, small)) (λ k ne. ap (λ (b : Bool). p k && is_some (if b then Some n else find (λ m. m.query == k) ns)) (other_number x k (λ e. ne (sym e)))) out in
    ap (λ (k : ℕ). if p x then k + 1 else k) (named_count s p ns all.1 apart.1)
    ∙ (ap (λ (b : Bool). if b then count_below g 257 + 1 else count_below g 257) (sym here) ∙ sym more)

-- some element passes where at least one is counted
pub some_among : {X : Type 0} (p : X → Bool) (xs : List X) → list_any p xs ≡ nat_lt 0 (count_among p xs)
some_among p [] = refl
some_among p (x ∷ xs) = at_head (p x) (some_among p xs)
  where
    at_head : (b : Bool) → list_any p xs ≡ nat_lt 0 (count_among p xs) → (b || list_any p xs) ≡ nat_lt 0 (if b then count_among p xs + 1 else count_among p xs)
    at_head true e = grind (arith, nat_tests)
    at_head false e = e

pub none_among : {X : Type 0} (p : X → Bool) (xs : List X) → ((x : X) → p x ≡ false) → count_among p xs ≡ 0
none_among p [] none = refl
none_among p (x ∷ xs) none = ap (λ (b : Bool). if b then count_among p xs + 1 else count_among p xs) (none x) ∙ none_among p xs none
