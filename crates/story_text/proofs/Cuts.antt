-- Texts cut at a mark: where the first one is, and that there is one way to cut.
use Rattle.std.proofs.Common.{◌≡◌, ◌<◌, ◌≤◌, ◌+◌, ◌-◌, ◌∷◌, [], ◌++◌, ◌==◌, ◌&&◌, not, ℕ, zero, suc, Bool, true, false, List, length, take, drop, get_or, None, Some, refl, sym, ◌∙◌, ap, subst, arith}
use Rattle.std.proofs.lemmas.Grind.{common_steps}
use Rattle.std.specs.List.{position, position_or_len}
use Rattle.std.proofs.lemmas.List.{take_all, length-drop}
use Rattle.std.proofs.lemmas.List.Quantifiers.{position-Some}
use Rattle.std.proofs.lemmas.List.Sums.{fails_before_first}
use Rattle.std.proofs.lemmas.Bool.Decides.{nat_tests}
use Rattle.story_text.specs.Reading.{lacks, IsCut}

same_number : (a b : ℕ) → (a == b) ≡ true → a ≡ b
same_number a b e = grind (arith, nat_tests)

self_number : (a : ℕ) → (a == a) ≡ true
self_number a = grind (arith, nat_tests)

both : (a b : Bool) → a ≡ true → b ≡ true → (a && b) ≡ true
both true true e f = refl
both true false e f = absurd cc
both false b e f = absurd cc

first_of : (a b : Bool) → (not a && b) ≡ true → a ≡ false
first_of false b e = refl
first_of true b e = absurd cc

second_of : (a b : Bool) → (a && b) ≡ true → b ≡ true
second_of true b e = e
second_of false b e = absurd cc

cut_at : (mark : ℕ) (xs : List ℕ) (i : ℕ) → i < length xs → (get_or xs i 0 == mark) ≡ true → ((k : ℕ) → k < i → (get_or xs k 0 == mark) ≡ false) → IsCut mark xs (take i xs) (drop (suc i) xs)
cut_at mark [] i lt here before = absurd (omega (arith, lt))
cut_at mark (x ∷ xs) zero lt here before = record { first = refl; joined = ap (λ (b : ℕ). b ∷ xs) (same_number x mark here) }
cut_at mark (x ∷ xs) (suc i) lt here before =
    let again : IsCut mark xs (take i xs) (drop (suc i) xs) = cut_at mark xs i (omega (arith, lt)) here (λ k l. before (suc k) (omega (arith, l))) in record {
      first = both (not (x == mark)) (lacks mark (take i xs)) (ap not (before 0 (omega arith))) again.first;
      joined = ap (λ (l : List ℕ). x ∷ l) again.joined;
    }

lacks_by : (mark : ℕ) (xs : List ℕ) → ((k : ℕ) → k < length xs → (get_or xs k 0 == mark) ≡ false) → lacks mark xs ≡ true
lacks_by mark [] f = refl
lacks_by mark (x ∷ xs) f = both (not (x == mark)) (lacks mark xs) (ap not (f 0 (omega arith))) (lacks_by mark xs (λ k l. f (suc k) (omega (arith, l))))

-- at the place of the first mark the bytes are cut
pub cut_here : (mark : ℕ) (xs : List ℕ) (i : ℕ) → position (λ b. b == mark) xs ≡ Some i → IsCut mark xs (take i xs) (take (length xs - (i + 1)) (drop (i + 1) xs))
cut_here mark xs i e =
    let found = position-Some (λ b. b == mark) xs i 0 e in
    let whole : take (length xs - (i + 1)) (drop (i + 1) xs) ≡ drop (i + 1) xs = take_all (length xs - (i + 1)) (drop (i + 1) xs) (omega (arith, length-drop (i + 1) xs)) in
    let next : suc i ≡ i + 1 = omega arith in
    subst (λ (l : List ℕ). IsCut mark xs (take i xs) l) (ap (λ (n : ℕ). drop n xs) next ∙ sym whole) (cut_at mark xs i found.0 found.1 found.2)

-- with no place there is no mark
pub none_here : (mark : ℕ) (xs : List ℕ) → position (λ b. b == mark) xs ≡ None → lacks mark xs ≡ true
none_here mark xs e =
    let far : length xs ≤ position_or_len (λ b. b == mark) xs = grind (arith, common_steps) in
    lacks_by mark xs (λ k l. fails_before_first (λ b. b == mark) xs k 0 (omega (arith, far, l)))

-- there is one way to cut
pub one_cut : (mark : ℕ) (v w r q : List ℕ) → lacks mark v ≡ true → lacks mark w ≡ true → v ++ mark ∷ r ≡ w ++ mark ∷ q → (v ≡ w) × (r ≡ q)
one_cut mark [] [] r q e f same = (refl, cc)
one_cut mark [] (y ∷ w) r q e f same =
    let head : mark ≡ y = cc in let off = first_of (y == mark) (lacks mark w) f in
    let on : (y == mark) ≡ true = ap (λ b. b == mark) (sym head) ∙ self_number mark in absurd cc
one_cut mark (x ∷ v) [] r q e f same =
    let head : x ≡ mark = cc in let off = first_of (x == mark) (lacks mark v) e in
    let on : (x == mark) ≡ true = ap (λ b. b == mark) head ∙ self_number mark in absurd cc
one_cut mark (x ∷ v) (y ∷ w) r q e f same =
    let head : x ≡ y = cc in let tails : v ++ mark ∷ r ≡ w ++ mark ∷ q = cc in
    let again = one_cut mark v w r q (second_of (not (x == mark)) (lacks mark v) e) (second_of (not (y == mark)) (lacks mark w) f) tails in
    (let l = again.0 in cc, again.1)

-- what lacks the mark isn't cut
pub no_cut : (mark : ℕ) (bytes word rest : List ℕ) → lacks mark bytes ≡ true → bytes ≡ word ++ mark ∷ rest → ⊥
no_cut mark bytes word rest e same = inside word (subst (λ (l : List ℕ). lacks mark l ≡ true) same e)
  where
    inside : (w : List ℕ) → lacks mark (w ++ mark ∷ rest) ≡ true → ⊥
    inside [] k = let on = self_number mark in let off = first_of (mark == mark) (lacks mark rest) k in absurd cc
    inside (x ∷ w) k = inside w (second_of (not (x == mark)) (lacks mark (w ++ mark ∷ rest)) k)
