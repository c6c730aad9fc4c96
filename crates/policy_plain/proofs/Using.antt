-- The chunks that were used stay so few that there is room for one more.
use Rattle.std.proofs.Common.{◌≡◌, ◌<◌, ◌≤◌, ◌==◌, ◌&&◌, ◌||◌, not, ℕ, Bool, true, false, List, [], ◌∷◌, ◌++◌, length, nat_lt, filter, if◌then◌else◌, refl, arith}
use Rattle.std.specs.List.{All, list_any, AllByRecursion, IsDistinct}
use Rattle.std.proofs.Math.Dec.{eqb}
use Rattle.std.proofs.lemmas.Bool.Decides.{nat_tests}
use Rattle.std.proofs.lemmas.List.{length_push}
use Rattle.std.proofs.lemmas.List.Elements.{All-from_recursion}
use Rattle.std.proofs.lemmas.Map.Steps.{length-le_from_distinct_below}
use Rattle.scan_story.specs.Counting.{has}
use Rattle.scan_story.specs.Policies.{moved_last}
use Rattle.chunk_interest.proofs.Below.{true_false, either}
use Rattle.policy_plain.specs.Uses.{are_uses}

first : (a b : Bool) → (a && b) ≡ true → a ≡ true
first true b e = refl
first false b e = absurd (true_false false e refl)

second : (a b : Bool) → (a && b) ≡ true → b ≡ true
second true b e = e
second false b e = absurd (true_false false e refl)

isnt : (a : Bool) → not a ≡ true → a ≡ false
isnt false e = refl
isnt true e = absurd (true_false false e refl)

turned : (a b : ℕ) → (b == a) ≡ false → (a == b) ≡ false
turned a b e = grind (arith, nat_tests)

all_three : (a b d : Bool) → a ≡ true → b ≡ false → d ≡ true → (a && (not b && d)) ≡ true
all_three a b d ea eb ed = rw (ea, eb, ed) refl

-- taking the chunk out and putting it at the end brings no other chunk in
none_else : (c x : ℕ) → (c == x) ≡ false → (xs : List ℕ) → has xs x ≡ false → has (moved_last xs c) x ≡ false
none_else c x other [] none = rw other refl
none_else c x other (y ∷ ys) none = let e = either (y == x) (has ys x) none in at_head (not (y == c)) e.0 (none_else c x other ys e.1)
  where
    at_head : (b : Bool) → (y == x) ≡ false → has (moved_last ys c) x ≡ false → has ((if b then y ∷ filter (λ z. not (z == c)) ys else filter (λ z. not (z == c)) ys) ++ c ∷ []) x ≡ false
    at_head true head rest = rw head rest
    at_head false head rest = rest

pub uses_moved : (c : ℕ) → c < 1024 → (xs : List ℕ) → are_uses xs ≡ true → are_uses (moved_last xs c) ≡ true
uses_moved c small [] uses = alone (nat_lt c 1024) (grind (arith, nat_tests, small))
  where
    alone : (a : Bool) → a ≡ true → (a && (not false && true)) ≡ true
    alone a e = rw e refl
uses_moved c small (x ∷ xs) uses =
    let rest = second (nat_lt x 1024) (not (has xs x) && are_uses xs) uses in
    at_head (not (x == c)) refl (isnt (has xs x) (first (not (has xs x)) (are_uses xs) rest)) (uses_moved c small xs (second (not (has xs x)) (are_uses xs) rest))
  where
    at_head : (b : Bool) → not (x == c) ≡ b → has xs x ≡ false → are_uses (moved_last xs c) ≡ true
        → are_uses ((if b then x ∷ filter (λ z. not (z == c)) xs else filter (λ z. not (z == c)) xs) ++ c ∷ []) ≡ true
    at_head true other none moved = all_three (nat_lt x 1024) (has (moved_last xs c) x) (are_uses (moved_last xs c)) (first (nat_lt x 1024) (not (has xs x) && are_uses xs) uses)
        (none_else c x (turned c x (isnt (x == c) other)) xs none) moved
    at_head false same none moved = moved

-- distinct numbers below 1024 are at most 1024
apart : (x : ℕ) (xs : List ℕ) → has xs x ≡ false → AllByRecursion (λ (y : ℕ). eqb x y ≡ false) xs
apart x [] none = tt
apart x (y ∷ ys) none = let e = either (y == x) (has ys x) none in (turned x y e.0, apart x ys e.1)

distinct : (xs : List ℕ) → are_uses xs ≡ true → IsDistinct eqb xs
unfolding IsDistinct
distinct [] uses = tt
distinct (x ∷ xs) uses =
    let rest = second (nat_lt x 1024) (not (has xs x) && are_uses xs) uses in
    (apart x xs (isnt (has xs x) (first (not (has xs x)) (are_uses xs) rest)), distinct xs (second (not (has xs x)) (are_uses xs) rest))

below : (q : ℕ) (xs : List ℕ) → are_uses xs ≡ true → list_any (eqb q) xs ≡ true → q < 1024
below q [] uses there = absurd (true_false false there refl)
below q (x ∷ xs) uses there = at_head (eqb q x) refl there (below q xs (second (not (has xs x)) (are_uses xs) (second (nat_lt x 1024) (not (has xs x) && are_uses xs) uses)))
  where
    same : (a b : ℕ) → eqb a b ≡ true → nat_lt b 1024 ≡ true → a < 1024
    same a b e lt = grind (arith, nat_tests)

    at_head : (b : Bool) → eqb q x ≡ b → (b || list_any (eqb q) xs) ≡ true → (list_any (eqb q) xs ≡ true → q < 1024) → q < 1024
    at_head true is there rest = same q x is (first (nat_lt x 1024) (not (has xs x) && are_uses xs) uses)
    at_head false is there rest = rest there

pub uses_few : (xs : List ℕ) → are_uses xs ≡ true → length xs ≤ 1024
uses_few xs uses = length-le_from_distinct_below xs 1024 (distinct xs uses) (λ q there. below q xs uses there)

-- without the chunk there is room for it
pub room_for : (c : ℕ) (xs : List ℕ) → c < 1024 → are_uses xs ≡ true → length (filter (λ x. not (x == c)) xs) < 1024
room_for c xs small uses =
    let few = uses_few (moved_last xs c) (uses_moved c small xs uses) in
    let long = length_push (filter (λ x. not (x == c)) xs) c in
    omega (arith, few, long)

small_each : (xs : List ℕ) → are_uses xs ≡ true → AllByRecursion (λ (c : ℕ). c < 1024) xs
small_each [] uses = tt
small_each (x ∷ xs) uses =
    let rest = second (nat_lt x 1024) (not (has xs x) && are_uses xs) uses in
    (small_of x (first (nat_lt x 1024) (not (has xs x) && are_uses xs) uses), small_each xs (second (not (has xs x)) (are_uses xs) rest))
  where
    small_of : (a : ℕ) → nat_lt a 1024 ≡ true → a < 1024
    small_of a lt = grind (arith, nat_tests)

pub uses_small : (xs : List ℕ) → are_uses xs ≡ true → All (λ (c : ℕ). c < 1024) xs
uses_small xs uses = All-from_recursion (λ (c : ℕ). c < 1024) xs (small_each xs uses)
