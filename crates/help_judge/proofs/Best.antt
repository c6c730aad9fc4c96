-- Best candidates, by looking at each number below a bound.
use Rattle.std.proofs.Common.{◌≡◌, ◌<◌, ◌+◌, ◌-ℤ◌, ◌≤ℤ◌, ◌∷◌, [], ◌==◌, ◌&&◌, not, ℕ, pos, zero, suc, Bool, true, false, cond, List, find, Some, is_some, nat_le, refl, sym, ◌∙◌, ap, arith}
use Rattle.std.specs.List.{list_any}
use Rattle.std.proofs.lemmas.Bool.Decides.{nat_tests}
use Rattle.std.proofs.lemmas.Int.{ints}
use Rattle.scan_story.specs.declared.setting.Need.{Need}
use Rattle.scan_story.specs.Counting.{any_below}
use Rattle.scan_story.specs.Policies.{IsBest}
use Rattle.help_judge.specs.Tests.{is_best}
use Rattle.help_judge.proofs.Bools.{and2, all2, not_is, not_true, eqb_is, le_is, le_true, or_false, both_false, not_better, not_better_is}

below : (a b : ℕ) → a < suc b → (a == b) ≡ false → a < b
below a b l e = grind (arith, nat_tests)

pub none_at : (p : ℕ → Bool) (n y : ℕ) → any_below p n ≡ false → y < n → p y ≡ false
none_at p zero y e lt = absurd (omega arith)
none_at p (suc m) y e lt = let o = or_false (p m) (any_below p m) e in
    elim (y == m) as (λ b. (y == m) ≡ b → p y ≡ false) [
      | true ↦ λ t. ap p (eqb_is y m t) ∙ o.0
      | false ↦ λ t. none_at p m y o.1 (below y m lt t)
    ] refl

none_below : (p : ℕ → Bool) (n : ℕ) → ((y : ℕ) → p y ≡ false) → any_below p n ≡ false
none_below p zero f = refl
none_below p (suc n) f = both_false (p n) (any_below p n) (f n) (none_below p n f)

pub none_under : (p : ℕ → Bool) (n : ℕ) → ((y : ℕ) → y < n → p y ≡ false) → any_below p n ≡ false
none_under p zero f = refl
none_under p (suc n) f = both_false (p n) (any_below p n) (f n (omega arith)) (none_under p n (λ y lt. f y (omega arith)))

pub best_from : (candidate : ℕ → Bool) (at_most : ℕ → ℕ → Bool) (AtMost : ℕ → ℕ → Type 0) (n x : ℕ)
    → ((y : ℕ) → candidate y ≡ true → y < n) → ((a b : ℕ) → at_most a b ≡ true → AtMost a b)
    → is_best candidate at_most n x ≡ true → IsBest candidate AtMost x
best_from candidate at_most AtMost n x bound says e =
    let p = and2 (candidate x) (not (any_below (λ y. candidate y && not (at_most y x)) n)) e in record {
      candidate = p.0;
      best = λ y t. says y x (not_better_is (candidate y) (at_most y x)
          (none_at (λ k. candidate k && not (at_most k x)) n y (not_is (any_below (λ k. candidate k && not (at_most k x)) n) p.1) (bound y t)) t);
    }

pub best_to : (candidate : ℕ → Bool) (at_most : ℕ → ℕ → Bool) (AtMost : ℕ → ℕ → Type 0) (n x : ℕ)
    → ((a b : ℕ) → AtMost a b → at_most a b ≡ true)
    → IsBest candidate AtMost x → is_best candidate at_most n x ≡ true
best_to candidate at_most AtMost n x says best =
    all2 (candidate x) (not (any_below (λ y. candidate y && not (at_most y x)) n)) best.candidate
    (not_true (any_below (λ y. candidate y && not (at_most y x)) n)
    (none_below (λ y. candidate y && not (at_most y x)) n (λ y. not_better (candidate y) (at_most y x) (λ t. says y x (best.best y t)))))

-- over needs

pub none_needs : (p : ℕ → Bool) (y : ℕ) (ns : List Need) → list_any (λ n. p n.query) ns ≡ false → is_some (find (λ n. n.query == y) ns) ≡ true → p y ≡ false
none_needs p y [] none e = absurd cc
none_needs p y (n ∷ ns) none e =
    let a = or_false (p n.query) (list_any (λ m. p m.query) ns) none in
    elim (n.query == y) as (λ b. (n.query == y) ≡ b → is_some (cond b (Some n) (find (λ m. m.query == y) ns)) ≡ true → p y ≡ false) [
      | true ↦ λ t f. (ap p (sym (eqb_is n.query y t)) ∙ a.0)
      | false ↦ λ t f. none_needs p y ns a.1 f
    ] refl e

pub needs_none : (p : ℕ → Bool) (ns : List Need) → ((y : ℕ) → p y ≡ false) → list_any (λ n. p n.query) ns ≡ false
needs_none p [] f = refl
needs_none p (n ∷ ns) f = both_false (p n.query) (list_any (λ m. p m.query) ns) (f n.query) (needs_none p ns f)

pub rank_is : (a b c d : ℕ) → nat_le (a + d) (c + b) ≡ true → (pos a -ℤ pos b) ≤ℤ (pos c -ℤ pos d)
rank_is a b c d e = let l = le_is (a + d) (c + b) e in omega (arith, ints, l)

pub rank_true : (a b c d : ℕ) → (pos a -ℤ pos b) ≤ℤ (pos c -ℤ pos d) → nat_le (a + d) (c + b) ≡ true
rank_true a b c d e = le_true (a + d) (c + b) (omega (arith, ints, e))
