-- The best by whole numbers, and the fittest victim.
use Rattle.std.proofs.Common.{◌≡◌, ◌≤◌, ◌<◌, ◌==◌, ◌&&◌, ◌||◌, not, ◌⊎◌, ℕ, Bool, true, false, Option, None, Some, IfSome, is_none, is_some, nat_lt, refl, sym, ◌∙◌, ap, subst, arith, inl, inr}
use Rattle.std.proofs.lemmas.Bool.{cases_Bool}
use Rattle.std.proofs.lemmas.Bool.Decides.{nat_tests}
use Rattle.scan_story.specs.declared.setting.Setting.{Setting}
use Rattle.scan_story.specs.Views.{History}
use Rattle.scan_story.specs.Counting.{any_below}
use Rattle.scan_story.specs.Setting.{IsSetting, need_of}
use Rattle.scan_story.specs.Loads.{underway}
use Rattle.scan_story.specs.Numbers.{close, is_starved}
use Rattle.scan_story.specs.MayFollow.{is_target, is_trigger, is_victim}
use Rattle.scan_story.specs.Policies.{IsLeast, is_least_close}
use Rattle.chunk_interest.proofs.Below.{true_false, none_at, none_from}
use Rattle.chunk_interest.proofs.Kept.{and_first, victim_inside}
use Rattle.chunk_interest.proofs.Needs.{need_small}
use Rattle.relevance.specs.Best.{IsFirstBest}
use Rattle.relevance.proofs.Choosing.{IsOrder, IsBestBelow, best_is, first_of}
use Rattle.relevance.specs.declared.rated.Rated.{Rated}
use Rattle.relevance.specs.Rated.{rated, by_of, is_below, is_above, lowest_below, highest_below, number_in}
use Rattle.relevance.specs.declared.victim.Victim.{Victim}
use Rattle.relevance.specs.declared.victim.Fitness.{Fitness}
use Rattle.relevance.specs.Victims.{victim, fitness_of, is_fitter, PicksFittest, fittest_below, chunk_in}
use Rattle.relevance.specs.Least.{PicksLeast, PicksGreatest}

below_order : (test : ℕ → Bool) (f : ℕ → ℕ) → IsOrder is_below (λ a b. b ≤ a) test f
below_order test f = record {
  wins = λ a b e. below a b e;
  loses = λ a b e. not_below a b e;
  strict = λ a b e most. strictly a b e most;
  same = λ a. itself a;
  through = λ x y z t xy yz. on (f x) (f y) (f z) xy yz;
}
  where
    below : (a b : ℕ) → nat_lt a b ≡ true → a ≤ b
    below a b e = grind (arith, nat_tests)

    not_below : (a b : ℕ) → nat_lt a b ≡ false → b ≤ a
    not_below a b e = grind (arith, nat_tests)

    strictly : (a b : ℕ) → nat_lt a b ≡ true → b ≤ a → ⊥
    strictly a b e most = grind (arith, nat_tests)

    itself : (a : ℕ) → a ≤ a
    itself a = omega arith

    on : (a b c : ℕ) → b ≤ a → c ≤ b → c ≤ a
    on a b c x y = omega (arith, x, y)

above_order : (test : ℕ → Bool) (f : ℕ → ℕ) → IsOrder is_above (λ a b. a ≤ b) test f
above_order test f = record {
  wins = λ a b e. above a b e;
  loses = λ a b e. not_above a b e;
  strict = λ a b e most. strictly a b e most;
  same = λ a. itself a;
  through = λ x y z t xy yz. on (f x) (f y) (f z) xy yz;
}
  where
    above : (a b : ℕ) → nat_lt b a ≡ true → b ≤ a
    above a b e = grind (arith, nat_tests)

    not_above : (a b : ℕ) → nat_lt b a ≡ false → a ≤ b
    not_above a b e = grind (arith, nat_tests)

    strictly : (a b : ℕ) → nat_lt b a ≡ true → a ≤ b → ⊥
    strictly a b e most = grind (arith, nat_tests)

    itself : (a : ℕ) → a ≤ a
    itself a = omega arith

    on : (a b c : ℕ) → a ≤ b → b ≤ c → a ≤ c
    on a b c x y = omega (arith, x, y)

none_of : (test : ℕ → Bool) (n : ℕ) → ((y : ℕ) → test y ≡ true → y < n) → ((y : ℕ) → y < n → test y ≡ false) → (y : ℕ) → test y ≡ false
none_of test n bound none y = elim (cases_Bool (test y)) [
  | inl so ↦ none y (bound y so)
  | inr not ↦ not
]

pub lowest_is : (test : ℕ → Bool) (f : ℕ → ℕ) (n : ℕ) (best : Option Rated) (r : Option ℕ) → ((y : ℕ) → test y ≡ true → y < n) → best ≡ lowest_below test f n → r ≡ number_in best → PicksLeast test f r
lowest_is test f n best r bound is e =
    subst (PicksLeast test f) (sym (e ∙ ap number_in is)) (from (lowest_below test f n) (best_is rated (λ b. b.number) by_of (λ x k. refl) (λ x k. refl) is_below (λ a b. b ≤ a) test f (below_order test f) n))
  where
    from : (o : Option Rated) → IsBestBelow (λ b. b.number) by_of is_below (λ a b. b ≤ a) test f n o → PicksLeast test f (number_in o)
    from None none = none_of test n bound none
    from (Some b) found = record { candidate = found.0; best = λ y t. found.2 y (bound y t) t }

pub highest_is : (test : ℕ → Bool) (f : ℕ → ℕ) (n : ℕ) (best : Option Rated) (r : Option ℕ) → ((y : ℕ) → test y ≡ true → y < n) → best ≡ highest_below test f n → r ≡ number_in best → PicksGreatest test f r
highest_is test f n best r bound is e =
    subst (PicksGreatest test f) (sym (e ∙ ap number_in is)) (from (highest_below test f n) (best_is rated (λ b. b.number) by_of (λ x k. refl) (λ x k. refl) is_above (λ a b. a ≤ b) test f (above_order test f) n))
  where
    from : (o : Option Rated) → IsBestBelow (λ b. b.number) by_of is_above (λ a b. a ≤ b) test f n o → PicksGreatest test f (number_in o)
    from None none = none_of test n bound none
    from (Some b) found = record { candidate = found.0; best = λ y t. found.2 y (bound y t) t }

-- the least of those that have it least, and the least of those that have it most

pub lowest_first : (test : ℕ → Bool) (f : ℕ → ℕ) (n : ℕ) (best : Option Rated) (r : Option ℕ) → ((y : ℕ) → test y ≡ true → y < n) → best ≡ lowest_below test f n → r ≡ number_in best → IfSome r (IsFirstBest is_below test f)
lowest_first test f n best r bound is e =
    first_of rated (λ b. b.number) number_in by_of (record { numbered = λ x k. refl; keyed = λ x k. refl; none = refl; some = λ b. refl })
    is_below (λ a b. b ≤ a) test f (below_order test f) n bound best r is e

pub highest_first : (test : ℕ → Bool) (f : ℕ → ℕ) (n : ℕ) (best : Option Rated) (r : Option ℕ) → ((y : ℕ) → test y ≡ true → y < n) → best ≡ highest_below test f n → r ≡ number_in best → IfSome r (IsFirstBest is_above test f)
highest_first test f n best r bound is e =
    first_of rated (λ b. b.number) number_in by_of (record { numbered = λ x k. refl; keyed = λ x k. refl; none = refl; some = λ b. refl })
    is_above (λ a b. a ≤ b) test f (above_order test f) n bound best r is e

pub trigger_inside : (s : Setting) (h : History) (q : ℕ) → IsSetting s → is_trigger s h q ≡ true → q < 257
trigger_inside s h q ok e =
    let most = (need_small s q ok (front (is_some (need_of s q)) (is_none (underway s h)) (is_starved s h q) (any_below (is_target s h q) s.chunks) e)).1 in
    omega (arith, most)
  where
    front : (a b d f : Bool) → (a && b && d && f) ≡ true → a ≡ true
    front true b d f e = refl
    front false b d f e = absurd (true_false false e refl)

-- The fittest victim

-- b is as fit as a, or fitter
abbrev pub IsAsFit : Fitness → Fitness → Type 0
IsAsFit a b = (b.close < a.close) ⊎ ((b.close ≡ a.close) × (b.key ≤ a.key))

fit_order : (test : ℕ → Bool) (fitness : ℕ → Fitness) → IsOrder is_fitter IsAsFit test fitness
fit_order test fitness = record {
  wins = λ a b e. fitter a.close a.key b.close b.key e;
  loses = λ a b e. not_fitter a.close a.key b.close b.key e;
  strict = λ a b e most. strictly a.close a.key b.close b.key e most;
  same = λ a. inr (refl, itself a.key);
  through = λ x y z t xy yz. on (fitness x) (fitness y) (fitness z) xy yz;
}
  where
    fitter : (c k d l : ℕ) → (nat_lt c d || (c == d && nat_lt k l)) ≡ true → (c < d) ⊎ ((c ≡ d) × (k ≤ l))
    fitter c k d l e = grind (arith, nat_tests)

    not_fitter : (c k d l : ℕ) → (nat_lt c d || (c == d && nat_lt k l)) ≡ false → (d < c) ⊎ ((d ≡ c) × (l ≤ k))
    not_fitter c k d l e = grind (arith, nat_tests)

    strictly : (c k d l : ℕ) → (nat_lt c d || (c == d && nat_lt k l)) ≡ true → (d < c) ⊎ ((d ≡ c) × (l ≤ k)) → ⊥
    strictly c k d l e (inl lt) = grind (arith, nat_tests)
    strictly c k d l e (inr f) = let same = f.0 in let most = f.1 in grind (arith, nat_tests)

    itself : (a : ℕ) → a ≤ a
    itself a = omega arith

    on : (a b c : Fitness) → IsAsFit a b → IsAsFit b c → IsAsFit a c
    on a b c (inl x) (inl y) = inl (omega (arith, x, y))
    on a b c (inl x) (inr y) = inl (let e = y.0 in omega (arith, x, e))
    on a b c (inr x) (inl y) = inl (let e = x.0 in omega (arith, e, y))
    on a b c (inr x) (inr y) = inr (y.0 ∙ x.0, let k = x.1 in let l = y.1 in omega (arith, k, l))

-- no victim is closer than one of least close
no_closer : (s : Setting) (h : History) (x y : ℕ) → is_victim s h x ≡ true → is_least_close s h y ≡ true → close s h y ≤ close s h x
no_closer s h x y so t = not_closer (is_victim s h x) (close s h x) (close s h y) so (none_at closer s.chunks x (second (is_victim s h y) (any_below closer s.chunks) t) (victim_inside s h x so))
  where
    closer : ℕ → Bool
    closer z = is_victim s h z && nat_lt (close s h z) (close s h y)

    second : (a b : Bool) → (a && not b) ≡ true → b ≡ false
    second true false e = refl
    second true true e = absurd (true_false false e refl)
    second false b e = absurd (true_false false e refl)

    not_closer : (v : Bool) (m n : ℕ) → v ≡ true → (v && nat_lt m n) ≡ false → n ≤ m
    not_closer true m n so e = grind (arith, nat_tests)
    not_closer false m n so e = absurd (true_false false so refl)

-- the fittest is one of least close, and of those of least key
least_close : (s : Setting) (h : History) (key : ℕ → ℕ) (x : ℕ) → is_victim s h x ≡ true
    → ((y : ℕ) → is_victim s h y ≡ true → (close s h x < close s h y) ⊎ ((close s h x ≡ close s h y) × (key x ≤ key y))) → IsLeast (is_least_close s h) key x
least_close s h key x so fit = record {
  candidate = both (is_victim s h x) (any_below (closer x) s.chunks) so (none_from (closer x) s.chunks (λ y lt. beaten (is_victim s h y) (close s h y) (close s h x) (λ t. at_least (close s h x) (close s h y) (key x) (key y) (fit y t))));
  best = λ y t. in_keys (close s h x) (close s h y) (key x) (key y) (no_closer s h x y so t) (fit y (and_first (is_victim s h y) (not (any_below (closer y) s.chunks)) t));
}
  where
    closer : ℕ → ℕ → Bool
    closer c y = is_victim s h y && nat_lt (close s h y) (close s h c)

    both : (a b : Bool) → a ≡ true → b ≡ false → (a && not b) ≡ true
    both a b x y = rw (x, y) refl

    beaten : (v : Bool) (m n : ℕ) → (v ≡ true → n ≤ m) → (v && nat_lt m n) ≡ false
    beaten false m n f = refl
    beaten true m n f = let le = f refl in grind (arith, nat_tests)

    at_least : (m n k l : ℕ) → (m < n) ⊎ ((m ≡ n) × (k ≤ l)) → m ≤ n
    at_least m n k l (inl lt) = omega (arith, lt)
    at_least m n k l (inr e) = let same = e.0 in omega (arith, same)

    in_keys : (m n k l : ℕ) → n ≤ m → (m < n) ⊎ ((m ≡ n) × (k ≤ l)) → k ≤ l
    in_keys m n k l le (inl lt) = absurd (omega (arith, le, lt))
    in_keys m n k l le (inr e) = e.1

-- what is compared: how close the chunk is, and the key
pub record IsFitness (s : Setting) (h : History) (key : ℕ → ℕ) (fitness : ℕ → Fitness) : Type 0 where
  pub closeness : (c : ℕ) → (fitness c).close ≡ close s h c
  pub keys : (c : ℕ) → c < s.chunks → (fitness c).key ≡ key c

-- the first of the fittest is the first of those of least key among the victims of least close
first_fittest : (s : Setting) (h : History) (fitness : ℕ → Fitness) (key : ℕ → ℕ) (x : ℕ) → IsFitness s h key fitness → IsFirstBest is_fitter (is_victim s h) fitness x → IsFirstBest is_below (is_least_close s h) key x
first_fittest s h fitness key x is found = record {
  candidate = least.candidate;
  best = λ y t. not_less (key y) (key x) (least.best y t);
  first = λ y lt t. (let v = victim_of y t in let at_x = is.closeness x in let at_y = is.closeness y in let le = no_closer s h x y found.candidate t in
      less_key (fitness x).close (fitness x).key (fitness y).close (fitness y).key (key x) (key y) (is.keys x (victim_inside s h x found.candidate)) (is.keys y (victim_inside s h y v)) (omega (arith, at_x, at_y, le)) (found.first y lt v));
}
  where
    victim_of : (y : ℕ) → is_least_close s h y ≡ true → is_victim s h y ≡ true
    victim_of y t = and_first (is_victim s h y) (not (any_below (λ z. is_victim s h z && nat_lt (close s h z) (close s h y)) s.chunks)) t

    by_key : (y : ℕ) → is_victim s h y ≡ true → IsAsFit (fitness y) (fitness x) → (close s h x < close s h y) ⊎ ((close s h x ≡ close s h y) × (key x ≤ key y))
    by_key y v (inl lt) = inl (let a = is.closeness x in let b = is.closeness y in omega (arith, lt, a, b))
    by_key y v (inr f) = inr (sym (is.closeness x) ∙ (f.0 ∙ is.closeness y), let k = f.1 in let a = is.keys x (victim_inside s h x found.candidate) in let b = is.keys y (victim_inside s h y v) in omega (arith, k, a, b))

    least : IsLeast (is_least_close s h) key x
    least = least_close s h key x found.candidate (λ y v. by_key y v ((fit_order (is_victim s h) fitness).loses (fitness y) (fitness x) (found.best y v)))

    not_less : (a b : ℕ) → b ≤ a → nat_lt a b ≡ false
    not_less a b le = grind (arith, nat_tests)

    less_key : (c k d l a b : ℕ) → k ≡ a → l ≡ b → d ≤ c → (nat_lt c d || (c == d && nat_lt k l)) ≡ true → nat_lt a b ≡ true
    less_key c k d l a b x y le e = grind (arith, nat_tests)

pub fittest_first : (s : Setting) (h : History) (fitness : ℕ → Fitness) (key : ℕ → ℕ) (n : ℕ) (best : Option Victim) (r : Option ℕ) → n ≡ s.chunks → IsFitness s h key fitness
    → best ≡ fittest_below (is_victim s h) fitness n → r ≡ chunk_in best → IfSome r (IsFirstBest is_below (is_least_close s h) key)
fittest_first s h fitness key n best r all is at e =
    on_some r (first_of victim (λ b. b.chunk) chunk_in fitness_of (record { numbered = λ x k. refl; keyed = λ x k. refl; none = refl; some = λ b. refl }) is_fitter IsAsFit (is_victim s h) fitness (fit_order (is_victim s h) fitness)
    s.chunks (λ y t. victim_inside s h y t) best r (at ∙ ap (λ (k : ℕ). fittest_below (is_victim s h) fitness k) all) e)
  where
    on_some : (o : Option ℕ) → IfSome o (IsFirstBest is_fitter (is_victim s h) fitness) → IfSome o (IsFirstBest is_below (is_least_close s h) key)
    on_some None found = tt
    on_some (Some c) found = first_fittest s h fitness key c is found

pub fittest_is : (s : Setting) (h : History) (fitness : ℕ → Fitness) (key : ℕ → ℕ) (n : ℕ) (best : Option Victim) (r : Option ℕ) → n ≡ s.chunks → IsFitness s h key fitness
    → best ≡ fittest_below (is_victim s h) fitness n → r ≡ chunk_in best → PicksFittest s h key r
fittest_is s h fitness key n best r all is at e =
    subst (PicksFittest s h key) (sym (e ∙ (ap chunk_in at ∙ ap (λ (k : ℕ). chunk_in (fittest_below (is_victim s h) fitness k)) all)))
    (from (fittest_below (is_victim s h) fitness s.chunks) (fittest_first s h fitness key s.chunks (fittest_below (is_victim s h) fitness s.chunks) (chunk_in (fittest_below (is_victim s h) fitness s.chunks)) refl is refl refl)
    (best_is victim (λ b. b.chunk) fitness_of (λ x k. refl) (λ x k. refl) is_fitter IsAsFit (is_victim s h) fitness (fit_order (is_victim s h) fitness) s.chunks))
  where
    from : (o : Option Victim) → IfSome (chunk_in o) (IsFirstBest is_below (is_least_close s h) key) → IsBestBelow (λ b. b.chunk) fitness_of is_fitter IsAsFit (is_victim s h) fitness s.chunks o → PicksFittest s h key (chunk_in o)
    from None first none = none_of (is_victim s h) s.chunks (λ z t. victim_inside s h z t) none
    from (Some b) first found = record { candidate = first.candidate; best = λ y t. (below_order (is_least_close s h) key).loses (key y) (key b.chunk) (first.best y t) }
