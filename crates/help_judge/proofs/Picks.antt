-- The picks of the worked books, computed from the definitions.
use Rattle.std.proofs.Common.{◌≡◌, ◌<◌, ◌*◌, ◌&&◌, ◌||◌, not, ℕ, [], zero, suc, Bool, true, false, ◌++◌, nat_le, nat_lt, refl, arith, ◌∙◌, sym, ap, inl, inr}
use Rattle.std.proofs.lemmas.Bool.Decides.{nat_tests}
use Rattle.std.proofs.lemmas.Bool.{cases_Bool}
use Rattle.scan_story.specs.declared.ratio.Ratio.{Ratio}
use Rattle.scan_story.specs.declared.setting.Setting.{Setting}
use Rattle.scan_story.specs.declared.setting.PolicyName.TheVariants.{Relevance}
use Rattle.scan_story.specs.Counting.{any_below}
use Rattle.scan_story.specs.Views.{History, past, is_available, is_held}
use Rattle.scan_story.specs.Loads.{is_load_of, underway}
use Rattle.scan_story.specs.Numbers.{cached}
use Rattle.scan_story.specs.Ratios.{use_ratio, keep_ratio, IsAtMost}
use Rattle.scan_story.specs.MayFollow.{is_ready, is_victim, feeds_starved}
use Rattle.scan_story.specs.Policies.{BestDelivery, BestVictim}
use Rattle.help_judge.proofs.Stories.{shorter, both, full, filled_up, load_into}

-- where no number below n passes, each of them doesn't
none_below : (p : ℕ → Bool) (n y : ℕ) → any_below p n ≡ false → y < n → p y ≡ false
none_below p zero y none less = let no : ⊥ = omega (arith, less) in absurd no
none_below p (suc n) y none less = elim (cases_Bool (nat_lt y n)) [
  | inl so ↦ none_below p n y (rest (p n) (any_below p n) none) (grind (arith, nat_tests))
  | inr not ↦ let same : n ≡ y = grind (arith, nat_tests) in ap p (sym same) ∙ first (p n) (any_below p n) none
]
  where
    first : (a b : Bool) → (a || b) ≡ false → a ≡ false
    first false b e = refl
    first true b e = cc e

    rest : (a b : Bool) → (a || b) ≡ false → b ≡ false
    rest false b e = e
    rest true b e = cc e

below : (y n : ℕ) → nat_lt y n ≡ true → y < n
below y n e = grind (arith, nat_tests)

-- candidates are chunks of the setting
ready_below : (s : Setting) (h : History) (q y : ℕ) → is_ready s h q y ≡ true → y < s.chunks
ready_below s h q y e = below y s.chunks (front (nat_lt y s.chunks) (is_available s h q y) e)
  where
    front : (a b : Bool) → (a && b) ≡ true → a ≡ true
    front true b e = refl
    front false b e = cc e

victim_below : (s : Setting) (h : History) (y : ℕ) → is_victim s h y ≡ true → y < s.chunks
victim_below s h y e =
    below y s.chunks (front (nat_lt y s.chunks) (nat_lt 0 (cached s h y)) (not (is_load_of y (underway s h))) (not (is_held s h y)) (not (feeds_starved s h y)) e)
  where
    front : (a b c d x : Bool) → (a && b && c && d && x) ≡ true → a ≡ true
    front true b c d x e = refl
    front false b c d x e = absurd cc

beaten : (a b : Bool) → (a && not b) ≡ false → a ≡ true → b ≡ true
beaten true true e t = refl
beaten true false e t = cc e
beaten false b e t = cc t

-- a is at most b, as a test
abbrev is_at_most : Ratio → Ratio → Bool
is_at_most a b = nat_le (a.num * b.den) (b.num * a.den)

at_most : (a b : Ratio) → is_at_most a b ≡ true → IsAtMost a b
at_most a b e = grind (arith, nat_tests)

-- a delivery prefers the chunk that nobody else needs
abbrev prefers : History
prefers = past (both ++ load_into 0 1 0 0 ++ load_into 0 1 2 1)

delivery_of_chunk_0 : BestDelivery Relevance [] (shorter Relevance) prefers 1 0
delivery_of_chunk_0 = record {
  candidate = refl;
  best = λ y e.
      let inside : y < 3 = ready_below (shorter Relevance) prefers 1 y e in
      at_most (use_ratio (shorter Relevance) prefers 1 y) (use_ratio (shorter Relevance) prefers 1 0)
      (beaten (is_ready (shorter Relevance) prefers 1 y) (is_at_most (use_ratio (shorter Relevance) prefers 1 y) (use_ratio (shorter Relevance) prefers 1 0)) (none_below (λ x. is_ready (shorter Relevance) prefers 1 x && not (is_at_most (use_ratio (shorter Relevance) prefers 1 x) (use_ratio (shorter Relevance) prefers 1 0))) 3 y refl inside) e);
}

-- the victim that nobody needs
victim_of_chunk_3 : BestVictim Relevance [] full (past filled_up) 3
victim_of_chunk_3 = record {
  candidate = refl;
  best = λ y e.
      let inside : y < 9 = victim_below full (past filled_up) y e in
      at_most (keep_ratio full (past filled_up) 3) (keep_ratio full (past filled_up) y)
      (beaten (is_victim full (past filled_up) y) (is_at_most (keep_ratio full (past filled_up) 3) (keep_ratio full (past filled_up) y)) (none_below (λ x. is_victim full (past filled_up) x && not (is_at_most (keep_ratio full (past filled_up) 3) (keep_ratio full (past filled_up) x))) 9 y refl inside) e);
}
