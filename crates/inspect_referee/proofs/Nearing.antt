-- The nearest member of a set, going up and around from a start.
use Rattle.std.proofs.Common.{◌≡◌, ◌<◌, ◌≤◌, ◌+◌, ◌-◌, ◌%◌, ℕ, Bool, true, false, List, Option, None, Some, IfNone, IfSome, refl, sym, ◌∙◌, ap, arith, inl, inr}
use Rattle.std.proofs.lemmas.Bool.{cases_lt}
use Rattle.std.proofs.lemmas.Nat.{mod_below}
use Rattle.std.proofs.Math.Nat.{mod-eq_of_lt, add-mod_right}
use Rattle.scan_story.specs.declared.setting.Setting.{Setting}
use Rattle.scan_story.specs.Counting.{has}
use Rattle.scan_story.specs.Policies.{dist_from}
use Rattle.table_sets.specs.Sets.{IsLeastFrom}
use Rattle.chunk_interest.proofs.Below.{true_false}
use Rattle.relevance.specs.Least.{PicksLeast}

pub up : (n start y : ℕ) → start < n → y < n → start ≤ y → (y + n - start % n) % n ≡ y - start
up n start y lt small from =
    let e : y + n - start ≡ y - start + n = omega (arith, from, lt) in
    ap (λ (k : ℕ). (y + n - k) % n) (mod-eq_of_lt lt) ∙ (ap (λ (k : ℕ). k % n) e ∙ (add-mod_right (y - start) n ∙ mod-eq_of_lt (omega (arith, small))))

pub around : (n start y : ℕ) → start < n → y < start → (y + n - start % n) % n ≡ y + n - start
around n start y lt before = ap (λ (k : ℕ). (y + n - k) % n) (mod-eq_of_lt lt) ∙ mod-eq_of_lt (omega (arith, lt, before))

at_most : (a b x y : ℕ) → a ≡ x → b ≡ y → x ≤ y → a ≤ b
at_most a b x y e f le = omega (arith, e, f, le)

-- the least member from the start on is the nearest
pub nearest_up : (s : Setting) (start c : ℕ) (members : List ℕ) → start < s.chunks → ((y : ℕ) → has members y ≡ true → y < s.chunks) → IsLeastFrom members start c → PicksLeast (has members) (dist_from s start) (Some c)
nearest_up s start c members lt inside least = record {
  candidate = least.there;
  best = λ y t. elim (cases_lt y start) [
    | inl before ↦ at_most (dist_from s start c) (dist_from s start y) (c - start) (y + s.chunks - start) here (around s.chunks start y lt before) (omega (arith, small, before, lt))
    | inr from ↦ elim (cases_lt y c) [
      | inl less ↦ absurd (true_false (has members y) t (least.least y from less))
      | inr not ↦ at_most (dist_from s start c) (dist_from s start y) (c - start) (y - start) here (up s.chunks start y lt (inside y t) from) (omega (arith, not, from))
    ]
  ];
}
  where
    small : c < s.chunks
    small = inside c least.there

    here : dist_from s start c ≡ c - start
    here = up s.chunks start c lt small least.from

-- where there is none from the start on, the least member is the nearest
pub nearest_around : (s : Setting) (start c : ℕ) (members : List ℕ) → start < s.chunks → ((x : ℕ) → start ≤ x → has members x ≡ false) → IsLeastFrom members 0 c → PicksLeast (has members) (dist_from s start) (Some c)
nearest_around s start c members lt none least = record {
  candidate = least.there;
  best = λ y t. at_most (dist_from s start c) (dist_from s start y) (c + s.chunks - start) (y + s.chunks - start) (around s.chunks start c lt (before c least.there)) (around s.chunks start y lt (before y t)) (not_less y t);
}
  where
    before : (y : ℕ) → has members y ≡ true → y < start
    before y t = elim (cases_lt y start) [
      | inl so ↦ so
      | inr from ↦ absurd (true_false (has members y) t (none y from))
    ]

    not_less : (y : ℕ) → has members y ≡ true → c + s.chunks - start ≤ y + s.chunks - start
    not_less y t = elim (cases_lt y c) [
      | inl less ↦ absurd (true_false (has members y) t (least.least y (omega arith) less))
      | inr not ↦ omega (arith, not, lt)
    ]

pub nearest_none : (s : Setting) (start : ℕ) (members : List ℕ) → ((x : ℕ) → 0 ≤ x → has members x ≡ false) → PicksLeast (has members) (dist_from s start) None
nearest_none s start members none = λ y. none y (omega arith)

pub picked_around : (s : Setting) (start : ℕ) (members : List ℕ) (r : Option ℕ) → start < s.chunks → ((x : ℕ) → start ≤ x → has members x ≡ false) → IfNone r ((x : ℕ) → 0 ≤ x → has members x ≡ false) → IfSome r (IsLeastFrom members 0)
    → PicksLeast (has members) (dist_from s start) r
picked_around s start members None lt none empty least = nearest_none s start members empty
picked_around s start members (Some c) lt none empty least = nearest_around s start c members lt none least

-- the nearest by a test and a distance that are the same
pub carried : (test pass : ℕ → Bool) (f g : ℕ → ℕ) (r : Option ℕ) → ((y : ℕ) → test y ≡ pass y) → ((y : ℕ) → f y ≡ g y) → PicksLeast test f r → PicksLeast pass g r
carried test pass f g None is same picked = λ y. sym (is y) ∙ picked y
carried test pass f g (Some c) is same picked = record {
  candidate = sym (is c) ∙ picked.candidate;
  best = λ y t. at_most (g c) (g y) (f c) (f y) (sym (same c)) (sym (same y)) (picked.best y (is y ∙ t));
}

-- a start past the chunks is the one that it comes to
pub same_start : (s : Setting) (start y : ℕ) → 0 < s.chunks → dist_from s (start % s.chunks) y ≡ dist_from s start y
same_start s start y some = ap (λ (k : ℕ). (y + s.chunks - k) % s.chunks) (mod-eq_of_lt (mod_below start s.chunks some))
