-- Under relevance, where a candidate for a victim has close 0, so has the victim.
use Rattle.std.proofs.Common.{◌≡◌, ◌<◌, ◌≤◌, ◌+◌, ◌*◌, ◌&&◌, not, ℕ, List, zero, suc, Bool, true, false, if◌then◌else◌, nat_lt, refl, subst, arith}
use Rattle.std.proofs.Math.Nat.{mul-le-mul}
use Rattle.std.proofs.lemmas.Bool.Decides.{nat_tests}
use Rattle.scan_story.specs.declared.setting.Setting.{Setting}
use Rattle.scan_story.specs.declared.setting.PolicyName.TheVariants.{Relevance}
use Rattle.scan_story.specs.Counting.{count_below}
use Rattle.scan_story.specs.Views.{History, is_held, is_framed}
use Rattle.scan_story.specs.Loads.{is_load_of, underway}
use Rattle.scan_story.specs.Numbers.{close, interested, cached}
use Rattle.scan_story.specs.MayFollow.{is_victim, feeds_starved}
use Rattle.scan_story.specs.Policies.{BestVictim}

count_at_most : (p : ℕ → Bool) (n : ℕ) → count_below p n ≤ n
count_at_most p zero = omega arith
count_at_most p (suc n) = let k = count_at_most p n in more (p n) k
  where
    more : (b : Bool) → count_below p n ≤ n → (if b then count_below p n + 1 else count_below p n) ≤ suc n
    more true k = omega (arith, k)
    more false k = omega (arith, k)

second : (a b c d x : Bool) → (a && b && c && d && x) ≡ true → b ≡ true
second true true c d x e = refl
second true false c d x e = absurd cc
second false b c d x e = absurd cc

victim_cached : (s : Setting) (h : History) (c : ℕ) → is_victim s h c ≡ true → 0 < cached s h c
victim_cached s h c t =
    let e : nat_lt 0 (cached s h c) ≡ true = second (nat_lt c s.chunks) (nat_lt 0 (cached s h c)) (not (is_load_of c (underway s h))) (not (is_held s h c)) (not (feeds_starved s h c)) t in
    positive (cached s h c) e
  where
    positive : (n : ℕ) → nat_lt 0 n ≡ true → 0 < n
    positive n e = grind (arith, nat_tests)

-- k and i are close and interested of the victim, n and j the pieces and the interested of the other candidate
least : (k i n j m : ℕ) → (1024 * k + i) * n ≤ j * m → 1 ≤ n → j ≤ 32 → m ≤ 16 → k ≡ 0
least zero i n j m le one few pieces = refl
least (suc k) i n j m le one few pieces =
    let low : (1024 * suc k + i) * 1 ≤ (1024 * suc k + i) * n = mul-le-mul (le_self (1024 * suc k + i)) one in
    let high : j * m ≤ 32 * 16 = mul-le-mul few pieces in
    absurd (omega (arith, low, high, le))
  where
    le_self : (x : ℕ) → x ≤ x
    le_self x = omega arith

pub victim_is_close_to_none : (s : Setting) (h : History) (cursor : List ℕ) (c y : ℕ) → s.groups ≤ 16 → interested s h y ≤ 32
    → BestVictim Relevance cursor s h c → is_victim s h y ≡ true → close s h y ≡ 0 → close s h c ≡ 0
victim_is_close_to_none s h cursor c y groups few best other none =
    let over : (1024 * close s h c + interested s h c) * cached s h y ≤ (1024 * close s h y + interested s h y) * cached s h c = best.best y other in
    let zeroed : (1024 * close s h y + interested s h y) ≡ interested s h y = rw none (omega arith) in
    let P : ℕ → Type 0 = λ n. (1024 * close s h c + interested s h c) * cached s h y ≤ n * cached s h c in
    let pieces : cached s h c ≤ 16 = omega (arith, count_at_most (λ g. is_framed s h (c * s.groups + g)) s.groups) in
    least (close s h c) (interested s h c) (cached s h y) (interested s h y) (cached s h c) (subst P zeroed over) (victim_cached s h y other) few pieces
