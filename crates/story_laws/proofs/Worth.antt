-- What a query is worth: two where it is stopped, and else what is available to it, at most two.
use Rattle.std.proofs.Common.{◌≡◌, ◌<◌, ◌≤◌, ◌+◌, ◌&&◌, ◌||◌, not, ℕ, Bool, true, false, if◌then◌else◌, min, refl, arith}
use Rattle.scan_story.specs.declared.setting.Setting.{Setting}
use Rattle.scan_story.specs.Counting.{count_below}
use Rattle.scan_story.specs.Numbers.{available}
use Rattle.scan_story.specs.Views.{History, is_ended, is_registered, is_stopped}
use Rattle.story_laws.proofs.Active.{active_parts}
use Rattle.story_laws.proofs.Bools.{and_both, both_and, not_both, not_false, or_false}

-- registered, stopped, ended, and how many chunks are available
abbrev pub worth_of : Bool → Bool → Bool → ℕ → ℕ
worth_of r t e m = (if t then 2 else 0) + (if r && not t && not e then min m 2 else 0)

abbrev pub worth : Setting → History → ℕ → ℕ
worth s h q = worth_of (is_registered h q) (is_stopped h q) (is_ended h q) (available s h q)

pub worth_le : (r t e : Bool) (m : ℕ) → worth_of r t e m ≤ 2
worth_le true true e m = omega arith
worth_le false true e m = omega arith
worth_le true false true m = omega arith
worth_le true false false m = omega arith
worth_le false false e m = omega arith

pub worth_mono : (r t e : Bool) (m n : ℕ) → min m 2 ≤ min n 2 → worth_of r t e m ≤ worth_of r t e n
worth_mono true true e m n le = omega arith
worth_mono false true e m n le = omega arith
worth_mono true false true m n le = omega arith
worth_mono true false false m n le = omega arith
worth_mono false false e m n le = omega arith

-- a chunk may be lost
pub worth_less : (r t e : Bool) (m n : ℕ) → m ≤ n + 1 → worth_of r t e m ≤ worth_of r t e n + 1
worth_less true true e m n le = omega arith
worth_less false true e m n le = omega arith
worth_less true false true m n le = omega arith
worth_less true false false m n le = omega arith
worth_less false false e m n le = omega arith

-- an active query with one chunk more
pub worth_more : (r t e : Bool) (m n : ℕ) → (r && not t && not e) ≡ true → m < 2 → m + 1 ≤ n → worth_of r t e m + 1 ≤ worth_of r t e n
worth_more true false false m n a lt le = omega arith
worth_more true false true m n a lt le = absurd cc
worth_more true true e m n a lt le = let p = active_parts true true e a in absurd (not_both true refl p.1)
worth_more false t e m n a lt le = let p = active_parts false t e a in absurd (not_both false p.0 refl)

pub worth_small : (r t e : Bool) (m : ℕ) → (r && not t && not e) ≡ true → m < 2 → worth_of r t e m ≤ 1
worth_small true false false m a lt = omega arith
worth_small true false true m a lt = absurd cc
worth_small true true e m a lt = let p = active_parts true true e a in absurd (not_both true refl p.1)
worth_small false t e m a lt = let p = active_parts false t e a in absurd (not_both false p.0 refl)

-- where an active query has a chunk close, less is worth less; elsewhere nothing is lost
pub worth_far : (r t e a b : Bool) (m n : ℕ) → (r && not t && not e && a && b) ≡ false → ((a && b) ≡ false → min m 2 ≡ min n 2) → worth_of r t e m ≤ worth_of r t e n
worth_far true true e a b m n far same = omega arith
worth_far false true e a b m n far same = omega arith
worth_far true false true a b m n far same = omega arith
worth_far true false false a b m n far same = omega (arith, same far)
worth_far false false e a b m n far same = omega arith

-- What is available to a query, by its chunks, its state, what was delivered, and what is wholly in frames

abbrev pub passes : Bool → Bool → (ℕ → Bool) → (ℕ → Bool) → (ℕ → Bool) → ℕ → Bool
passes t e k d w c = (k c && not t && not e && not (d c)) && w c

pub worth_registered : (x r t e : Bool) (m : ℕ) → worth_of r t e m ≤ worth_of (x || r) t e m
worth_registered true true t e m = omega arith
worth_registered false r t e m = omega arith
worth_registered true false true e m = omega arith
worth_registered true false false true m = omega arith
worth_registered true false false false m = omega arith

pub worth_stop : (x r t e : Bool) (k d w : ℕ → Bool) (n : ℕ) → worth_of r t e (count_below (passes t e k d w) n) ≤ worth_of r (x || t) e (count_below (passes (x || t) e k d w) n)
worth_stop true true t e k d w n = omega (arith, worth_le true t e (count_below (passes t e k d w) n))
worth_stop true false t e k d w n = omega (arith, worth_le false t e (count_below (passes t e k d w) n))
worth_stop false r t e k d w n = omega arith

-- at its end nothing is available to the query
pub worth_end : (x r t e : Bool) (k d w : ℕ → Bool) (n : ℕ) → (x ≡ true → count_below (passes t e k d w) n ≡ 0)
    → worth_of r t e (count_below (passes t e k d w) n) ≤ worth_of r t (x || e) (count_below (passes t (x || e) k d w) n)
worth_end false r t e k d w n none = omega arith
worth_end true r t e k d w n none = rw (none refl) (zeros r t e (count_below (passes t true k d w) n))
  where
    zeros : (r t e : Bool) (m : ℕ) → worth_of r t e 0 ≤ worth_of r t true m
    zeros true true e m = omega arith
    zeros true false true m = omega arith
    zeros true false false m = omega arith
    zeros false true e m = omega arith
    zeros false false e m = omega arith

-- A need before and after an entry: k asked, t stopped, e ended, d delivered; x is what the entry adds

-- what is said of a chunk that a query needs
pub need_parts : (k t e d : Bool) → (k && not t && not e && not d) ≡ true → (k ≡ true) × (t ≡ false) × (e ≡ false) × (d ≡ false)
need_parts k t e d p =
    let o = and_both (k && not t && not e) (not d) p in let q = and_both (k && not t) (not e) o.0 in let r = and_both k (not t) q.0 in
    (r.0, not_false t r.1, not_false e q.1, not_false d o.1)

pub needing : (k t e d : Bool) → k ≡ true → t ≡ false → e ≡ false → d ≡ false → (k && not t && not e && not d) ≡ true
needing k t e d a b c f = rw (a, b, c, f) refl

pub pass_drop : (x k t e d w : Bool) → ((k && not t && not e && not (x || d)) && w) ≡ true → ((k && not t && not e && not d) && w) ≡ true
pass_drop x k t e d w p =
    let o = and_both (k && not t && not e && not (x || d)) w p in let n = need_parts k t e (x || d) o.0 in
    both_and (k && not t && not e && not d) w (needing k t e d n.0 n.1 n.2 (or_false x d n.3).1) o.1

pub pass_keep : (x k t e d w : Bool) → x ≡ false → ((k && not t && not e && not d) && w) ≡ true → ((k && not t && not e && not (x || d)) && w) ≡ true
pass_keep true k t e d w f p = absurd cc
pass_keep false k t e d w f p = p

pub stop_drop : (x k t e d w : Bool) → ((k && not (x || t) && not e && not d) && w) ≡ true → ((k && not t && not e && not d) && w) ≡ true
stop_drop x k t e d w p =
    let o = and_both (k && not (x || t) && not e && not d) w p in let n = need_parts k (x || t) e d o.0 in
    both_and (k && not t && not e && not d) w (needing k t e d n.0 (or_false x t n.1).1 n.2 n.3) o.1

pub end_drop : (x k t e d w : Bool) → ((k && not t && not (x || e) && not d) && w) ≡ true → ((k && not t && not e && not d) && w) ≡ true
end_drop x k t e d w p =
    let o = and_both (k && not t && not (x || e) && not d) w p in let n = need_parts k t (x || e) d o.0 in
    both_and (k && not t && not e && not d) w (needing k t e d n.0 n.1 (or_false x e n.2).1 n.3) o.1

pub stop_keep : (x k t e d : Bool) → x ≡ false → (k && not t && not e && not d) ≡ true → (k && not (x || t) && not e && not d) ≡ true
stop_keep true k t e d f p = absurd cc
stop_keep false k t e d f p = p

pub end_keep : (x k t e d : Bool) → x ≡ false → (k && not t && not e && not d) ≡ true → (k && not t && not (x || e) && not d) ≡ true
end_keep true k t e d f p = absurd cc
end_keep false k t e d f p = p

pub deliver_keep : (x k t e d : Bool) → x ≡ false → (k && not t && not e && not d) ≡ true → (k && not t && not e && not (x || d)) ≡ true
deliver_keep true k t e d f p = absurd cc
deliver_keep false k t e d f p = p

pub two_at_least : (x t r e : Bool) (m : ℕ) → x ≡ true → 2 ≤ worth_of r (x || t) e m
two_at_least true t r e m f = omega arith
two_at_least false t r e m f = absurd cc
