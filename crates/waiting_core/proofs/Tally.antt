-- Each step keeps the count.
use Rattle.std.proofs.Common.{◌≡◌, ◌+◌, ◌<◌, ◌≤◌, true, false, ℕ, Bool, refl, sym, subst, arith}
use Rattle.scan_story.specs.Counting.{count_below}
use Rattle.story_laws.proofs.Counts.{count_zero}
use Rattle.waiting_core.specs.Put.{put}
use Rattle.waiting_core.specs.Count.{Keeps, StepsKeep, NobodyIsHidden}
use Rattle.waiting_core.specs.Count.Does.{Raises, Notes, Clears, Lowers}
use Rattle.waiting_core.proofs.Puts.{changed}

-- a place that is noted counts one more at most
noted : (f : ℕ → Bool) (w : ℕ) (k : ℕ) → w < k → (a : Bool) → f w ≡ a → count_below (put f w true) k ≤ count_below f k + 1
noted f w k lt true e = let c = changed f w true true k lt e in omega (arith, c)
noted f w k lt false e = let c = changed f w false true k lt e in omega (arith, c)

pub steps_keep : StepsKeep
steps_keep k w Raises r t lt s i = subst (Keeps k) (sym s.1) (let a = changed r.adds w false true k lt s.0 in omega (arith, i, a))
steps_keep k w Notes r t lt s i = subst (Keeps k) (sym s.1) (let a = changed r.adds w true false k lt s.0 in let b = noted r.lies w k lt (r.lies w) refl in omega (arith, i, a, b))
steps_keep k w (Clears v) r t lt s i = subst (Keeps k) (sym s.3) (let a = changed r.lies v true false k s.0 s.1 in let b = changed r.owes w false true k lt s.2 in omega (arith, i, a, b))
steps_keep k w Lowers r t lt s i = subst (Keeps k) (sym s.3) (let a = changed r.owes w true false k lt s.1 in let b = s.2 in omega (arith, i, a, b))

pub nobody_is_hidden : NobodyIsHidden
nobody_is_hidden k r i none v lt = count_zero r.lies k v (omega (arith, i, none)) lt
