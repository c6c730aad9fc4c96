use Rattle.std.proofs.Common.{◌≡◌, ◌<◌, ℕ, true}
use Rattle.scan_story.specs.Counting.{has}
use Rattle.trial_scans.proofs.fitting.are_below.Given as goal

abbrev pub invariant-loop-x : goal.invariant-loop-x
invariant-loop-x l = ((x : ℕ) → has l.x-iterator x ≡ true → x < l.end) → (x : ℕ) → has l.numbers x ≡ true → x < l.end
