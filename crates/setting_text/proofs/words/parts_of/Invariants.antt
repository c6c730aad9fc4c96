use Rattle.std.proofs.Common.{◌≡◌, ◌≤◌, ◌++◌, ◌==◌, ℕ, map, length}
use Rattle.std.specs.List.{slice_split}
use Rattle.setting_text.proofs.words.parts_of.Given as goal

abbrev pub invariant-loop-place : goal.invariant-loop-place
invariant-loop-place l = record {
  split : map (λ p. p.now) l.parts.items ++ slice_split (λ (b : ℕ). b == l.mark) l.rest ≡ slice_split (λ (b : ℕ). b == l.mark) l.bytes;
  short : length l.rest ≤ length l.bytes;
}

abbrev pub decreases-loop-place : goal.decreases-loop-place
decreases-loop-place l = length l.rest
