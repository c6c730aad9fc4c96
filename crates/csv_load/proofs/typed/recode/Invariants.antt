use Rattle.std.proofs.Common.{◌≡◌, ◌≤◌, ◌<◌, ℕ, length, get_or, None}
use Rattle.csv_load.specs.Typed.{through}
use Rattle.csv_load.proofs.typed.recode.Given as goal

abbrev pub invariant-loop-row : goal.invariant-loop-row
invariant-loop-row l = record {
  size : length l.places ≡ length l.fn.places;
  done : (k : ℕ) → k < l.row → get_or l.places k None ≡ through l.codes (get_or l.fn.places k None);
  left : (k : ℕ) → l.row ≤ k → get_or l.places k None ≡ get_or l.fn.places k None;
}
