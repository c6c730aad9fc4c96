use Rattle.std.proofs.Common.{◌≡◌, ◌+◌, ◌<◌, ◌^◌, ℕ, get_or}
use Rattle.csv_load.specs.Fronts.{front_number}
use Rattle.csv_load.proofs.front.number_from.Given as goal

abbrev pub invariant-loop-place : goal.invariant-loop-place
invariant-loop-place l = record {
  is : l.number ≡ front_number l.from l.text l.place;
  bytes : (k : ℕ) → k < l.place → get_or l.text (l.from + k) 0 < 256;
  small : l.number < 256 ^ l.place;
}
