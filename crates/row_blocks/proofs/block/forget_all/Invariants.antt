use Rattle.std.proofs.Common.{◌≡◌, ◌<◌, ℕ}
use Rattle.row_blocks.specs.Blocks.{lane_in}
use Rattle.row_blocks.proofs.block.forget_all.Given as goal

-- the first lanes are NULL
abbrev pub invariant-loop-x : goal.invariant-loop-x
invariant-loop-x l = (x : ℕ) → x < l.x → (lane_in l.lanes x).nulls ≡ 18446744073709551615
