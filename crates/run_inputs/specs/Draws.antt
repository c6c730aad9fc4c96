-- The numbers from which a table is generated.
use Rattle.std.specs.Prelude.{ℕ, zero, suc, ◌+◌, ◌*◌, ◌/◌, ◌%◌}

-- the state after one more draw
unfoldable pub draw : ℕ → ℕ
draw x = (6364136223846793005 * x + 1442695040888963407) % 18446744073709551616

-- what a draw gives: the high 32 bits of the new state
abbrev pub drawn : ℕ → ℕ
drawn x = x / 4294967296

-- the state before row i: each row takes four draws
abbrev pub state : ℕ → ℕ → ℕ
state seed zero = seed
state seed (suc i) = draw (draw (draw (draw (state seed i))))
