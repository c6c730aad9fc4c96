-- The wrapping steps of a draw.
use Rattle.std.proofs.Common.{◌≡◌, ◌∙◌, ◌+◌, ◌*◌, ◌%◌, ℕ, ap}
use Rattle.std.proofs.Math.Nat.{mod-add-mod, mul_comm}
use Rattle.run_inputs.specs.Draws.{draw}

pub draw_wraps : (x : ℕ) → ((x * 6364136223846793005) % 18446744073709551616 + 1442695040888963407) % 18446744073709551616 ≡ draw x
unfolding draw
draw_wraps x = mod-add-mod (x * 6364136223846793005) 18446744073709551616 1442695040888963407
    ∙ ap (λ n. (n + 1442695040888963407) % 18446744073709551616) (mul_comm x 6364136223846793005)
