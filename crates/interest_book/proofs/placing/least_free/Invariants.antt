use Rattle.std.proofs.Common.{◌≡◌, ◌<◌, ℕ, false}
use Rattle.chunk_interest.specs.Frames.{frame_at, is_free_frame}
use Rattle.interest_book.proofs.placing.least_free.Given as goal

abbrev pub invariant-loop-f : goal.invariant-loop-f
invariant-loop-f l = (k : ℕ) → k < l.f → is_free_frame (frame_at l.frames k) ≡ false
