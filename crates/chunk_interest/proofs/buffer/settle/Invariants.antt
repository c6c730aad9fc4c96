use Rattle.std.proofs.Common.{◌≡◌, ℕ, length, if◌then◌else◌}
use Rattle.chunk_interest.specs.Frames.{frame_at, is_named, settled}
use Rattle.chunk_interest.proofs.buffer.settle.Given as goal

abbrev pub invariant-loop-g : goal.invariant-loop-g
invariant-loop-g l = record {
  size : length l.frames ≡ length l.fn.frames;
  each : (f : ℕ) → frame_at l.frames f ≡ (if is_named l.begun l.g f then settled (frame_at l.fn.frames f) else frame_at l.fn.frames f);
}
