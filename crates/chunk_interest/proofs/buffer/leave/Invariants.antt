use Rattle.std.proofs.Common.{◌≡◌, ◌+◌, ◌&&◌, ℕ, None, length, nat_le, nat_lt, if◌then◌else◌}
use Rattle.chunk_interest.specs.Frames.{frame_at, place_at, has_of}
use Rattle.chunk_interest.specs.declared.frame.Frame.TheVariants.{Free}
use Rattle.chunk_interest.proofs.buffer.leave.Given as goal

abbrev pub invariant-loop-g : goal.invariant-loop-g
invariant-loop-g l = record {
  size : length l.frames ≡ length l.fn.frames;
  size_places : length l.places ≡ length l.fn.places;
  places : (p : ℕ) → place_at l.places p ≡ (if nat_le l.from p && nat_lt p (l.from + l.g) then None else place_at l.fn.places p);
  frames : (f : ℕ) → frame_at l.frames f ≡ (if has_of l.fn.places l.from l.g f then Free else frame_at l.fn.frames f);
}
