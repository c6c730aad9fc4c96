-- How many frames are free.
use Rattle.std.specs.Prelude.{◌≡◌, ◌≤◌, ℕ, Bool, List, length, if◌then◌else◌}
use Rattle.chunk_interest.specs.declared.frame.Frame.{Frame}
use Rattle.chunk_interest.specs.Frames.{free_in}

abbrev pub bit : Bool → ℕ
bit b = if b then 1 else 0

-- this many of the frames are free
pub record CountsFree (frames : List Frame) (n : ℕ) : Type 0 where
  pub few : length frames ≤ 33554432
  pub free : n ≡ free_in frames
