-- What a buffer stands for.
use Rattle.std.specs.Prelude.{◌≡◌, ◌<◌, ℕ, List, Option, length}
use Rattle.scan_story.specs.declared.setting.Setting.{Setting}
use Rattle.scan_story.specs.Views.{History}
use Rattle.scan_story.specs.Loads.{underway}
use Rattle.chunk_interest.specs.declared.frame.Frame.{Frame}
use Rattle.chunk_interest.specs.declared.buffer.Buffer.{Buffer}
use Rattle.chunk_interest.specs.Frames.{frame_in, frame_at, place_at, IsPlace, HasBegun}

-- the frames of the history, the place of each piece, and the fills that the load underway began
pub record AreFrames (s : Setting) (h : History) (n : ℕ) (fs : List Frame) (ps bs : List (Option ℕ)) : Type 0 where
  pub groups : n ≡ s.groups
  pub frames : length fs ≡ s.frames
  pub each : (f : ℕ) → f < s.frames → frame_at fs f ≡ frame_in s h f
  pub places : (p : ℕ) → p < 16384 → IsPlace s h p (place_at ps p)
  pub begun : HasBegun s bs (underway s h)

abbrev pub IsBuffer : Setting → History → Buffer → Type 0
IsBuffer s h b = AreFrames s h b.groups b.frames b.places.items b.begun.items
