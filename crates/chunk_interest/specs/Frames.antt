-- What the buffer keeps of frames and pieces, and what it stands for.
use Rattle.std.specs.Prelude.{◌≡◌, ◌+◌, ◌*◌, ◌/◌, ◌%◌, ◌<◌, ◌≤◌, ◌&&◌, not, ℕ, Bool, true}
use Rattle.std.specs.Prelude.{false, List, Option, None, Some, length, is_some, slice_index_or}
use Rattle.scan_story.specs.declared.view.Load.{Load}
use Rattle.scan_story.specs.declared.setting.Setting.{Setting}
use Rattle.scan_story.specs.Counting.{has, is_number, any_below, count_below, count_among}
use Rattle.scan_story.specs.Views.{History, piece_in, is_framed}
use Rattle.scan_story.specs.Loads.{underway, begins_in, fills_frame}
use Rattle.chunk_interest.specs.declared.frame.Frame.{Frame}
use Rattle.chunk_interest.specs.declared.frame.Frame.TheVariants.{Free, Begun, Holds}

-- a frame that holds this piece, if any, and that the load underway may have begun to fill
abbrev pub frame_with : Option ℕ → Bool → Frame
frame_with (Some p) begun = Holds p
frame_with None true = Begun
frame_with None false = Free

-- the frame of a history
abbrev pub frame_in : Setting → History → ℕ → Frame
frame_in s h f = frame_with (piece_in s h f) (fills_frame f (underway s h))

abbrev pub frame_at : List Frame → ℕ → Frame
frame_at frames f = slice_index_or frames f Free

abbrev pub place_at : List (Option ℕ) → ℕ → Option ℕ
place_at places p = slice_index_or places p None

-- the piece's place: a frame that has it, or none
abbrev pub IsPlace : Setting → History → ℕ → Option ℕ → Type 0
IsPlace s h p None = is_framed s h p ≡ false
IsPlace s h p (Some f) = (f < s.frames) × (piece_in s h f ≡ Some p)

-- each fill that the load began stands at its piece's group
abbrev pub HasBegun : Setting → List (Option ℕ) → Option Load → Type 0
HasBegun s begun None = Unit {0}
HasBegun s begun (Some l) = (f p : ℕ) → begins_in l f p ≡ true → place_at begun (p % s.groups) ≡ Some f

-- each number in the list is a frame's
abbrev pub NamesFrames : List Frame → List (Option ℕ) → Type 0
NamesFrames frames list = (p f : ℕ) → place_at list p ≡ Some f → f < length frames

-- how large the lists are, and that they name frames that there are
pub record IsSized (fs : List Frame) (ps bs : List (Option ℕ)) (n : ℕ) : Type 0 where
  pub frames : length fs ≤ 33554432
  pub places : length ps ≡ 16384
  pub begun : length bs ≡ 16
  pub groups : (1 ≤ n) × (n ≤ 16)
  pub placed : NamesFrames fs ps
  pub filling : NamesFrames fs bs

-- each chunk of n groups that has a piece in a frame is in the set
abbrev pub Covers : List (Option ℕ) → ℕ → List ℕ → Type 0
Covers places n chunks = (p : ℕ) → is_some (place_at places p) ≡ true → has chunks (p / n) ≡ true

-- the frame is one of those that are named
abbrev pub is_named : List (Option ℕ) → ℕ → ℕ → Bool
is_named begun n f = any_below (λ g. is_number f (place_at begun g)) n

-- a frame without a piece is free once the load is over
abbrev pub settled : Frame → Frame
settled Begun = Free
settled frame = frame

-- the frame has one of the n pieces from a piece on
abbrev pub has_of : List (Option ℕ) → ℕ → ℕ → ℕ → Bool
has_of places from n f = any_below (λ g. is_number f (place_at places (from + g))) n

-- how many of the missing pieces are not filled yet
abbrev pub open_pieces : Load → ℕ
open_pieces l = count_among (λ p. not (has l.filled p)) l.missing

-- how many pieces of chunk c at these groups are in no frame, of the n groups
abbrev pub missing_in : List (Option ℕ) → ℕ → List ℕ → ℕ → ℕ
missing_in places n reads c = count_below (λ g. has reads g && not (is_some (place_at places (c * n + g)))) n

-- how many pieces of chunk c are in frames
abbrev pub cached_in : List (Option ℕ) → ℕ → ℕ → ℕ
cached_in places n c = count_below (λ g. is_some (place_at places (c * n + g))) n

abbrev pub is_free_frame : Frame → Bool
is_free_frame Free = true
is_free_frame frame = false

-- how many frames are free
abbrev pub free_in : List Frame → ℕ
free_in frames = count_below (λ f. is_free_frame (frame_at frames f)) (length frames)

abbrev pub held_piece : Frame → Option ℕ
held_piece (Holds p) = Some p
held_piece frame = None
