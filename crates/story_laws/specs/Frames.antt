-- What stands in frames: of the load underway, and of chunks that are held.
use Rattle.std.specs.Prelude.{◌≡◌, ◌==◌, ◌<◌, ◌≤◌, ◌+◌, ◌*◌, ◌++◌, true, false, ℕ, Bool, ◌∷◌, None, Some, length}
use Rattle.std.specs.List.{list_any}
use Rattle.scan_story.specs.declared.entry.Entry.{Entry}
use Rattle.scan_story.specs.declared.entry.Entry.TheVariants.{Evict, Fill, Deliver, Release}
use Rattle.scan_story.specs.declared.view.Load.{Load}
use Rattle.scan_story.specs.declared.view.Hold.{Hold}
use Rattle.scan_story.specs.declared.setting.Setting.{Setting}
use Rattle.scan_story.specs.Counting.{has}
use Rattle.scan_story.specs.Setting.{chunk_of, pieces_read, worker_of}
use Rattle.scan_story.specs.Views.{History, piece_in, is_framed, is_wholly_framed, held_by}
use Rattle.scan_story.specs.Loads.{underway, begins, begins_in, is_open, free_frames}
use Rattle.scan_story.specs.MayFollow.{Allowed}
use Rattle.story_laws.specs.Lists.{NoneTwice}

-- no piece stands in two frames
abbrev pub NoPieceTwice : Setting → History → Type 0
NoPieceTwice s h =
    (f g p : ℕ) → f < s.frames → g < s.frames → piece_in s h f ≡ Some p → piece_in s h g ≡ Some p → f ≡ g

-- what stands in a frame is a piece of the table
abbrev pub FramesHavePieces : Setting → History → Type 0
FramesHavePieces s h = (f p : ℕ) → f < s.frames → piece_in s h f ≡ Some p → p < s.chunks * s.groups

-- Loads

-- what the load underway misses and hasn't filled is in no frame
abbrev pub MissingAreInNoFrame : Setting → History → Type 0
MissingAreInNoFrame s h =
    (l : Load) → underway s h ≡ Some l → (p : ℕ) → has l.missing p ≡ true → has l.filled p ≡ false
    → is_framed s h p ≡ false

-- what a load may miss: pieces of its chunk that its trigger reads, none twice, and at least one that isn't filled
pub record IsMissing (s : Setting) (l : Load) : Type 0 where
  pub some : 0 < length l.missing
  pub open_yet : is_open l ≡ true
  pub none_twice : NoneTwice l.missing
  pub few : length l.missing ≤ s.groups
  pub read : (p : ℕ) → has l.missing p ≡ true → has (pieces_read s l.query l.chunk) p ≡ true
  pub of_chunk : (p : ℕ) → has l.missing p ≡ true → chunk_of s p ≡ l.chunk

-- what a load has begun: missing pieces, each in one frame and no two in the same; the frame is empty until the piece
-- is filled
pub record IsBegun (s : Setting) (h : History) (l : Load) : Type 0 where
  pub missing : (p : ℕ) → begins l p ≡ true → has l.missing p ≡ true
  pub frame : (f p : ℕ) → begins_in l f p ≡ true → f < s.frames
  pub one_piece : (f p x : ℕ) → begins_in l f p ≡ true → begins_in l f x ≡ true → p ≡ x
  pub one_frame : (f g p : ℕ) → begins_in l f p ≡ true → begins_in l g p ≡ true → f ≡ g
  pub empty : (f p : ℕ) → begins_in l f p ≡ true → has l.filled p ≡ false → piece_in s h f ≡ None

-- the load underway is a worker's, of a chunk of the table; what it filled is in frames, and so is what its trigger
-- reads and it didn't miss; what it misses and hasn't filled is in no frame
pub record IsProper (s : Setting) (h : History) (l : Load) : Type 0 where
  pub worker : l.worker < s.workers
  pub chunk : l.chunk < s.chunks
  pub missing : IsMissing s l
  pub begun : IsBegun s h l
  pub begun_first : (p : ℕ) → has l.filled p ≡ true → begins l p ≡ true
  pub filled : (p : ℕ) → has l.filled p ≡ true → is_framed s h p ≡ true
  pub rest : (p : ℕ) → has (pieces_read s l.query l.chunk) p ≡ true → has l.missing p ≡ false → is_framed s h p ≡ true
  pub absent : (p : ℕ) → has l.missing p ≡ true → has l.filled p ≡ false → is_framed s h p ≡ false

abbrev pub LoadsAreProper : Setting → History → Type 0
LoadsAreProper s h = (l : Load) → underway s h ≡ Some l → IsProper s h l

-- as long as a load is underway, its chunk isn't wholly in frames for its trigger
abbrev pub TargetsAreNotWhole : Setting → History → Type 0
TargetsAreNotWhole s h = (l : Load) → underway s h ≡ Some l → is_wholly_framed s h l.query l.chunk ≡ false

-- an eviction frees a frame at least
abbrev pub EvictionFrees : Setting → History → Type 0
EvictionFrees s h = (w c : ℕ) → Allowed s h (Evict w c) → free_frames s h < free_frames s (Evict w c ∷ h)

-- a fill takes one frame at most
abbrev pub FillTakesOne : Setting → History → Type 0
FillTakesOne s h = (w f p : ℕ) → Allowed s h (Fill w f p) → free_frames s h ≤ free_frames s (Fill w f p ∷ h) + 1

-- Chunks that are held

-- who holds a chunk is a worker, and holds it for a query of its own
pub record IsHolder (s : Setting) (w : ℕ) (o : Hold) : Type 0 where
  pub worker : w < s.workers
  pub on : worker_of s o.query ≡ Some w

abbrev pub HoldersAreWorkers : Setting → History → Type 0
HoldersAreWorkers s h = (w : ℕ) (o : Hold) → held_by h w ≡ Some o → IsHolder s w o

-- a chunk that is held is wholly in frames for the query for which it is held
abbrev pub HeldAreFramed : Setting → History → Type 0
HeldAreFramed s h = (w : ℕ) (o : Hold) → held_by h w ≡ Some o → is_wholly_framed s h o.query o.chunk ≡ true

abbrev pub releases_by : ℕ → Entry → Bool
releases_by w (Release v q c) = v == w
releases_by w _ = false

-- a piece of the chunk that stood in a frame as the chunk was delivered stands there as long as the worker hasn't
-- released
abbrev pub HeldPiecesStay : Setting → History → Type 0
HeldPiecesStay s h =
    (w q c : ℕ) (later before : History) → h ≡ later ++ Deliver w q c ∷ before → list_any (releases_by w) later ≡ false
    → (f p : ℕ) → piece_in s before f ≡ Some p → chunk_of s p ≡ c → piece_in s h f ≡ Some p
