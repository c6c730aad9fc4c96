-- Workers with their frames, step by step: what each does to frames between the entries of the story.
use Rattle.std.specs.Prelude.{◌≡◌, ◌==◌, ◌<◌, ◌&&◌, ◌||◌, ◌⊎◌, ◌++◌, not, true}
use Rattle.std.specs.Prelude.{false, ℕ, Bool, List, [], ◌∷◌, Some, if◌then◌else◌}
use Rattle.std.specs.List.{list_any}
use Rattle.frame_core.specs.declared.phase.FramePhase.{FramePhase}
use Rattle.frame_core.specs.declared.phase.FramePhase.TheVariants.{Free, Marked, Ready}
use Rattle.frame_core.specs.declared.state.State.{State}
use Rattle.frame_core.specs.declared.step.Step.TheVariants as step
use Rattle.frame_core.specs.Machine.{Guard, after, state}
use Rattle.scan_story.specs.declared.entry.Entry.{Entry}
use Rattle.scan_story.specs.declared.entry.Entry.TheVariants.{Deliver, Failed, Filled, Release}
use Rattle.scan_story.specs.declared.setting.Setting.{Setting}
use Rattle.scan_story.specs.Counting.{has}
use Rattle.scan_story.specs.Setting.{IsSetting, HasRoom, pieces_read}
use Rattle.scan_story.specs.Views.{History, piece_in}
use Rattle.story_laws.specs.Every.{MayCome}
use Rattle.story_laws.specs.Frames.{releases_by}
use Rattle.story_ends.specs.Frames.{IsBeingFilled}

-- what the worker of the load underway has at hand: no frame, one that it has marked, or one that it has claimed
pub data Hand : Type 0 where
  Rests : Hand
  HasMarked : ℕ → Hand
  HasClaimed : ℕ → Hand

-- the story, the state of each frame, which worker pins which frame, and the hand
pub record Scene : Type 0 where
  pub story : History
  pub frames : ℕ → State
  pub pins : ℕ → ℕ → Bool
  pub hand : Hand

-- no entry, each frame free, no pin
abbrev pub first_scene : Scene
first_scene = record { story = []; frames = λ f. state Free 0 0; pins = λ w f. false; hand = Rests }

-- an entry is written; a worker pins a frame that is to have a piece, or unpins one; the worker of the load underway
-- marks a frame, claims it, and publishes a piece in it or abandons it
pub data Act : Type 0 where
  Writes : Entry → Act
  Pins : ℕ → ℕ → ℕ → Act
  Unpins : ℕ → ℕ → Act
  Marks : ℕ → Act
  Claims : ℕ → Act
  Publishes : ℕ → ℕ → Act
  Abandons : ℕ → Act

-- When an act is tried: what its worker knows by the story and by what it did itself

-- a chunk was delivered to the worker, which hasn't released since; the query reads the piece, which stood in the frame
pub record IsSlot (s : Setting) (h : History) (w f p : ℕ) : Type 0 where
  pub query : ℕ
  pub chunk : ℕ
  pub later : History
  pub before : History
  pub story : h ≡ later ++ Deliver w query chunk ∷ before
  pub unreleased : list_any (releases_by w) later ≡ false
  pub read : has (pieces_read s query chunk) p ≡ true
  pub frame : f < s.frames
  pub stood : piece_in s before f ≡ Some p

-- the frame was published with the piece
abbrev pub IsPublished : Scene → ℕ → ℕ → Type 0
IsPublished x f p = ((x.frames f).phase ≡ Ready) × ((x.frames f).piece ≡ p)

-- a chunk is released after its frames were unpinned; a read is noted after its piece was published, and what came of a
-- load while no frame is at hand
abbrev pub InOrder : Scene → Entry → Type 0
InOrder x (Release w q c) = (f : ℕ) → x.pins w f ≡ false
InOrder x (Filled w f p) = (x.hand ≡ Rests) × IsPublished x f p
InOrder x (Failed w q p why) = x.hand ≡ Rests
InOrder x _ = Unit {0}

abbrev pub MayTry : Setting → Scene → Act → Type 0
MayTry s x (Writes e) = MayCome s x.story e × InOrder x e
MayTry s x (Pins w f p) = IsSlot s x.story w f p × (x.pins w f ≡ false)
MayTry s x (Unpins w f) = x.pins w f ≡ true
MayTry s x (Marks f) = (x.hand ≡ Rests) × IsBeingFilled s x.story f
MayTry s x (Claims f) = x.hand ≡ HasMarked f
MayTry s x (Publishes f p) = x.hand ≡ HasClaimed f
MayTry s x (Abandons f) = x.hand ≡ HasClaimed f

-- When it succeeds at once: the frame's machine allows its step; a mark of a free frame does nothing

abbrev pub Succeeds : Scene → Act → Type 0
Succeeds x (Writes e) = Unit {0}
Succeeds x (Pins w f p) = Guard (x.frames f) (step.Take p)
Succeeds x (Unpins w f) = Guard (x.frames f) step.Release
Succeeds x (Marks f) = ((x.frames f).phase ≡ Free) ⊎ Guard (x.frames f) step.Mark
Succeeds x (Claims f) = Guard (x.frames f) step.Claim
Succeeds x (Publishes f p) = Guard (x.frames f) (step.Publish p)
Succeeds x (Abandons f) = Guard (x.frames f) step.Abandon

-- The scene after it

abbrev pub phase_marked : FramePhase → FramePhase
phase_marked Free = Free
phase_marked _ = Marked

abbrev pub marked : State → State
marked z = state (phase_marked z.phase) z.piece z.pins

abbrev pub with_frame : ℕ → State → (ℕ → State) → ℕ → State
with_frame f z frames g = if f == g then z else frames g

abbrev pub after_act : Scene → Act → Scene
after_act x (Writes e) = record x { story = e ∷ x.story }
after_act x (Pins w f p) = record x {
  frames = with_frame f (after (x.frames f) (step.Take p)) x.frames;
  pins = λ v g. (w == v && f == g) || x.pins v g;
}
after_act x (Unpins w f) = record x {
  frames = with_frame f (after (x.frames f) step.Release) x.frames;
  pins = λ v g. not (w == v && f == g) && x.pins v g;
}
after_act x (Marks f) = record x { frames = with_frame f (marked (x.frames f)) x.frames; hand = HasMarked f }
after_act x (Claims f) = record x {
  frames = with_frame f (after (x.frames f) step.Claim) x.frames;
  hand = HasClaimed f;
}
after_act x (Publishes f p) = record x {
  frames = with_frame f (after (x.frames f) (step.Publish p)) x.frames;
  hand = Rests;
}
after_act x (Abandons f) = record x { frames = with_frame f (after (x.frames f) step.Abandon) x.frames; hand = Rests }

-- Acts one after another, the newest first

abbrev pub scene_of : List Act → Scene
scene_of [] = first_scene
scene_of (a ∷ acts) = after_act (scene_of acts) a

-- each was tried in the scene of those before it
abbrev pub AreTried : Setting → List Act → Type 0
AreTried s [] = Unit {0}
AreTried s (a ∷ acts) = MayTry s (scene_of acts) a × AreTried s acts

-- whatever was done, the next act that is tried succeeds at once
abbrev pub NobodyWaits : Type 0
NobodyWaits =
    (s : Setting) (a : Act) (before : List Act) → IsSetting s → HasRoom s → AreTried s (a ∷ before)
    → Succeeds (scene_of before) a

-- Against which steps a compare and exchange may lose: those on the same frame that others may try meanwhile

-- the act is a step on the frame
abbrev pub is_on : ℕ → Act → Bool
is_on g (Writes e) = false
is_on g (Pins w f p) = f == g
is_on g (Unpins w f) = f == g
is_on g (Marks f) = f == g
is_on g (Claims f) = f == g
is_on g (Publishes f p) = f == g
is_on g (Abandons f) = f == g

-- the act pins or unpins
abbrev pub is_pin : Act → Bool
is_pin (Pins w f p) = true
is_pin (Unpins w f) = true
is_pin _ = false

-- where some worker has a slot in the frame, the act is a pin or an unpin; where the frame is being filled, it is
-- neither
pub record IsApart (s : Setting) (h : History) (f : ℕ) (a : Act) : Type 0 where
  pub read : (w p : ℕ) → IsSlot s h w f p → is_pin a ≡ true
  pub filled : IsBeingFilled s h f → is_pin a ≡ false

-- whatever was done, so is each act on a frame that is tried next
abbrev pub PinsAndFillsApart : Type 0
PinsAndFillsApart =
    (s : Setting) (f : ℕ) (a : Act) (before : List Act) → IsSetting s → HasRoom s → AreTried s (a ∷ before)
    → is_on f a ≡ true → IsApart s (scene_of before).story f a
