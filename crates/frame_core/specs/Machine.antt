-- The machine of one frame: when each step may be taken, and the state after it.
use Rattle.std.specs.Prelude.{◌≡◌, ◌⊎◌, ℕ, ◌+◌, ◌-◌, ◌<◌}
use Rattle.frame_core.specs.declared.phase.FramePhase.{FramePhase}
use Rattle.frame_core.specs.declared.phase.FramePhase.TheVariants.{Free, Filling, Ready, Marked}
use Rattle.frame_core.specs.declared.state.State.{State}
use Rattle.frame_core.specs.declared.step.Step.{Step}
use Rattle.frame_core.specs.declared.step.Step.TheVariants.{Take, Release, Mark, Claim, Put, Publish, Abandon, Read}

abbrev pub state : FramePhase → ℕ → ℕ → State
state phase piece pins = record { phase = phase; piece = piece; pins = pins }

-- the frame holds a piece: it is ready or marked
abbrev pub HoldsPiece : FramePhase → Type 0
HoldsPiece Free = ⊥
HoldsPiece Filling = ⊥
HoldsPiece Ready = Unit {0}
HoldsPiece Marked = Unit {0}

-- when a step may be taken
abbrev pub Guard : State → Step → Type 0
Guard s (Take p) = (s.phase ≡ Ready) × (s.piece ≡ p) × (s.pins < 65535)
Guard s Release = HoldsPiece s.phase × (0 < s.pins)
Guard s Mark = s.phase ≡ Ready
Guard s Claim = (s.phase ≡ Free) ⊎ ((s.phase ≡ Marked) × (s.pins ≡ 0))
Guard s Put = s.phase ≡ Filling
Guard s (Publish p) = s.phase ≡ Filling
Guard s Abandon = s.phase ≡ Filling
Guard s Read = HoldsPiece s.phase × (0 < s.pins)

-- the state after a step
abbrev pub after : State → Step → State
after s (Take p) = state s.phase s.piece (s.pins + 1)
after s Release = state s.phase s.piece (s.pins - 1)
after s Mark = state Marked s.piece s.pins
after s Claim = state Filling 0 0
after s Put = s
after s (Publish p) = state Ready p 0
after s Abandon = state Free 0 0
after s Read = s
