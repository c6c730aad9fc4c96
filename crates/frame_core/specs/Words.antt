-- The control word of a state, and the state of a control word.
use Rattle.std.specs.Prelude.{◌≡◌, ℕ, zero, suc, ◌+◌, ◌*◌, ◌/◌, ◌%◌, ◌^◌, ◌<◌, ◌≤◌}
use Rattle.frame_core.specs.declared.phase.FramePhase.{FramePhase}
use Rattle.frame_core.specs.declared.phase.FramePhase.TheVariants.{Free, Filling, Ready, Marked}
use Rattle.frame_core.specs.declared.state.State.{State}
use Rattle.frame_core.specs.Machine.{state}

abbrev pub phase_number : FramePhase → ℕ
phase_number Free = 0
phase_number Filling = 1
phase_number Ready = 2
phase_number Marked = 3

-- the phase of the number: 3 and more are Marked
abbrev pub phase_at : ℕ → FramePhase
phase_at zero = Free
phase_at (suc zero) = Filling
phase_at (suc (suc zero)) = Ready
phase_at (suc (suc (suc n))) = Marked

-- pins in bits 0 to 15, phase in bits 16 and 17, piece from bit 18 on
abbrev pub control_word : State → ℕ
control_word s = s.piece * 262144 + phase_number s.phase * 65536 + s.pins

-- the three parts of a word
abbrev pub state_at : ℕ → State
state_at w = state (phase_at (w / 65536 % 4)) (w / 262144) (w % 65536)

-- the word is that of the state, whose parts are in their ranges
abbrev pub IsWord : ℕ → State → Type 0
IsWord w s = (w ≡ control_word s) × (s.piece < 2 ^ 32) × (s.pins ≤ 65535)
