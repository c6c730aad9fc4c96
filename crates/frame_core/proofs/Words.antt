-- A state is read back from its word, so no two states have one word.
use Rattle.std.proofs.Common.{◌≡◌, ℕ, ◌+◌, ◌*◌, ◌/◌, ◌%◌, ◌<◌, ◌≤◌, arith, sym, refl, ap, ◌∙◌}
use Rattle.frame_core.specs.declared.phase.FramePhase.{FramePhase}
use Rattle.frame_core.specs.declared.phase.FramePhase.TheVariants.{Free, Filling, Ready, Marked}
use Rattle.frame_core.specs.declared.state.State.{State}
use Rattle.frame_core.specs.Machine.{state}
use Rattle.frame_core.specs.Words.{phase_number, phase_at, control_word, state_at}

pub number_small : (p : FramePhase) → phase_number p < 4
number_small Free = omega arith
number_small Filling = omega arith
number_small Ready = omega arith
number_small Marked = omega arith

phase_at_number : (p : FramePhase) → phase_at (phase_number p) ≡ p
phase_at_number Free = refl
phase_at_number Filling = refl
phase_at_number Ready = refl
phase_at_number Marked = refl

parts : (a p r : ℕ) → p < 4 → r ≤ 65535 → let w = a * 262144 + p * 65536 + r in (w / 262144 ≡ a) × (w / 65536 % 4 ≡ p) × (w % 65536 ≡ r)
parts a p r small fits = (omega arith, omega arith, omega arith)

pub state_at_word : (s : State) → s.pins ≤ 65535 → state_at (control_word s) ≡ s
state_at_word s fits = let t = parts s.piece (phase_number s.phase) s.pins (number_small s.phase) fits in
    λ i. state ((ap phase_at t.1 ∙ phase_at_number s.phase) i) (t.0 i) (t.2 i)

pub one_state : (s t : State) → s.pins ≤ 65535 → t.pins ≤ 65535 → control_word s ≡ control_word t → s ≡ t
one_state s t a b e = sym (state_at_word s a) ∙ (ap state_at e ∙ state_at_word t b)
