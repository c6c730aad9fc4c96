-- The frames that a scan pins at once: one for each slot. A slot is a frame and the piece in it.
use Rattle.std.specs.Prelude.{◌≢◌, ◌<◌, ℕ, zero, suc, List, [], ◌∷◌, length, slice_index_or}
use Rattle.frame_pool.specs.declared.view.Pin.{Pin}
use Rattle.frame_pool.specs.Views.{pin}
use Rattle.frame_pool.specs.Berths.{BerthView}

abbrev pub slot_at : List (ℕ × ℕ) → ℕ → ℕ × ℕ
slot_at slots i = slice_index_or slots i (0, 0)

-- the pins of the first slots, the last one first
abbrev pub first_pins : List (ℕ × ℕ) → ℕ → List Pin
first_pins slots zero = []
first_pins slots (suc n) = pin (slot_at slots n).0 (slot_at slots n).1 ∷ first_pins slots n

-- a pin for each slot
abbrev pub pins_of : List (ℕ × ℕ) → List Pin
pins_of slots = first_pins slots (length slots)

-- the berth with these pins in place of its own
abbrev pub with_pins : BerthView → List Pin → BerthView
with_pins b pins = record b { pins = pins }

-- the slots' frames are among so many, and no two slots are of one frame
pub record AreFrames (frames : ℕ) (slots : List (ℕ × ℕ)) : Type 0 where
  pub within : (i : ℕ) → i < length slots → (slot_at slots i).0 < frames
  pub apart : (i j : ℕ) → i < j → j < length slots → (slot_at slots i).0 ≢ (slot_at slots j).0
