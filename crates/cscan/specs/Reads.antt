-- Reads of pieces: what is put into a frame, and why a read fails.
use Rattle.std.specs.Prelude.{◌≡◌, ◌≤◌, ◌<◌, ℕ, length, List, Some, None}
use Rattle.coop_outside.specs.Pieces.{Stored}
use Rattle.frame_pool.specs.Views.{filling}
use Rattle.frame_pool.specs.Berths.{BerthView}
use Rattle.scan_story.specs.MayFollow.{IsRise}
use Rattle.scan_story.specs.declared.entry.Why.{Why}
use Rattle.scan_story.specs.declared.entry.Why.TheVariants.{Fault, Damage}
use Rattle.frame_rows.specs.Pins.{slot_at}

-- the berth with these words put into the frame that it fills
abbrev pub with_words : BerthView → ℕ → List ℕ → BerthView
with_words b f ws = record b { fill = Some (filling f ws) }

-- why reads failed while the count of faults went from one number to another: a rise of the count, or a broken word,
-- where the depot tells nothing
abbrev pub MayReport : Stored → ℕ → ℕ → Why → Type 0
MayReport held from to (Fault before after) = (from ≤ before) × IsRise before after × (after ≤ to)
MayReport held from to (Damage word) = held ≡ None

-- the slots' frames and pieces are among so many
abbrev pub AreThere : ℕ → ℕ → List (ℕ × ℕ) → Type 0
AreThere frames pieces slots = (i : ℕ) → i < length slots → ((slot_at slots i).0 < frames)
    × ((slot_at slots i).1 < pieces)
