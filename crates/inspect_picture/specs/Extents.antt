-- From where to where a mark lies, in which row, and in which colour. Lengths are tenths of a pixel.
use Rattle.std.specs.Prelude.{◌+◌, ◌-◌, ◌*◌, ◌/◌, ◌&&◌, ℕ, Bool, true, false, max, min, nat_le, nat_lt}
use Rattle.std.specs.Prelude.{List, [], ◌∷◌, if◌then◌else◌}
use Rattle.inspect_picture.specs.declared.ink.Ink.{Ink}
use Rattle.inspect_picture.specs.declared.ink.Ink.TheVariants.{Hue, Pale, Red, Thin}
use Rattle.inspect_picture.specs.declared.mark.Mark.{Mark}
use Rattle.inspect_picture.specs.declared.mark.Mark.TheVariants.{Alive, Load, Read, Stay, Given, Eviction, Fault}
use Rattle.inspect_picture.specs.declared.scale.Scale.{Scale}
use Rattle.inspect_picture.specs.declared.stretch.TheConstants.{LEAST_WIDTH}
use Rattle.inspect_picture.specs.Scales.{frame_lane, hue_of, worker_lane, x_at}

-- the numbers of the entries by which a mark begins and ends
abbrev pub first_of : Mark → ℕ
first_of (Alive l) = l.first
first_of (Load w q c i) = i
first_of (Read r) = r.first
first_of (Stay b) = b.first
first_of (Given d) = d.first
first_of (Eviction c i) = i
first_of (Fault q p i) = i

abbrev pub last_of : Mark → ℕ
last_of (Alive l) = l.last
last_of (Load w q c i) = i
last_of (Read r) = r.last
last_of (Stay b) = b.last
last_of (Given d) = d.last
last_of (Eviction c i) = i
last_of (Fault q p i) = i

-- it tells of a failure
abbrev pub is_failed : Mark → Bool
is_failed (Read r) = r.failed
is_failed (Fault q p i) = true
is_failed _ = false

-- where it begins, and where it ends as it is drawn
abbrev pub x_from : Scale → Mark → ℕ
x_from z m = x_at z (first_of m)

abbrev pub x_to : Scale → Mark → ℕ
x_to z m = max (x_at z (last_of m)) (x_from z m + LEAST_WIDTH)

-- the row in which it lies: marks of one kind, in one lane; the lower rows are drawn first
abbrev pub row_of : Scale → Mark → ℕ
row_of z (Alive l) = worker_lane z l.worker
row_of z (Given d) = 16 + worker_lane z d.worker
row_of z (Load w q c i) = 32 + worker_lane z w
row_of z (Stay b) = 48 + frame_lane z b.frame
row_of z (Read r) = 80 + frame_lane z r.frame
row_of z (Eviction c i) = 112
row_of z (Fault q p i) = 113

-- the colour: of a chunk, pale for a life, thin for a reading; red of failures alone
abbrev pub ink_of : Scale → Mark → Ink
ink_of z (Alive l) = Pale
ink_of z (Load w q c i) = Hue (hue_of z c)
ink_of z (Read r) = Thin
ink_of z (Stay b) = Hue (hue_of z (b.piece / z.groups))
ink_of z (Given d) = Hue (hue_of z d.chunk)
ink_of z (Eviction c i) = Hue (hue_of z c)
ink_of z (Fault q p i) = Red

-- some of its time is shown
abbrev pub is_shown : Scale → Mark → Bool
is_shown z m = nat_lt (first_of m) z.last && nat_le z.first (last_of m)

-- how many of the marks are shown
abbrev pub shown_count : Scale → List Mark → ℕ
shown_count z [] = 0
shown_count z (m ∷ ms) = (if is_shown z m then 1 else 0) + shown_count z ms
