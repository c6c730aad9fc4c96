-- Which marks are drawn as one.
use Rattle.std.specs.Prelude.{◌≡◌, ◌+◌, ◌-◌, ◌==◌, ◌≤◌, ◌&&◌, ◌||◌, ◌⊎◌, ℕ, Bool, true, false, max, min, nat_le}
use Rattle.std.specs.Prelude.{nat_lt, List, [], ◌∷◌, ◌++◌, length, filter, if◌then◌else◌}
use Rattle.inspect_picture.specs.declared.ink.Ink.{Ink}
use Rattle.inspect_picture.specs.declared.ink.Ink.TheVariants.{Hue, Many, Pale, Red, Thin}
use Rattle.inspect_picture.specs.declared.mark.Mark.{Mark}
use Rattle.inspect_picture.specs.declared.scale.Scale.{Scale}
use Rattle.inspect_picture.specs.declared.stretch.Stretch.{Stretch}
use Rattle.inspect_picture.specs.declared.stretch.TheConstants.{NARROW, NEAR}
use Rattle.inspect_picture.specs.Extents.{ink_of, is_failed, is_shown, last_of, row_of, x_from, x_to}

abbrev pub is_narrow : Scale → Mark → Bool
is_narrow z m = nat_lt (x_to z m) (x_from z m + NARROW)

-- one mark by itself
unfoldable pub stretch_of : Scale → Mark → Stretch
stretch_of z m = record {
  mark = m;
  count = 1;
  last = last_of m;
  from = x_from z m;
  to = x_to z m;
  narrow = is_narrow z m;
  ink = ink_of z m;
  failed = is_failed m;
}

abbrev pub same_ink : Ink → Ink → Bool
same_ink (Hue a) (Hue b) = a == b
same_ink Pale Pale = true
same_ink Thin Thin = true
same_ink Red Red = true
same_ink _ _ = false

abbrev pub both_ink : Ink → Ink → Ink
both_ink a b = if same_ink a b then a else Many

-- a mark is drawn as one with those before it in its row: it lies over them, or all are narrow and it lies within a
-- pixel
abbrev pub meets : Scale → Stretch → Mark → Bool
meets z g m =
    if nat_lt (x_from z m) g.to then true else (g.narrow && (is_narrow z m && nat_le (x_from z m - g.to) NEAR))

-- these marks and one more
unfoldable pub joined : Scale → Stretch → Mark → Stretch
joined z g m = record {
  mark = g.mark;
  count = min (g.count + 1) 18446744073709551615;
  last = max g.last (last_of m);
  from = min g.from (x_from z m);
  to = max g.to (x_to z m);
  narrow = g.narrow && is_narrow z m;
  ink = both_ink g.ink (ink_of z m);
  failed = g.failed || is_failed m;
}

-- the last of a row and one mark more
abbrev pub one_or_two : Scale → Stretch → Mark → List Stretch
one_or_two z g m = if meets z g m then joined z g m ∷ [] else g ∷ stretch_of z m ∷ []

-- one mark more behind those of a row
abbrev pub with_mark : Scale → List Stretch → Mark → List Stretch
with_mark z [] m = stretch_of z m ∷ []
with_mark z (g ∷ []) m = one_or_two z g m
with_mark z (g ∷ h ∷ gs) m = g ∷ with_mark z (h ∷ gs) m

-- the mark is shown in this row
abbrev pub is_in : Scale → ℕ → Mark → Bool
is_in z row m = is_shown z m && (row_of z m == row)

abbrev pub with_marks : Scale → ℕ → List Stretch → List Mark → List Stretch
with_marks z row gs [] = gs
with_marks z row gs (m ∷ ms) = with_marks z row (if is_in z row m then with_mark z gs m else gs) ms

-- THE STRETCHES of a row
abbrev pub stretches : Scale → ℕ → List Mark → List Stretch
stretches z row ms = with_marks z row [] ms

-- ---- what holds of them

-- what is drawn holds the mark: it lies within, and a failure is one
pub record Holds (z : Scale) (g : Stretch) (m : Mark) : Type 0 where
  pub begins : g.from ≤ x_from z m
  pub ends : x_to z m ≤ g.to
  pub fails : is_failed m ≡ true → g.failed ≡ true

-- one of these holds it
abbrev pub Held : Scale → List Stretch → Mark → Type 0
Held z [] m = ⊥
Held z (g ∷ gs) m = Holds z g m ⊎ Held z gs m

-- each of these marks is held where it is shown in this row
abbrev pub AllHeld : Scale → ℕ → List Stretch → List Mark → Type 0
AllHeld z row gs [] = Unit {0}
AllHeld z row gs (m ∷ ms) = (is_in z row m ≡ true → Held z gs m) × AllHeld z row gs ms

-- the marks that are drawn as one: each touches those before it, or lies within a pixel of them
pub data AreOne (z : Scale) : List Mark → Stretch → Type 0 where
  one : (m : Mark) → AreOne z (m ∷ []) (stretch_of z m)
  more : (ms : List Mark) (g : Stretch) (m : Mark) → AreOne z ms g → x_from z m ≤ g.to + NEAR
      → AreOne z (ms ++ m ∷ []) (joined z g m)

-- so many marks after each other are drawn as these, and there are no others
abbrev pub AreDrawn : Scale → List (List Mark) → List Stretch → Type 0
AreDrawn z [] [] = Unit {0}
AreDrawn z (p ∷ ps) (g ∷ gs) = AreOne z p g × AreDrawn z ps gs
AreDrawn z _ _ = ⊥

-- all marks of the parts, one part behind the other
abbrev pub together : List (List Mark) → List Mark
together [] = []
together (p ∷ ps) = p ++ together ps

-- THE MARKS OF A ROW are parted into those that are drawn as one
pub record AreParted (z : Scale) (row : ℕ) (ms : List Mark) : Type 0 where
  pub parts : List (List Mark)
  pub all : together parts ≡ filter (is_in z row) ms
  pub drawn : AreDrawn z parts (stretches z row ms)
