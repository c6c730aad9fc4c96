-- What is drawn in a row lies side by side, and each element takes some of the row's width; so there are few.
use Rattle.std.proofs.Common.{◌≡◌, ◌==◌, ◌≤◌, ◌+◌, ◌-◌, ◌*◌, ◌&&◌, ℕ, zero, suc, Bool, true, false, min, max, List, [], ◌∷◌, length, refl, arith, eqb-true, leb-true}
use Rattle.std.specs.Prelude.{nat_le, nat_lt, if◌then◌else◌}
use Rattle.std.proofs.Math.Nat.{div-le_of_le-mul}
use Rattle.std.proofs.lemmas.Bool.{ltb-false, true≢false}
use Rattle.inspect_picture.specs.declared.mark.Mark.{Mark}
use Rattle.inspect_picture.specs.declared.scale.Scale.{Scale}
use Rattle.inspect_picture.specs.declared.stretch.Stretch.{Stretch}
use Rattle.inspect_picture.specs.Extents.{first_of, last_of, x_from, x_to}
use Rattle.inspect_picture.specs.Scales.{part_of_7700, x_at}
use Rattle.inspect_picture.specs.Stretches.{is_in, is_narrow, joined, meets, stretch_of, stretches, with_mark, with_marks}
use Rattle.inspect_picture.specs.Svg.{IsSmall, drawn, has_room, room_count}

-- ---- where marks lie

part_few : (a b : ℕ) → a ≤ b → part_of_7700 a b ≤ 7700
part_few a b low = div-le_of_le-mul (max 1 b) (omega (arith, low))

at_most : (z : Scale) (i : ℕ) → x_at z i ≤ 8700
at_most z i =
    let part = part_few (min (max i z.first) (max z.first z.last) - z.first) (z.last - z.first) (omega arith) in
    omega (arith, part)

-- ---- the width that an element takes

abbrev takes : Scale → Stretch → ℕ
takes z g = if has_room z g then 500 else 40

takes_some : (z : Scale) (g : Stretch) → 40 ≤ takes z g
takes_some z g = by (has_room z g) where
  by : (b : Bool) → 40 ≤ (if b then 500 else 40)
  by true = omega arith
  by false = omega arith

-- these elements lie side by side from x on
abbrev Fits : Scale → ℕ → List Stretch → Type 0
Fits z x [] = Unit {0}
Fits z x (g ∷ gs) = (x + takes z g ≤ g.to) × ((g.to ≤ 8740) × ((1 ≤ g.count) × Fits z g.to gs))

alone : (z : Scale) (x : ℕ) (m : Mark) → x ≤ x_from z m → Fits z x (stretch_of z m ∷ [])
unfolding stretch_of
alone z x m low = (by (nat_le 500 (x_to z m - x_from z m)) refl, (omega (arith, at_most z (first_of m), at_most z (last_of m)), (omega arith, tt)))
  where
    by : (b : Bool) → nat_le 500 (x_to z m - x_from z m) ≡ b → x + (if b then 500 else 40) ≤ x_to z m
    by true e = omega (arith, low, leb-true 500 (x_to z m - x_from z m) e)
    by false e = omega (arith, low)

one_more : (z : Scale) (x : ℕ) (g : Stretch) (m : Mark) → Fits z x (g ∷ []) → Fits z x (joined z g m ∷ [])
unfolding joined
one_more z x g m (fits, (end, (some, rest))) =
    (by (min (g.count + 1) 18446744073709551615 == 1) refl, (omega (arith, end, at_most z (first_of m), at_most z (last_of m)), (omega (arith, some), tt)))
  where
    wide : Bool
    wide = nat_le 500 (max g.to (x_to z m) - min g.from (x_from z m))

    by : (b : Bool) → (min (g.count + 1) 18446744073709551615 == 1) ≡ b → x + (if b && wide then 500 else 40) ≤ max g.to (x_to z m)
    by true e = absurd (omega (arith, some, eqb-true (min (g.count + 1) 18446744073709551615) 1 e))
    by false e = omega (arith, fits, takes_some z g)

far : (z : Scale) (g : Stretch) (m : Mark) → meets z g m ≡ false → g.to ≤ x_from z m
far z g m e = by (nat_lt (x_from z m) g.to) refl e where
  by : (b : Bool) → nat_lt (x_from z m) g.to ≡ b → (if b then true else (g.narrow && (is_narrow z m && nat_le (x_from z m - g.to) 10))) ≡ false
      → g.to ≤ x_from z m
  by true is e = absurd (true≢false e)
  by false is e = ltb-false (x_from z m) g.to is

-- ---- one mark more in a row

behind : (z : Scale) (x : ℕ) (g : Stretch) (gs : List Stretch) (m : Mark) → Fits z x (g ∷ gs) → Fits z x (with_mark z (g ∷ gs) m)
behind z x g [] m f = by (meets z g m) refl where
  by : (b : Bool) → meets z g m ≡ b → Fits z x (if b then joined z g m ∷ [] else g ∷ stretch_of z m ∷ [])
  by true e = one_more z x g m f
  by false e = (f.0, (f.1.0, (f.1.1.0, alone z g.to m (far z g m e))))
behind z x g (h ∷ gs) m f = (f.0, (f.1.0, (f.1.1.0, behind z g.to h gs m f.1.1.1)))

more : (z : Scale) (gs : List Stretch) (m : Mark) → Fits z 1000 gs → Fits z 1000 (with_mark z gs m)
more z [] m f = alone z 1000 m (omega arith)
more z (g ∷ gs) m f = behind z 1000 g gs m f

all_fit : (z : Scale) (row : ℕ) (gs : List Stretch) (ms : List Mark) → Fits z 1000 gs → Fits z 1000 (with_marks z row gs ms)
all_fit z row gs [] f = f
all_fit z row gs (m ∷ ms) f = by (is_in z row m) (all_fit z row (with_mark z gs m) ms (more z gs m f)) (all_fit z row gs ms f) where
  by : (b : Bool) → Fits z 1000 (with_marks z row (with_mark z gs m) ms) → Fits z 1000 (with_marks z row gs ms)
      → Fits z 1000 (with_marks z row (if b then with_mark z gs m else gs) ms)
  by true more_are same_are = more_are
  by false more_are same_are = same_are

-- ---- how many there are

wide_enough : (z : Scale) (x : ℕ) (gs : List Stretch) → x ≤ 8740 → Fits z x gs → x + (40 * length gs + 460 * room_count z gs) ≤ 8740
wide_enough z x [] low f = omega (arith, low)
wide_enough z x (g ∷ gs) low (fits, (end, (some, rest))) = by (has_room z g) fits (wide_enough z g.to gs end rest) where
  by : (b : Bool) → x + (if b then 500 else 40) ≤ g.to → g.to + (40 * length gs + 460 * room_count z gs) ≤ 8740
      → x + (40 * suc (length gs) + 460 * ((if b then 1 else 0) + room_count z gs)) ≤ 8740
  by true here others = omega (arith, here, others)
  by false here others = omega (arith, here, others)

row_width : (z : Scale) (row : ℕ) (ms : List Mark) → 1000 + (40 * length (stretches z row ms) + 460 * room_count z (stretches z row ms)) ≤ 8740
row_width z row ms = wide_enough z 1000 (stretches z row ms) (omega arith) (all_fit z row [] ms tt)

fewer : (z : Scale) (gs : List Stretch) → room_count z gs ≤ length gs
fewer z [] = omega arith
fewer z (g ∷ gs) = by (has_room z g) (fewer z gs) where
  by : (b : Bool) → room_count z gs ≤ length gs → (if b then 1 else 0) + room_count z gs ≤ suc (length gs)
  by true few = omega (arith, few)
  by false few = omega (arith, few)

drawn_few : (z : Scale) (ms : List Mark) (k : ℕ) → drawn z ms k ≤ 193 * k
unfolding drawn
drawn_few z ms zero = omega arith
drawn_few z ms (suc k) = omega (arith, drawn_few z ms k, row_width z k ms)

pub small : (z : Scale) (ms : List Mark) → IsSmall z ms
small z ms = record {
  elements = λ row. omega (arith, row_width z row ms);
  numbers = λ row. omega (arith, row_width z row ms, fewer z (stretches z row ms));
  all = omega (arith, drawn_few z ms 114);
}
