-- Each mark is held by what is drawn of its row, and marks that are drawn as one touch each other.
use Rattle.std.proofs.Common.{◌≡◌, ◌<◌, ◌≤◌, ◌+◌, ◌-◌, ◌∙◌, ℕ, Bool, true, false, ◌&&◌, ◌||◌, min, max, List, [], ◌∷◌, ◌++◌, length, refl, sym, ap, subst, arith, inl, inr, append_assoc, ltb-true, leb-true}
use Rattle.std.specs.Prelude.{◌⊎◌, filter, if◌then◌else◌, nat_le, nat_lt}
use Rattle.std.proofs.lemmas.Bool.{false≢true}
use Rattle.std.proofs.lemmas.List.{append-nil}
use Rattle.inspect_picture.specs.declared.mark.Mark.{Mark}
use Rattle.inspect_picture.specs.declared.scale.Scale.{Scale}
use Rattle.inspect_picture.specs.declared.stretch.Stretch.{Stretch}
use Rattle.inspect_picture.specs.Extents.{is_failed, x_from, x_to}
use Rattle.inspect_picture.specs.Stretches.{AllHeld, AreDrawn, AreOne, AreParted, Held, Holds, is_in, is_narrow, joined, meets, more, one, stretch_of, stretches, together, with_mark, with_marks}

-- ---- a stretch of one mark, or of one mark more, holds it and all that it held

alone : (z : Scale) (m : Mark) → Holds z (stretch_of z m) m
unfolding stretch_of
alone z m = record { begins = omega arith; ends = omega arith; fails = λ e. e }

or_left : (a b : Bool) → a ≡ true → (a || b) ≡ true
or_left true b e = refl
or_left false b e = absurd (false≢true e)

or_right : (a b : Bool) → b ≡ true → (a || b) ≡ true
or_right true b e = refl
or_right false b e = e

held_still : (z : Scale) (g : Stretch) (m n : Mark) → Holds z g m → Holds z (joined z g n) m
unfolding joined
held_still z g m n h = record {
  begins = omega (arith, h.begins);
  ends = omega (arith, h.ends);
  fails = λ e. or_left g.failed (is_failed n) (h.fails e);
}

held_too : (z : Scale) (g : Stretch) (m : Mark) → Holds z (joined z g m) m
unfolding joined
held_too z g m = record {
  begins = omega arith;
  ends = omega arith;
  fails = λ e. or_right g.failed (is_failed m) e;
}

-- ---- one mark more in a row

still : (z : Scale) (gs : List Stretch) (m n : Mark) → Held z gs m → Held z (with_mark z gs n) m
still z [] m n h = absurd h
still z (g ∷ []) m n (inr h) = absurd h
still z (g ∷ []) m n (inl h) = by (meets z g n) where
  by : (b : Bool) → Held z (if b then joined z g n ∷ [] else g ∷ stretch_of z n ∷ []) m
  by true = inl (held_still z g m n h)
  by false = inl h
still z (g ∷ x ∷ xs) m n (inl h) = inl h
still z (g ∷ x ∷ xs) m n (inr h) = inr (still z (x ∷ xs) m n h)

too : (z : Scale) (gs : List Stretch) (m : Mark) → Held z (with_mark z gs m) m
too z [] m = inl (alone z m)
too z (g ∷ []) m = by (meets z g m) where
  by : (b : Bool) → Held z (if b then joined z g m ∷ [] else g ∷ stretch_of z m ∷ []) m
  by true = inl (held_too z g m)
  by false = inr (inl (alone z m))
too z (g ∷ x ∷ xs) m = inr (too z (x ∷ xs) m)

-- ---- all marks

stays : (z : Scale) (row : ℕ) (gs : List Stretch) (m : Mark) (ms : List Mark) → Held z gs m → Held z (with_marks z row gs ms) m
stays z row gs m [] h = h
stays z row gs m (n ∷ ns) h = by (is_in z row n) (stays z row (with_mark z gs n) m ns (still z gs m n h)) (stays z row gs m ns h) where
  by : (b : Bool) → Held z (with_marks z row (with_mark z gs n) ns) m → Held z (with_marks z row gs ns) m
      → Held z (with_marks z row (if b then with_mark z gs n else gs) ns) m
  by true more_are same_are = more_are
  by false more_are same_are = same_are

held_from : (z : Scale) (row : ℕ) (gs : List Stretch) (ms : List Mark) → AllHeld z row (with_marks z row gs ms) ms
held_from z row gs [] = tt
held_from z row gs (m ∷ ms) = by (is_in z row m) (held_from z row (with_mark z gs m) ms) (held_from z row gs ms) where
  by : (b : Bool) → AllHeld z row (with_marks z row (with_mark z gs m) ms) ms → AllHeld z row (with_marks z row gs ms) ms → (b ≡ true → Held z (with_marks z row (if b then with_mark z gs m else gs) ms) m) × AllHeld z row (with_marks z row (if b then with_mark z gs m else gs) ms) ms
  by true more_are same_are = ((λ e. stays z row (with_mark z gs m) m ms (too z gs m)), more_are)
  by false more_are same_are = ((λ e. absurd (false≢true e)), same_are)

pub all_held : (z : Scale) (row : ℕ) (ms : List Mark) → AllHeld z row (stretches z row ms) ms
all_held z row ms = held_from z row [] ms

-- ---- what is drawn as one

near : (z : Scale) (g : Stretch) (m : Mark) → meets z g m ≡ true → x_from z m ≤ g.to + 10
near z g m e = by (nat_lt (x_from z m) g.to) refl e where
  by : (b : Bool) → nat_lt (x_from z m) g.to ≡ b → (if b then true else (g.narrow && (is_narrow z m && nat_le (x_from z m - g.to) 10))) ≡ true → x_from z m ≤ g.to + 10
  by true is e = let low = ltb-true (x_from z m) g.to is in omega (arith, low)
  by false is e = within g.narrow (is_narrow z m) (nat_le (x_from z m - g.to) 10) refl e where
    within : (a b c : Bool) → nat_le (x_from z m - g.to) 10 ≡ c → (a && (b && c)) ≡ true → x_from z m ≤ g.to + 10
    within true true true is e = let low = leb-true (x_from z m - g.to) 10 is in omega (arith, low)
    within true true false is e = absurd (false≢true e)
    within true false c is e = absurd (false≢true e)
    within false b c is e = absurd (false≢true e)

-- the parts of a row with one mark more
record More (z : Scale) (parts : List (List Mark)) (gs : List Stretch) (m : Mark) : Type 0 where
  more_parts : List (List Mark)
  all : together more_parts ≡ together parts ++ m ∷ []
  drawn : AreDrawn z more_parts (with_mark z gs m)

last_more : (z : Scale) (p : List Mark) (g : Stretch) (m : Mark) → AreOne z p g → More z (p ∷ []) (g ∷ []) m
last_more z p g m one_is = by (meets z g m) refl where
  by : (b : Bool) → meets z g m ≡ b → More z (p ∷ []) (g ∷ []) m
  by true e = record {
    more_parts = (p ++ m ∷ []) ∷ [];
    all = append-nil (p ++ m ∷ []) ∙ ap (λ t. t ++ m ∷ []) (sym (append-nil p));
    drawn = rw e (more p g m one_is (near z g m e), tt);
  }
  by false e = record {
    more_parts = p ∷ (m ∷ []) ∷ [];
    all = ap (λ t. t ++ m ∷ []) (sym (append-nil p));
    drawn = rw e (one_is, (one m, tt));
  }

part_more : (z : Scale) (parts : List (List Mark)) (gs : List Stretch) (m : Mark) → AreDrawn z parts gs → More z parts gs m
part_more z [] [] m d = record { more_parts = (m ∷ []) ∷ []; all = refl; drawn = (one m, tt) }
part_more z (p ∷ []) (g ∷ []) m d = last_more z p g m d.0
part_more z (p ∷ q ∷ ps) (g ∷ h ∷ gs) m d =
    let rest = part_more z (q ∷ ps) (h ∷ gs) m d.1 in
    record {
      more_parts = p ∷ rest.more_parts;
      all = ap (λ t. p ++ t) rest.all ∙ sym (append_assoc p (together (q ∷ ps)) (m ∷ []));
      drawn = (d.0, rest.drawn);
    }
part_more z [] (g ∷ gs) m d = absurd d
part_more z (p ∷ ps) [] m d = absurd d
part_more z (p ∷ []) (g ∷ h ∷ gs) m d = absurd d.1
part_more z (p ∷ q ∷ ps) (g ∷ []) m d = absurd d.1

record Parted (z : Scale) (row : ℕ) (before : List Mark) (gs : List Stretch) : Type 0 where
  parts : List (List Mark)
  all : together parts ≡ before
  drawn : AreDrawn z parts gs

parted_from : (z : Scale) (row : ℕ) (before : List Mark) (gs : List Stretch) (ms : List Mark) → Parted z row before gs
    → Parted z row (before ++ filter (is_in z row) ms) (with_marks z row gs ms)
parted_from z row before gs [] d = record { parts = d.parts; all = d.all ∙ sym (append-nil before); drawn = d.drawn }
parted_from z row before gs (m ∷ ms) d =
    let next = part_more z d.parts gs m d.drawn in
    by (is_in z row m)
    (parted_from z row (before ++ m ∷ []) (with_mark z gs m) ms (record { parts = next.more_parts; all = next.all ∙ ap (λ t. t ++ m ∷ []) d.all; drawn = next.drawn }))
    (parted_from z row before gs ms d)
  where
    by : (b : Bool) → Parted z row ((before ++ m ∷ []) ++ filter (is_in z row) ms) (with_marks z row (with_mark z gs m) ms)
        → Parted z row (before ++ filter (is_in z row) ms) (with_marks z row gs ms)
        → Parted z row (before ++ (if b then m ∷ filter (is_in z row) ms else filter (is_in z row) ms)) (with_marks z row (if b then with_mark z gs m else gs) ms)
    by true more_are same_are = record { parts = more_are.parts; all = more_are.all ∙ append_assoc before (m ∷ []) (filter (is_in z row) ms); drawn = more_are.drawn }
    by false more_are same_are = same_are

pub all_parted : (z : Scale) (row : ℕ) (ms : List Mark) → AreParted z row ms
all_parted z row ms = let d = parted_from z row [] [] ms (record { parts = []; all = refl; drawn = tt }) in record { parts = d.parts; all = d.all; drawn = d.drawn }
