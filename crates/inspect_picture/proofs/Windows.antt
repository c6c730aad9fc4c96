-- Which marks a picture of some of the entries shows, and where.
use Rattle.std.proofs.Common.{◌≡◌, ◌≤◌, ◌<◌, ◌+◌, ◌-◌, ◌*◌, ◌/◌, ◌==◌, ◌&&◌, ◌∙◌, ℕ, suc, Bool, true, false, max, min, nat_le, nat_lt, List, [], ◌∷◌, ◌++◌, length, refl, sym, ap, arith, lt-ltb, le-leb, ltb-true, leb-true}
use Rattle.std.specs.Prelude.{if◌then◌else◌}
use Rattle.std.specs.List.{AllByRecursion}
use Rattle.std.proofs.lemmas.Bool.{false≢true}
use Rattle.scan_story.specs.declared.entry.Entry.{Entry}
use Rattle.scan_story.specs.declared.entry.Entry.TheVariants.{Register, Plan, Evict, Fill, Filled, Failed, Deliver, Release, Stop, End}
use Rattle.inspect_picture.specs.declared.mark.Mark.{Mark}
use Rattle.inspect_picture.specs.declared.scale.Scale.{Scale}
use Rattle.inspect_picture.specs.Extents.{first_of, is_shown, last_of, x_from}
use Rattle.inspect_picture.specs.Marks.{bar, bar_of, delivery, delivery_of, life, life_of, marks, marks_from, read_of, reading}
use Rattle.inspect_picture.specs.Scales.{all_seen, part_of_7700, scale_of, seen, x_at}
use Rattle.inspect_picture.specs.Windows.{AllShown, IsWindow, IsWindowOf, cut, touches}
use Rattle.inspect_picture.specs.declared.bar.Ended.TheVariants.{Evicted, Refilled}
use Rattle.inspect_picture.specs.declared.mark.Mark.TheVariants.{Alive, Load, Read, Stay, Given, Eviction, Fault}

-- ---- what the entries name changes neither end of what is shown

record Keeps (old new : Scale) : Type 0 where
  first : new.first ≡ old.first
  last : new.last ≡ old.last

seen_keeps : (z : Scale) (e : Entry) → Keeps z (seen z e)
seen_keeps z (Register v r) = record { first = refl; last = refl }
seen_keeps z (Plan v r d) = record { first = refl; last = refl }
seen_keeps z (Evict v d) = record { first = refl; last = refl }
seen_keeps z (Fill v g p) = record { first = refl; last = refl }
seen_keeps z (Filled v g p) = record { first = refl; last = refl }
seen_keeps z (Failed v r p vhy) = record { first = refl; last = refl }
seen_keeps z (Deliver v r d) = record { first = refl; last = refl }
seen_keeps z (Release v r d) = record { first = refl; last = refl }
seen_keeps z (Stop v r) = record { first = refl; last = refl }
seen_keeps z (End v r) = record { first = refl; last = refl }

all_keep : (z : Scale) (es : List Entry) → Keeps z (all_seen z es)
all_keep z [] = record { first = refl; last = refl }
all_keep z (e ∷ es) =
    let more = all_keep (seen z e) es in let one = seen_keeps z e in record { first = more.first ∙ one.first; last = more.last ∙ one.last }

-- ---- a window

at_most : (a b : ℕ) → nat_lt a (b + 1) ≡ nat_le a b
at_most a b = by (nat_lt a (b + 1)) (nat_le a b) refl refl where
  by : (x y : Bool) → nat_lt a (b + 1) ≡ x → nat_le a b ≡ y → x ≡ y
  by true true p q = refl
  by false false p q = refl
  by true false p q = absurd (false≢true (sym q ∙ le-leb a b (omega (arith, ltb-true a (b + 1) p))))
  by false true p q = absurd (false≢true (sym p ∙ lt-ltb a (b + 1) (omega (arith, leb-true a b q))))

window_of : (z : Scale) (from to : ℕ) → from ≤ to → z.first ≡ from → z.last ≡ to + 1 → IsWindow z from to
window_of z from to le f l = record {
  touching = λ m. rw (f, l) (ap (λ b. b && nat_le from (last_of m)) (at_most (first_of m) to));
  cut_to = λ i. let same : min (max i z.first) (max z.first z.last) - z.first ≡ min (max (cut from to i) z.first) (max z.first z.last) - z.first =
      omega (arith, f, l, le) in ap (λ n. 1000 + part_of_7700 n (z.last - z.first)) same;
  edge = λ m early. let same : min (max (first_of m) z.first) (max z.first z.last) - z.first ≡ 0 = omega (arith, f, early) in
      ap (λ n. 1000 + part_of_7700 n (z.last - z.first)) same ∙ none (z.last - z.first);
}
  where
    none : (w : ℕ) → 1000 + part_of_7700 0 w ≡ 1000
    none w = grind arith

pub window : (groups from to : ℕ) (entries : List Entry) → from ≤ to → to ≤ length entries → IsWindowOf groups from to entries
window groups from to entries le within =
    let kept = all_keep _ entries in
    let first : min from (length entries) ≡ from = omega (arith, le, within) in
    let last : max (min from (length entries)) (min to (length entries)) + 1 ≡ to + 1 = omega (arith, le, within) in
    window_of (scale_of groups from to entries) from to le (kept.first ∙ first) (kept.last ∙ last)

-- ---- a mark begins by its entry

life_begins : (w q a i : ℕ) (es : List Entry) → (life_of w q a i es).first ≡ a
life_begins w q a i [] = refl
life_begins w q a i (Register v r ∷ es) = life_begins w q a (suc i) es
life_begins w q a i (Plan v r d ∷ es) = life_begins w q a (suc i) es
life_begins w q a i (Evict v d ∷ es) = life_begins w q a (suc i) es
life_begins w q a i (Fill v g p ∷ es) = life_begins w q a (suc i) es
life_begins w q a i (Filled v g p ∷ es) = life_begins w q a (suc i) es
life_begins w q a i (Failed v r p vhy ∷ es) = life_begins w q a (suc i) es
life_begins w q a i (Deliver v r d ∷ es) = life_begins w q a (suc i) es
life_begins w q a i (Release v r d ∷ es) = life_begins w q a (suc i) es
life_begins w q a i (Stop v r ∷ es) = at (r == q) (life_begins w q a (suc i) es)
  where
    at : (t : Bool) → (life_of w q a (suc i) es).first ≡ a → (if t then life w q a i else life_of w q a (suc i) es).first ≡ a
    at true again = refl
    at false again = again
life_begins w q a i (End v r ∷ es) = at (r == q) (life_begins w q a (suc i) es)
  where
    at : (t : Bool) → (life_of w q a (suc i) es).first ≡ a → (if t then life w q a i else life_of w q a (suc i) es).first ≡ a
    at true again = refl
    at false again = again

read_begins : (f q a i : ℕ) (es : List Entry) → (read_of f q a i es).first ≡ a
read_begins f q a i [] = refl
read_begins f q a i (Register v r ∷ es) = read_begins f q a (suc i) es
read_begins f q a i (Plan v r d ∷ es) = read_begins f q a (suc i) es
read_begins f q a i (Evict v d ∷ es) = read_begins f q a (suc i) es
read_begins f q a i (Fill v g p ∷ es) = at (g == f) (read_begins f q a (suc i) es)
  where
    at : (t : Bool) → (read_of f q a (suc i) es).first ≡ a → (if t then reading f q a i false else read_of f q a (suc i) es).first ≡ a
    at true again = refl
    at false again = again
read_begins f q a i (Filled v g p ∷ es) = at (g == f) (read_begins f q a (suc i) es)
  where
    at : (t : Bool) → (read_of f q a (suc i) es).first ≡ a → (if t then reading f q a i false else read_of f q a (suc i) es).first ≡ a
    at true again = refl
    at false again = again
read_begins f q a i (Failed v r p vhy ∷ es) = at (p == q) (read_begins f q a (suc i) es)
  where
    at : (t : Bool) → (read_of f q a (suc i) es).first ≡ a → (if t then reading f q a i true else read_of f q a (suc i) es).first ≡ a
    at true again = refl
    at false again = again
read_begins f q a i (Deliver v r d ∷ es) = read_begins f q a (suc i) es
read_begins f q a i (Release v r d ∷ es) = read_begins f q a (suc i) es
read_begins f q a i (Stop v r ∷ es) = read_begins f q a (suc i) es
read_begins f q a i (End v r ∷ es) = read_begins f q a (suc i) es

stay_begins : (groups f q a i : ℕ) (es : List Entry) → (bar_of groups f q a i es).first ≡ a
stay_begins groups f q a i [] = refl
stay_begins groups f q a i (Register v r ∷ es) = stay_begins groups f q a (suc i) es
stay_begins groups f q a i (Plan v r d ∷ es) = stay_begins groups f q a (suc i) es
stay_begins groups f q a i (Evict v d ∷ es) = at (d == q / groups) (stay_begins groups f q a (suc i) es)
  where
    at : (t : Bool) → (bar_of groups f q a (suc i) es).first ≡ a → (if t then bar f q a i Evicted else bar_of groups f q a (suc i) es).first ≡ a
    at true again = refl
    at false again = again
stay_begins groups f q a i (Fill v g p ∷ es) = at (g == f) (stay_begins groups f q a (suc i) es)
  where
    at : (t : Bool) → (bar_of groups f q a (suc i) es).first ≡ a → (if t then bar f q a i Refilled else bar_of groups f q a (suc i) es).first ≡ a
    at true again = refl
    at false again = again
stay_begins groups f q a i (Filled v g p ∷ es) = at (g == f) (stay_begins groups f q a (suc i) es)
  where
    at : (t : Bool) → (bar_of groups f q a (suc i) es).first ≡ a → (if t then bar f q a i Refilled else bar_of groups f q a (suc i) es).first ≡ a
    at true again = refl
    at false again = again
stay_begins groups f q a i (Failed v r p vhy ∷ es) = stay_begins groups f q a (suc i) es
stay_begins groups f q a i (Deliver v r d ∷ es) = stay_begins groups f q a (suc i) es
stay_begins groups f q a i (Release v r d ∷ es) = stay_begins groups f q a (suc i) es
stay_begins groups f q a i (Stop v r ∷ es) = stay_begins groups f q a (suc i) es
stay_begins groups f q a i (End v r ∷ es) = stay_begins groups f q a (suc i) es

delivery_begins : (w q c a i : ℕ) (es : List Entry) → (delivery_of w q c a i es).first ≡ a
delivery_begins w q c a i [] = refl
delivery_begins w q c a i (Register v r ∷ es) = delivery_begins w q c a (suc i) es
delivery_begins w q c a i (Plan v r d ∷ es) = delivery_begins w q c a (suc i) es
delivery_begins w q c a i (Evict v d ∷ es) = delivery_begins w q c a (suc i) es
delivery_begins w q c a i (Fill v g p ∷ es) = delivery_begins w q c a (suc i) es
delivery_begins w q c a i (Filled v g p ∷ es) = delivery_begins w q c a (suc i) es
delivery_begins w q c a i (Failed v r p vhy ∷ es) = delivery_begins w q c a (suc i) es
delivery_begins w q c a i (Deliver v r d ∷ es) = at (v == w) (delivery_begins w q c a (suc i) es)
  where
    at : (t : Bool) → (delivery_of w q c a (suc i) es).first ≡ a → (if t then delivery w q c a i else delivery_of w q c a (suc i) es).first ≡ a
    at true again = refl
    at false again = again
delivery_begins w q c a i (Release v r d ∷ es) = at (v == w) (delivery_begins w q c a (suc i) es)
  where
    at : (t : Bool) → (delivery_of w q c a (suc i) es).first ≡ a → (if t then delivery w q c a i else delivery_of w q c a (suc i) es).first ≡ a
    at true again = refl
    at false again = again
delivery_begins w q c a i (Stop v r ∷ es) = delivery_begins w q c a (suc i) es
delivery_begins w q c a i (End v r ∷ es) = delivery_begins w q c a (suc i) es

-- ---- all of a story is shown

shows : (z : Scale) (m : Mark) (i : ℕ) → z.first ≡ 0 → first_of m ≡ i → i < z.last → is_shown z m ≡ true
shows z m i f begins early =
    let low : nat_lt (first_of m) z.last ≡ true = lt-ltb (first_of m) z.last (omega (arith, begins, early)) in
    let high : nat_le z.first (last_of m) ≡ true = le-leb z.first (last_of m) (omega (arith, f)) in
    rw (low, high) refl

all_from : (z : Scale) (groups i : ℕ) (es : List Entry) → z.first ≡ 0 → i + length es ≤ z.last
    → AllByRecursion (λ (m : Mark). is_shown z m ≡ true) (marks_from groups i es)
all_from z groups i [] f l = tt
all_from z groups i (Register w q ∷ es) f l = (shows z (Alive (life_of w q i (suc i) es)) i f (life_begins w q i (suc i) es) (omega (arith, l)), all_from z groups (suc i) es f (omega (arith, l)))
all_from z groups i (Plan w q c ∷ es) f l = (shows z (Load w q c i) i f (refl) (omega (arith, l)), all_from z groups (suc i) es f (omega (arith, l)))
all_from z groups i (Evict w c ∷ es) f l = (shows z (Eviction c i) i f (refl) (omega (arith, l)), all_from z groups (suc i) es f (omega (arith, l)))
all_from z groups i (Fill w g p ∷ es) f l = (shows z (Read (read_of g p i (suc i) es)) i f (read_begins g p i (suc i) es) (omega (arith, l)), all_from z groups (suc i) es f (omega (arith, l)))
all_from z groups i (Filled w g p ∷ es) f l = (shows z (Stay (bar_of groups g p i (suc i) es)) i f (stay_begins groups g p i (suc i) es) (omega (arith, l)), all_from z groups (suc i) es f (omega (arith, l)))
all_from z groups i (Failed w q p why ∷ es) f l = (shows z (Fault q p i) i f (refl) (omega (arith, l)), all_from z groups (suc i) es f (omega (arith, l)))
all_from z groups i (Deliver w q c ∷ es) f l = (shows z (Given (delivery_of w q c i (suc i) es)) i f (delivery_begins w q c i (suc i) es) (omega (arith, l)), all_from z groups (suc i) es f (omega (arith, l)))
all_from z groups i (Release w q c ∷ es) f l = all_from z groups (suc i) es f (omega (arith, l))
all_from z groups i (Stop w q ∷ es) f l = all_from z groups (suc i) es f (omega (arith, l))
all_from z groups i (End w q ∷ es) f l = all_from z groups (suc i) es f (omega (arith, l))

pub all_shown : (groups : ℕ) (entries : List Entry) → length entries ≤ 4294967295 → AllShown groups entries
all_shown groups entries small =
    let kept = all_keep _ entries in
    let first : min 0 (length entries) ≡ 0 = omega arith in
    let last : max (min 0 (length entries)) (min 4294967295 (length entries)) + 1 ≡ length entries + 1 = omega (arith, small) in
    all_from (scale_of groups 0 4294967295 entries) groups 1 entries (kept.first ∙ first) (omega (arith, kept.last, last))
