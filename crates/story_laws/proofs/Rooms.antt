-- Room: where frames are too few for a load, some chunk may be evicted that is close to no query.
use Rattle.std.proofs.Common.{◌≡◌, ◌<◌, ◌≤◌, ◌+◌, ◌*◌, ◌-◌, ◌/◌, ◌%◌, ◌∷◌, [], ◌==◌, ◌&&◌, ◌||◌, not, ℕ, zero, suc, Bool, true, false, if◌then◌else◌, List, length, Option, None, Some, is_none, is_some, nat_lt, nat_le, refl, sym, ◌∙◌, ap, subst, arith}
use Rattle.std.proofs.Math.Nat.{div-add-mod, lt_of_mul-lt-mul_left, mod-lt}
use Rattle.std.proofs.lemmas.Bool.Decides.{nat_tests}
use Rattle.std.proofs.lemmas.Nat.{mul-le}
use Rattle.std.specs.List.{list_any}
use Rattle.std.specs.Option.{option_map}
use Rattle.scan_story.specs.declared.setting.Need.{Need}
use Rattle.scan_story.specs.declared.setting.Setting.{Setting}
use Rattle.scan_story.specs.declared.view.Hold.{Hold}
use Rattle.scan_story.specs.declared.view.Load.{Load}
use Rattle.scan_story.specs.Counting.{any_below, count_among, count_below, has, is_number}
use Rattle.scan_story.specs.Legal.{Legal}
use Rattle.scan_story.specs.Loads.{fills_frame, free_frames, is_free, is_load_of, underway}
use Rattle.scan_story.specs.MayFollow.{feeds_starved}
use Rattle.scan_story.specs.Numbers.{available, cached, is_starved, running}
use Rattle.scan_story.specs.Setting.{HasRoom, IsSetting, piece_at}
use Rattle.scan_story.specs.Views.{History, held_by, is_active, is_available, is_framed, is_held, is_hold_of, piece_in}
use Rattle.scan_story.proofs.Chunks.{any_same}
use Rattle.scan_story.proofs.Counts.{below_all, below_within}
use Rattle.story_laws.specs.Lists.{NoneTwice}
use Rattle.story_laws.specs.Victims.{AlwaysAFarVictim}
use Rattle.story_laws.proofs.Active.{few_active}
use Rattle.story_laws.proofs.Bools.{and_both, and_false, and_true, both_and, if_not, is_below, not_both, not_false, or_false, or_off, or_right, same_number}
use Rattle.story_laws.proofs.Counts.{count_find, count_grows, count_mono, count_named, count_nothing, count_one, count_options, count_or, count_same}
use Rattle.story_laws.proofs.Grouped.{Grouped}
use Rattle.story_laws.proofs.Lists.{here}
use Rattle.story_laws.proofs.Once.{few}
use Rattle.story_laws.proofs.Proper.{nothing_filled, sound}
use Rattle.story_laws.proofs.Sums.{among_none}

-- Counting the pieces by chunks

count_plus : (p : ℕ → Bool) (a b : ℕ) → count_below p (a + b) ≡ count_below p a + count_below (λ g. p (a + g)) b
count_plus p a zero = let e : a + 0 ≡ a = omega arith in ap (count_below p) e ∙ omega arith
count_plus p a (suc b) =
    let e : a + suc b ≡ suc (a + b) = omega arith in
    ap (count_below p) e ∙ step (p (a + b)) (count_below p (a + b)) (count_below p a) (count_below (λ g. p (a + g)) b) (count_plus p a b)
  where
    step : (t : Bool) (x y z : ℕ) → x ≡ y + z → (if t then x + 1 else x) ≡ y + (if t then z + 1 else z)
    step true x y z e = omega (arith, e)
    step false x y z e = e

one_time_more : (a b : ℕ) → a * (b + 1) ≡ a * b + a
one_time_more a b = grind arith

-- of each chunk c pieces are counted: n at most where it passes q, r at most where it is the target, and else none
chunk_step : (n r x y z c : ℕ) (a b : Bool) → x ≤ n * y + r * z → c ≤ (if a then n else 0) + (if b then r else 0) → x + c ≤ n * (if a then y + 1 else y) + r * (if b then z + 1 else z)
chunk_step n r x y z c true true le lc = omega (arith, le, lc, one_time_more n y, one_time_more r z)
chunk_step n r x y z c true false le lc = omega (arith, le, lc, one_time_more n y)
chunk_step n r x y z c false true le lc = omega (arith, le, lc, one_time_more r z)
chunk_step n r x y z c false false le lc = omega (arith, le, lc)

count_chunks : (p q : ℕ → Bool) (n r t chunks : ℕ) → ((c : ℕ) → c < chunks → count_below (λ g. p (c * n + g)) n ≤ (if q c then n else 0) + (if t == c then r else 0))
    → count_below p (chunks * n) ≤ n * count_below q chunks + r * count_below (λ c. t == c) chunks
count_chunks p q n r t zero f = let e : 0 * n ≡ 0 = omega arith in omega (arith, ap (count_below p) e)
count_chunks p q n r t (suc c) f =
    let e : suc c * n ≡ c * n + n = grind arith in
    let split : count_below p (suc c * n) ≡ count_below p (c * n) + count_below (λ g. p (c * n + g)) n = ap (count_below p) e ∙ count_plus p (c * n) n in
    let le = chunk_step n r (count_below p (c * n)) (count_below q c) (count_below (λ c. t == c) c) (count_below (λ g. p (c * n + g)) n) (q c) (t == c)
    (count_chunks p q n r t c (λ k lt. f k (omega (arith, lt)))) (f c (omega arith)) in
    omega (arith, split, le)

-- a list of pieces of chunk t, none twice, is as long as the pieces that it names
length_pieces : (n t : ℕ) (xs : List ℕ) → 0 < n → NoneTwice xs → ((x : ℕ) → has xs x ≡ true → x / n ≡ t) → length xs ≤ count_below (λ g. has xs (t * n + g)) n
length_pieces n t [] some d f = omega arith
length_pieces n t (x ∷ xs) some d f =
    let at : x ≡ t * n + x % n = place n x t (f x (here x (has xs x))) in
    let rest = length_pieces n t xs some d.1 (λ y e. f y (or_right (x == y) (has xs y) e)) in
    let more : count_below (λ g. has xs (t * n + g)) n + 1 ≤ count_below (λ g. has (x ∷ xs) (t * n + g)) n =
    count_grows (λ g. has xs (t * n + g)) (λ g. has (x ∷ xs) (t * n + g)) n (x % n) (λ g lt e. or_right (x == t * n + g) (has xs (t * n + g)) e) (mod-lt x some)
    (ap (has xs) (sym at) ∙ d.0) (ap (has (x ∷ xs)) (sym at) ∙ here x (has xs x)) in
    omega (arith, rest, more)
  where
    place : (n x t : ℕ) → x / n ≡ t → x ≡ t * n + x % n
    place n x t e = let k : n * (x / n) ≡ t * n = ap (λ z. n * z) e ∙ swap n t in omega (arith, k, div-add-mod x n)
      where
        swap : (a b : ℕ) → a * b ≡ b * a
        swap a b = grind arith

-- How many chunks are held: one by each worker

hold_number : (c : ℕ) (o : Option Hold) → is_hold_of c o ≡ is_number c (option_map (λ x. x.chunk) o)
hold_number c None = refl
hold_number c (Some o) = refl

held_le : (s : Setting) (h : History) → count_below (is_held s h) s.chunks ≤ s.workers
held_le s h =
    let same : (c : ℕ) → is_held s h c ≡ any_below (λ w. is_number c (option_map (λ x. x.chunk) (held_by h w))) s.workers =
    λ c. any_same (λ w. is_hold_of c (held_by h w)) (λ w. is_number c (option_map (λ x. x.chunk) (held_by h w))) s.workers (λ w. hold_number c (held_by h w)) in
    omega (
      arith,
      count_same (is_held s h) (λ c. any_below (λ w. is_number c (option_map (λ x. x.chunk) (held_by h w))) s.workers) s.chunks same,
      count_options (λ w. option_map (λ x. x.chunk) (held_by h w)) s.chunks s.workers,
    )

-- How many chunks are close to a query: two of each active one

close_one : (a : Bool) (t : ℕ → Bool) (n : ℕ) → count_below (λ c. a && t c && nat_le (count_below t n) 2) n ≤ (if a then 2 else 0)
close_one false t n = omega (arith, count_nothing n)
close_one true t n = elim (nat_le (count_below t n) 2) as (λ b. nat_le (count_below t n) 2 ≡ b → count_below (λ c. t c && b) n ≤ 2) [
  | true ↦ λ e. omega (arith, count_same (λ c. t c && true) t n (λ k. and_true (t k)), two (count_below t n) e)
  | false ↦ λ e. omega (arith, count_same (λ c. t c && false) (λ c. false) n (λ k. and_false (t k)), count_nothing n)
] refl
  where
    two : (m : ℕ) → nat_le m 2 ≡ true → m ≤ 2
    two m e = grind (arith, nat_tests)

-- the chunk is available to an active query that has at most two
abbrev is_close : Setting → History → ℕ → Bool
is_close s h c = list_any (λ n. is_active h n.query && is_available s h n.query c && nat_le (available s h n.query) 2) s.needs

count_close : (s : Setting) (h : History) (ns : List Need)
    → count_below (λ c. list_any (λ n. is_active h n.query && is_available s h n.query c && nat_le (available s h n.query) 2) ns) s.chunks ≤ 2 * count_among (λ n. is_active h n.query) ns
count_close s h [] = omega (arith, count_nothing s.chunks)
count_close s h (n ∷ ns) =
    omega (
      arith,
      count_or (λ c. is_active h n.query && is_available s h n.query c && nat_le (available s h n.query) 2) (λ c. list_any (λ m. is_active h m.query && is_available s h m.query c && nat_le (available s h m.query) 2) ns) s.chunks,
      close_one (is_active h n.query) (is_available s h n.query) s.chunks,
      twice (is_active h n.query) (count_among (λ n. is_active h n.query) ns),
      count_close s h ns,
    )
  where
    twice : (a : Bool) (k : ℕ) → (if a then 2 else 0) + 2 * k ≡ 2 * (if a then k + 1 else k)
    twice true k = omega arith
    twice false k = omega arith

-- what feeds a starved query is close to it
fed_close : (s : Setting) (h : History) (c : ℕ) (ns : List Need) → list_any (λ n. is_active h n.query && is_available s h n.query c && nat_le (available s h n.query) 2) ns ≡ false
    → list_any (λ n. is_starved s h n.query && is_available s h n.query c) ns ≡ false
fed_close s h c [] e = refl
fed_close s h c (n ∷ ns) e =
    let o = or_false (is_active h n.query && is_available s h n.query c && nat_le (available s h n.query) 2) (list_any (λ n. is_active h n.query && is_available s h n.query c && nat_le (available s h n.query) 2) ns) e in
    or_off (is_starved s h n.query && is_available s h n.query c) (list_any (λ n. is_starved s h n.query && is_available s h n.query c) ns)
    (if_not (is_starved s h n.query && is_available s h n.query c) (λ t. (
    let p = and_both (is_starved s h n.query) (is_available s h n.query c) t in
    let q = and_both (is_active h n.query) (nat_lt (available s h n.query) 2) p.0 in
    not_both (is_active h n.query && is_available s h n.query c && nat_le (available s h n.query) 2)
    (both_and (is_active h n.query && is_available s h n.query c) (nat_le (available s h n.query) 2) (both_and (is_active h n.query) (is_available s h n.query c) q.0 p.1) (two (available s h n.query) q.1)) o.0)))
    (fed_close s h c ns o.1)
  where
    two : (m : ℕ) → nat_lt m 2 ≡ true → nat_le m 2 ≡ true
    two m e = grind (arith, nat_tests)

-- Free frames

not_some : (o : Option ℕ) → is_none o ≡ not (is_some o)
not_some None = refl
not_some (Some x) = refl

-- with no fill begun, a frame is free exactly where it has no piece
free_is_empty : (s : Setting) (h : History) (l : Load) → underway s h ≡ Some l → l.begun ≡ [] → free_frames s h ≡ count_below (λ f. not (is_some (piece_in s h f))) s.frames
free_is_empty s h l u none = count_same (is_free s h) (λ f. not (is_some (piece_in s h f))) s.frames (λ f.
    ap (λ o. is_none (piece_in s h f) && not (fills_frame f o)) u ∙ ap (λ (bs : List (ℕ × ℕ)). is_none (piece_in s h f) && not (list_any (λ b. b.0 == f) bs)) none
    ∙ and_true (is_none (piece_in s h f)) ∙ not_some (piece_in s h f))

-- Room

-- a piece of it is in a frame, and it isn't the target
abbrev is_other : Setting → History → ℕ → ℕ → Bool
is_other s h t c = nat_lt 0 (cached s h c) && not (t == c)

of_chunk_step : (b t : Bool) (x n r : ℕ) → x ≤ n → (b ≡ false → x ≡ 0) → (t ≡ true → x ≤ r) → x ≤ (if b && not t then n else 0) + (if t then r else 0)
of_chunk_step true true x n r le none few = omega (arith, few refl)
of_chunk_step true false x n r le none few = omega (arith, le)
of_chunk_step false true x n r le none few = omega (arith, few refl)
of_chunk_step false false x n r le none few = omega (arith, none refl)

-- n pieces a chunk, k workers, f frames of which some are used and some free; m pieces are missing, and r of their chunk are there;
-- x other chunks have pieces in frames
enough : (n k f used free m r x c : ℕ) → (3 * k + 1) * n ≤ f → used + free ≡ f → free < m → used ≤ n * x + r * c → c ≤ 1 → r + m ≡ n → 3 * k + 1 ≤ x
enough n k f used free m r x c frames all few le one sum =
    let a : r * c ≤ r * 1 = mul-le r c r 1 (omega arith) one in
    let e : (3 * k + 1) * n ≡ n * (3 * k + 1) = grind arith in
    let lt : n * (3 * k + 1) < n * (x + 1) = omega (arith, a, e, one_time_more n x, frames, all, few, le, sum) in
    omega (arith, lt_of_mul-lt-mul_left n lt)

all_five : (a b c d e : Bool) → a ≡ true → b ≡ true → c ≡ false → d ≡ false → e ≡ false → (a && b && not c && not d && not e) ≡ true
all_five a b c d e i j k l m = rw (i, j, k, l, m) refl

other_load : (c : ℕ) (l : Load) (u : Option Load) → u ≡ Some l → (l.chunk == c) ≡ false → is_load_of c u ≡ false
other_load c l u e ne = ap (is_load_of c) e ∙ ne

zero_or_more : (m : ℕ) → nat_lt 0 m ≡ false → m ≡ 0
zero_or_more m e = grind (arith, nat_tests)

pub far_victim : (s : Setting) (h : History) → IsSetting s → HasRoom s → Grouped s → Legal s h → AlwaysAFarVictim s h
far_victim s h m room g legal l u none too_few =
    let k = sound s h g legal in
    let r = k.load l u in
    let framed_of : ℕ → ℕ = λ c. count_below (λ j. is_framed s h (piece_at s c j)) s.groups in
    let used = count_below (λ f. is_some (piece_in s h f)) s.frames in
    let all : used + free_frames s h ≡ s.frames = omega (arith, free_is_empty s h l u none, below_all (λ f. is_some (piece_in s h f)) s.frames) in
    let named : used ≡ count_below (is_framed s h) (s.chunks * s.groups) = count_named (piece_in s h) (s.chunks * s.groups) s.frames k.placed k.apart in
    let gaps : length l.missing ≤ count_below (λ j. not (is_framed s h (piece_at s l.chunk j))) s.groups = omega (
      arith,
      length_pieces s.groups l.chunk l.missing g.some r.missing.none_twice r.missing.of_chunk,
      count_mono (λ j. has l.missing (piece_at s l.chunk j)) (λ j. not (is_framed s h (piece_at s l.chunk j))) s.groups
          (λ j lt e. ap not (r.absent (piece_at s l.chunk j) e (nothing_filled s h l r none (piece_at s l.chunk j)))),
    ) in
    let target : framed_of l.chunk + length l.missing ≤ s.groups = omega (arith, gaps, below_all (λ j. is_framed s h (piece_at s l.chunk j)) s.groups) in
    let rest = s.groups - length l.missing in
    let sum : rest + length l.missing ≡ s.groups = omega (arith, target) in
    let by_chunk : count_below (is_framed s h) (s.chunks * s.groups) ≤ s.groups * count_below (is_other s h l.chunk) s.chunks + rest * count_below (λ c. l.chunk == c) s.chunks =
    count_chunks (is_framed s h) (is_other s h l.chunk) s.groups rest l.chunk s.chunks (λ c lt. of_chunk_step (nat_lt 0 (cached s h c)) (l.chunk == c) (framed_of c) s.groups rest
    (below_within (λ j. is_framed s h (piece_at s c j)) s.groups) (zero_or_more (framed_of c))
    (λ t. (let P : ℕ → Type 0 = λ z. framed_of z ≤ rest in subst P (same_number l.chunk c t) (omega (arith, target, sum))))) in
    let many : 3 * s.workers + 1 ≤ count_below (is_other s h l.chunk) s.chunks =
    enough s.groups s.workers s.frames used (free_frames s h) (length l.missing) rest (count_below (is_other s h l.chunk) s.chunks) (count_below (λ c. l.chunk == c) s.chunks) room all too_few
    (omega (arith, named, by_chunk)) (count_one l.chunk s.chunks) sum in
    let held : count_below (is_held s h) s.chunks ≤ s.workers = held_le s h in
    let near : count_below (is_close s h) s.chunks ≤ 2 * running s h = count_close s h s.needs in
    let few : running s h ≤ s.workers = few_active s h m legal in
    let bad : count_below (λ c. is_held s h c || is_close s h c) s.chunks < count_below (is_other s h l.chunk) s.chunks = omega (arith, many, held, near, few, count_or (is_held s h) (is_close s h) s.chunks) in
    let x = count_find (is_other s h l.chunk) (λ c. is_held s h c || is_close s h c) s.chunks bad in
    let off = or_false (is_held s h x.0) (is_close s h x.0) x.3 in
    let on = and_both (nat_lt 0 (cached s h x.0)) (not (l.chunk == x.0)) x.2 in
    record {
      chunk = x.0;
      victim = all_five (nat_lt x.0 s.chunks) (nat_lt 0 (cached s h x.0)) (is_load_of x.0 (underway s h)) (is_held s h x.0) (feeds_starved s h x.0)
          (is_below x.0 s.chunks x.1) on.0 (other_load x.0 l (underway s h) u (not_false (l.chunk == x.0) on.1)) off.0 (fed_close s h x.0 s.needs off.1);
      far = among_none (λ n. is_active h n.query && is_available s h n.query x.0 && nat_le (available s h n.query) 2) s.needs off.1;
    }
