-- Members of rising lists are counted below a bound, and missing pieces by groups.
use Rattle.std.proofs.Common.{◌≡◌, ◌≢◌, ◌<◌, ◌≤◌, ◌+◌, ◌-◌, ◌*◌, ◌∷◌, [], ◌==◌, ◌&&◌, ◌||◌, not, ℕ, zero, suc, Bool, true, false, if◌then◌else◌, List, length, filter, map, Option, None, Some, is_some, refl, sym, ◌∙◌, ap, subst, arith, inl, inr}
use Rattle.std.specs.List.{list_any, list_all, AllByRecursion}
use Rattle.std.proofs.lemmas.Bool.{cases_Bool, cases_eq}
use Rattle.scan_story.specs.declared.setting.Need.{Need}
use Rattle.scan_story.specs.declared.setting.Setting.{Setting}
use Rattle.scan_story.specs.Counting.{has, is_number, any_below, count_below}
use Rattle.scan_story.specs.Setting.{IsSetting, IsRising, need_of, chunks_in, asks_for, groups_read, reads_group, shares, piece_at, pieces_read}
use Rattle.scan_story.specs.Views.{History, piece_in, is_framed, is_wholly_framed, needs_chunk, is_stopped, is_ended, delivers}
use Rattle.scan_story.specs.Numbers.{missing_for, cached}
use Rattle.table_sets.specs.Sets.{Rising, AreMembers}
use Rattle.chunk_interest.specs.Counted.{size_of, IsCounted}
use Rattle.chunk_interest.specs.declared.frame.Frame.{Frame}
use Rattle.chunk_interest.specs.Frames.{place_at, IsPlace, missing_in, cached_in}
use Rattle.chunk_interest.specs.Buffers.{AreFrames}
use Rattle.scan_story.proofs.Counts.{below_within}
use Rattle.chunk_interest.proofs.Below.{count_same, any_at, any_same, found, is_the_number, equal_number, other_number, same_number, true_false}
use Rattle.chunk_interest.proofs.Needs.{groups_rise, is_need}
use Rattle.chunk_interest.proofs.Buffering.{at_small_chunk}

-- one number more passes
pub count_add : (p q : ℕ → Bool) (n x : ℕ) → x < n → ((k : ℕ) → k ≢ x → p k ≡ q k) → q x ≡ false → count_below p n ≡ (if p x then count_below q n + 1 else count_below q n)
count_add p q zero x lt same out = absurd (omega (arith, lt))
count_add p q (suc n) x lt same out = elim (cases_eq n x) [
  | inl at ↦
      (let rest : count_below p n ≡ count_below q n = count_same p q n (λ k below. same k (λ e. omega (arith, e, at, below))) in
      let here : p n ≡ p x = ap p at in
      let none : q n ≡ false = ap q at ∙ out in
      ap (λ (b : Bool). if b then count_below p n + 1 else count_below p n) here ∙ (ap (λ (k : ℕ). if p x then k + 1 else k) rest
      ∙ ap (λ (b : Bool). if p x then (if b then count_below q n + 1 else count_below q n) + 1 else (if b then count_below q n + 1 else count_below q n)) (sym none)))
  | inr ne ↦
      (let below : x < n = omega (arith, lt, ne) in
      let rest = count_add p q n x below same out in
      let here : p n ≡ q n = same n ne in
      ap (λ (b : Bool). if b then count_below p n + 1 else count_below p n) here ∙ (ap (λ (k : ℕ). if q n then k + 1 else k) rest ∙ swap (p x) (q n) (count_below q n)))
]
  where
    swap : (a b : Bool) (k : ℕ) → (if b then (if a then k + 1 else k) + 1 else (if a then k + 1 else k)) ≡ (if a then (if b then k + 1 else k) + 1 else (if b then k + 1 else k))
    swap true true k = refl
    swap true false k = refl
    swap false true k = refl
    swap false false k = refl

-- what passes counts
pub counted_one : (p : ℕ → Bool) (n x : ℕ) → x < n → p x ≡ true → 1 ≤ count_below p n
counted_one p zero x lt e = absurd (omega (arith, lt))
counted_one p (suc n) x lt e = elim (cases_eq n x) [
  | inl at ↦ (let here : p n ≡ true = ap p at ∙ e in subst (λ (b : Bool). 1 ≤ (if b then count_below p n + 1 else count_below p n)) (sym here) (omega arith))
  | inr ne ↦ (let rest = counted_one p n x (omega (arith, lt, ne)) e in wider (p n) rest)
]
  where
    wider : (b : Bool) → 1 ≤ count_below p n → 1 ≤ (if b then count_below p n + 1 else count_below p n)
    wider true k = omega (arith, k)
    wider false k = k

-- none passes from m on
pub count_cut : (p : ℕ → Bool) (m n : ℕ) → m ≤ n → ((k : ℕ) → m ≤ k → p k ≡ false) → count_below p n ≡ count_below p m
count_cut p m zero le none = let e : m ≡ 0 = omega (arith, le) in ap (count_below p) (sym e)
count_cut p m (suc n) le none = elim (cases_eq m (suc n)) [
  | inl at ↦ ap (count_below p) (sym at)
  | inr ne ↦ (let below : m ≤ n = omega (arith, le, ne) in ap (λ (b : Bool). if b then count_below p n + 1 else count_below p n) (none n below) ∙ count_cut p m n below none)
]

-- Rising lists

later_out : (x : ℕ) (xs : List ℕ) → AllByRecursion (λ (y : ℕ). x < y) xs → has xs x ≡ false
later_out x [] all = refl
later_out x (y ∷ xs) all = let above = all.0 in rw (other_number y x (λ e. omega (arith, above, e))) (later_out x xs all.1)

has_more : (x k : ℕ) (xs : List ℕ) (t : Bool) → k ≢ x → ((x == k || has xs k) && t) ≡ (has xs k && t)
has_more x k xs t ne = ap (λ (b : Bool). (b || has xs k) && t) (other_number x k (λ e. ne (sym e)))

-- those of a rising list that pass are counted below its bound
pub count_passing : (t : ℕ → Bool) (n : ℕ) (xs : List ℕ) → IsRising xs → AllByRecursion (λ (x : ℕ). x < n) xs → (base : ℕ)
    → length (filter t (map (λ g. base + g) xs)) ≡ count_below (λ g. has xs g && t (base + g)) n
count_passing t n [] rise below base = sym (none_count n)
  where
    none_count : (m : ℕ) → count_below (λ g. false) m ≡ 0
    none_count zero = refl
    none_count (suc m) = none_count m
count_passing t n (x ∷ xs) rise below base =
    let p : ℕ → Bool = λ g. has (x ∷ xs) g && t (base + g) in
    let q : ℕ → Bool = λ g. has xs g && t (base + g) in
    let out : q x ≡ false = ap (λ (b : Bool). b && t (base + x)) (later_out x xs rise.0) in
    let here : p x ≡ t (base + x) = ap (λ (b : Bool). (b || has xs x) && t (base + x)) (equal_number x x refl) in
    longer (t (base + x)) (base + x) (filter t (map (λ g. base + g) xs))
    ∙ (ap (λ (k : ℕ). if t (base + x) then k + 1 else k) (count_passing t n xs rise.1 below.1 base)
    ∙ (ap (λ (b : Bool). if b then count_below q n + 1 else count_below q n) (sym here) ∙ sym (count_add p q n x below.0 (λ k ne. has_more x k xs (t (base + k)) ne) out)))
  where
    longer : (b : Bool) (y : ℕ) (ys : List ℕ) → length (if b then y ∷ ys else ys) ≡ (if b then length ys + 1 else length ys)
    longer true y ys = omega arith
    longer false y ys = refl

-- a rising list is as long as it has members below its bound
pub above_start : (start : ℕ) (xs : List ℕ) (end x : ℕ) → Rising start xs end → x < start → has xs x ≡ false
above_start start [] end x rise lt = refl
above_start start (y ∷ xs) end x rise lt = let low = rise.0 in rw (other_number y x (λ e. omega (arith, low, lt, e))) (above_start (y + 1) xs end x rise.1 (omega (arith, low, lt)))

ends_above : (start : ℕ) (xs : List ℕ) (end : ℕ) → Rising start xs end → start ≤ end
ends_above start [] end rise = rise
ends_above start (x ∷ xs) end rise = let low = rise.0 in let rest = ends_above (x + 1) xs end rise.1 in omega (arith, low, rest)

pub count_members : (start : ℕ) (xs : List ℕ) (n : ℕ) → Rising start xs n → length xs ≡ count_below (has xs) n
count_members start [] n rise = sym (none_count n)
  where
    none_count : (m : ℕ) → count_below (λ g. false) m ≡ 0
    none_count zero = refl
    none_count (suc m) = none_count m
count_members start (x ∷ xs) n rise =
    let end = ends_above (x + 1) xs n rise.1 in
    let out : has xs x ≡ false = above_start (x + 1) xs n x rise.1 (omega arith) in
    let here : has (x ∷ xs) x ≡ true = ap (λ (b : Bool). b || has xs x) (equal_number x x refl) in
    let more : length (x ∷ xs) ≡ length xs + 1 = omega arith in
    more ∙ (ap (λ (k : ℕ). k + 1) (count_members (x + 1) xs n rise.1)
    ∙ (ap (λ (b : Bool). if b then count_below (has xs) n + 1 else count_below (has xs) n) (sym here)
    ∙ sym (count_add (has (x ∷ xs)) (has xs) n x (omega (arith, end)) (λ k ne. ap (λ (b : Bool). b || has xs k) (other_number x k (λ e. ne (sym e)))) out)))

pub members_size : (xs : List ℕ) → AreMembers 1024 xs → length xs ≡ size_of xs
unfolding size_of
members_size xs rise = count_members 0 xs 1024 rise

-- a set with one chunk more, and with one less
pub size_more : (xs ys : List ℕ) (c : ℕ) → c < 1024 → has xs c ≡ false → ((x : ℕ) → has ys x ≡ (has xs x || x == c)) → size_of ys ≡ size_of xs + 1
unfolding size_of
size_more xs ys c lt out with_c =
    let here : has ys c ≡ true = with_c c ∙ last_or (has xs c) (c == c) (equal_number c c refl) in
    let more = count_add (has ys) (has xs) 1024 c lt (λ k ne. with_c k ∙ first_or (has xs k) (k == c) (other_number k c ne)) out in
    more ∙ ap (λ (b : Bool). if b then count_below (has xs) 1024 + 1 else count_below (has xs) 1024) here
  where
    last_or : (a b : Bool) → b ≡ true → (a || b) ≡ true
    last_or true b e = refl
    last_or false b e = e

    first_or : (a b : Bool) → b ≡ false → (a || b) ≡ a
    first_or true b e = refl
    first_or false b e = e

pub size_less : (xs ys : List ℕ) (c : ℕ) → c < 1024 → has xs c ≡ true → ((x : ℕ) → has ys x ≡ (has xs x && not (x == c))) → size_of xs ≡ size_of ys + 1
unfolding size_of
size_less xs ys c lt there without_c =
    let out : has ys c ≡ false = without_c c ∙ last_and (has xs c) (c == c) (equal_number c c refl) in
    let less = count_add (has xs) (has ys) 1024 c lt (λ k ne. sym (without_c k ∙ first_and (has xs k) (k == c) (other_number k c ne))) out in
    less ∙ ap (λ (b : Bool). if b then count_below (has ys) 1024 + 1 else count_below (has ys) 1024) there
  where
    last_and : (a b : Bool) → b ≡ true → (a && not b) ≡ false
    last_and true true e = refl
    last_and true false e = absurd (true_false false e refl)
    last_and false b e = refl

    first_and : (a b : Bool) → b ≡ false → (a && not b) ≡ a
    first_and true true e = absurd (true_false true refl e)
    first_and true false e = refl
    first_and false b e = refl

-- members are below the bound
risen_within : (start n x : ℕ) (xs : List ℕ) → Rising start xs n → has xs x ≡ true → x < n
risen_within start n x [] rise e = absurd (true_false false e refl)
risen_within start n x (y ∷ xs) rise e = elim (cases_Bool (y == x)) [
  | inl so ↦ (let same = same_number y x so in let end = ends_above (y + 1) xs n rise.1 in omega (arith, same, end))
  | inr ne ↦ risen_within (y + 1) n x xs rise.1 (rw ne at e)
]

pub members_within : (xs : List ℕ) (x : ℕ) → AreMembers 1024 xs → has xs x ≡ true → x < 1024
members_within xs x rise e = risen_within 0 1024 x xs rise e

pub few_members : (xs : List ℕ) → size_of xs ≤ 1024
unfolding size_of
few_members xs = below_within (has xs) 1024

-- a member counts
pub some_members : (xs : List ℕ) (c : ℕ) → c < 1024 → has xs c ≡ true → 1 ≤ size_of xs
unfolding size_of
some_members xs c lt there = counted_one (has xs) 1024 c lt there

pub counted_none : (xs : List ℕ) → xs ≡ [] → IsCounted xs 0
unfolding size_of
counted_none xs e = record {
  size = sym (ap (λ (ys : List ℕ). count_below (has ys) 1024) e ∙ count_cut (λ g. false) 0 1024 (omega arith) (λ k le. refl));
  within = λ x t. absurd (true_false (has xs x) t (ap (λ (ys : List ℕ). has ys x) e));
}

pub counted_more : (xs ys : List ℕ) (n c : ℕ) → c < 1024 → has xs c ≡ false → ((x : ℕ) → has ys x ≡ (has xs x || x == c)) → IsCounted xs n → IsCounted ys (n + 1)
counted_more xs ys n c lt out with_c is = record {
  size = ap (λ (k : ℕ). k + 1) is.size ∙ sym (size_more xs ys c lt out with_c);
  within = λ x t. by_or (has xs x) (x == c) (is.within x) (λ e. subst (λ (k : ℕ). k < 1024) (sym (same_number x c e)) lt) (sym (with_c x) ∙ t);
}
  where
    by_or : {R : Type 0} (a b : Bool) → (a ≡ true → R) → (b ≡ true → R) → (a || b) ≡ true → R
    by_or true b f g e = f refl
    by_or false b f g e = g e

pub counted_less : (xs ys : List ℕ) (n c : ℕ) → c < 1024 → has xs c ≡ true → ((x : ℕ) → has ys x ≡ (has xs x && not (x == c))) → IsCounted xs n → IsCounted ys (n - 1)
counted_less xs ys n c lt there without_c is = record {
  size = (let less = size_less xs ys c lt there without_c in omega (arith, less, is.size));
  within = λ x t. is.within x (first (has xs x) (not (x == c)) (sym (without_c x) ∙ t));
}
  where
    first : (a b : Bool) → (a && b) ≡ true → a ≡ true
    first true b e = refl
    first false b e = e

-- Pieces

pub placed_is : (s : Setting) (h : History) (p : ℕ) (o : Option ℕ) → IsPlace s h p o → is_some o ≡ is_framed s h p
placed_is s h p None is = sym is
placed_is s h p (Some f) is = sym (any_at (λ g. is_number p (piece_in s h g)) s.frames f is.0 (is_the_number p (piece_in s h f) is.1))

piece_is : (s : Setting) (h : History) (n : ℕ) (fs : List Frame) (ps bs : List (Option ℕ)) (c g : ℕ) → IsSetting s → AreFrames s h n fs ps bs → c < 1024 → g < n → is_some (place_at ps (c * n + g)) ≡ is_framed s h (piece_at s c g)
piece_is s h n fs ps bs c g ok are small lt =
    let few = ok.groups.1 in
    placed_is s h (c * n + g) (place_at ps (c * n + g)) (are.places (c * n + g) (at_small_chunk c n g small (omega (arith, few, are.groups)) lt)) ∙ ap (λ (m : ℕ). is_framed s h (c * m + g)) are.groups

pub missing_is : (s : Setting) (h : History) (n : ℕ) (fs : List Frame) (ps bs : List (Option ℕ)) (q c : ℕ) (reads : List ℕ) → IsSetting s → AreFrames s h n fs ps bs → c < 1024 → ((g : ℕ) → has reads g ≡ reads_group s q g)
    → missing_in ps n reads c ≡ missing_for s h q c
missing_is s h n fs ps bs q c reads ok are small same =
    let rise = groups_rise s q ok in
    count_same (λ g. has reads g && not (is_some (place_at ps (c * n + g)))) (λ g. has (groups_read s q) g && not (is_framed s h (c * s.groups + g))) n
    (λ g lt. ap (λ (b : Bool). b && not (is_some (place_at ps (c * n + g)))) (same g) ∙ ap (λ (b : Bool). has (groups_read s q) g && not b) (piece_is s h n fs ps bs c g ok are small lt))
    ∙ (ap (count_below (λ g. has (groups_read s q) g && not (is_framed s h (c * s.groups + g)))) are.groups
    ∙ sym (count_passing (λ p. not (is_framed s h p)) s.groups (groups_read s q) rise.0 rise.1 (c * s.groups)))

pub cached_is : (s : Setting) (h : History) (n : ℕ) (fs : List Frame) (ps bs : List (Option ℕ)) (c : ℕ) → IsSetting s → AreFrames s h n fs ps bs → c < 1024 → cached_in ps n c ≡ cached s h c
cached_is s h n fs ps bs c ok are small =
    count_same (λ g. is_some (place_at ps (c * n + g))) (λ g. is_framed s h (piece_at s c g)) n (λ g lt. piece_is s h n fs ps bs c g ok are small lt)
    ∙ ap (count_below (λ g. is_framed s h (piece_at s c g))) are.groups

-- all pass where none is left that doesn't
all_pass : (t : ℕ → Bool) (ps : List ℕ) → list_all t ps ≡ (length (filter (λ p. not (t p)) ps) == 0)
all_pass t [] = refl
all_pass t (p ∷ ps) = at_head (t p) (length (filter (λ p. not (t p)) ps)) (filter (λ p. not (t p)) ps) (all_pass t ps)
  where
    at_head : (b : Bool) (n : ℕ) (rest : List ℕ) → list_all t ps ≡ (length rest == 0) → (b && list_all t ps) ≡ (length (if not b then p ∷ rest else rest) == 0)
    at_head true n rest e = e
    at_head false n rest e = sym (other_number (length (p ∷ rest)) 0 (λ z. omega (arith, z)))

pub whole_is : (s : Setting) (h : History) (q c : ℕ) → is_wholly_framed s h q c ≡ (missing_for s h q c == 0)
whole_is s h q c = all_pass (is_framed s h) (pieces_read s q c)

-- Needs

within_has : (n x : ℕ) (xs : List ℕ) → AllByRecursion (λ (c : ℕ). c < n) xs → has xs x ≡ true → x < n
within_has n x [] all e = absurd (true_false false e refl)
within_has n x (y ∷ xs) all e = elim (cases_Bool (y == x)) [
  | inl so ↦ subst (λ (z : ℕ). z < n) (same_number y x so) all.0
  | inr ne ↦ within_has n x xs all.1 (rw ne at e)
]

asked_inside : (s : Setting) (q c : ℕ) (o : Option Need) → ((n : Need) → o ≡ Some n → AllByRecursion (λ (c : ℕ). c < s.chunks) n.chunks) → has (chunks_in o) c ≡ true → c < s.chunks
asked_inside s q c None within e = absurd (true_false false e refl)
asked_inside s q c (Some n) within e = within_has s.chunks c n.chunks (within n refl) e

first_of : (a b c d : Bool) → (a && b && c && d) ≡ true → a ≡ true
first_of true b c d e = refl
first_of false b c d e = e

pub needed_inside : (s : Setting) (h : History) (q c : ℕ) → IsSetting s → needs_chunk s h q c ≡ true → c < s.chunks
needed_inside s h q c ok e = asked_inside s q c (need_of s q) (λ n is. (is_need s q n ok is).0.within)
    (first_of (asks_for s q c) (not (is_stopped h q)) (not (is_ended h q)) (not (list_any (delivers q c) h)) e)

-- Groups that two queries read

any_from : (p : ℕ → Bool) (n : ℕ) (xs : List ℕ) → AllByRecursion (λ (x : ℕ). x < n) xs → list_any p xs ≡ true → any_below (λ g. has xs g && p g) n ≡ true
any_from p n [] all e = absurd (true_false false e refl)
any_from p n (x ∷ xs) all e = elim (cases_Bool (p x)) [
  | inl so ↦ any_at (λ g. has (x ∷ xs) g && p g) n x all.0 (ap (λ (b : Bool). (b || has xs x) && p x) (equal_number x x refl) ∙ so)
  | inr ne ↦
      (let k = found (λ g. has xs g && p g) n (any_from p n xs all.1 (rw ne at e)) in
      any_at (λ g. has (x ∷ xs) g && p g) n k.0 k.1 (wider (x == k.0) (has xs k.0) (p k.0) k.2))
]
  where
    wider : (a b d : Bool) → (b && d) ≡ true → ((a || b) && d) ≡ true
    wider true true d e = e
    wider true false d e = absurd (true_false false e refl)
    wider false b d e = e

any_to : (p : ℕ → Bool) (xs : List ℕ) (x : ℕ) → has xs x ≡ true → p x ≡ true → list_any p xs ≡ true
any_to p [] x e t = absurd (true_false false e refl)
any_to p (y ∷ xs) x e t = elim (cases_Bool (y == x)) [
  | inl so ↦ ap (λ (b : Bool). b || list_any p xs) (ap p (same_number y x so) ∙ t)
  | inr ne ↦ (let rest = any_to p xs x (rw ne at e) t in second (p y) (list_any p xs) rest)
]
  where
    second : (a b : Bool) → b ≡ true → (a || b) ≡ true
    second true b e = refl
    second false b e = e

pub any_is : (p : ℕ → Bool) (n : ℕ) (xs : List ℕ) → AllByRecursion (λ (x : ℕ). x < n) xs → list_any p xs ≡ any_below (λ g. has xs g && p g) n
any_is p n xs all = elim (cases_Bool (list_any p xs)) [
  | inl so ↦ so ∙ sym (any_from p n xs all so)
  | inr not ↦ not ∙ sym (elim (cases_Bool (any_below (λ g. has xs g && p g) n)) [
    | inl some ↦ (let k = found (λ g. has xs g && p g) n some in let b = both_of (has xs k.0) (p k.0) k.2 in absurd (true_false (list_any p xs) (any_to p xs k.0 b.0 b.1) not))
    | inr none ↦ none
  ])
]
  where
    both_of : (a b : Bool) → (a && b) ≡ true → (a ≡ true) × (b ≡ true)
    both_of true b e = (refl, e)
    both_of false b e = absurd (true_false false e refl)

pub shares_is : (s : Setting) (q r n : ℕ) (a b : List ℕ) → IsSetting s → n ≡ s.groups → ((g : ℕ) → has a g ≡ reads_group s q g) → ((g : ℕ) → has b g ≡ reads_group s r g) → any_below (λ g. has a g && has b g) n ≡ shares s q r
shares_is s q r n a b ok groups reads also =
    any_same (λ g. has a g && has b g) (λ g. has (groups_read s q) g && reads_group s r g) n (λ g lt. ap (λ (x : Bool). x && has b g) (reads g) ∙ ap (λ (x : Bool). reads_group s q g && x) (also g))
    ∙ (ap (any_below (λ g. has (groups_read s q) g && reads_group s r g)) groups ∙ sym (any_is (reads_group s r) s.groups (groups_read s q) (groups_rise s q ok).1))
