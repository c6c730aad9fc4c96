-- A plan begins, and ends, at most as many fills as its trigger reads pieces of its chunk.
use Rattle.std.proofs.Common.{◌≡◌, ◌≤◌, ◌+◌, ◌*◌, ◌∷◌, [], ◌==◌, ◌||◌, not, ℕ, Bool, true, false, if◌then◌else◌, List, length, Option, None, Some, refl, ◌∙◌, ap, arith}
use Rattle.std.specs.Option.{option_map}
use Rattle.scan_story.specs.declared.entry.Entry.{Entry}
use Rattle.scan_story.specs.declared.entry.Entry.TheVariants.{Deliver, End, Evict, Failed, Fill, Filled, Plan, Register, Release, Stop}
use Rattle.scan_story.specs.declared.entry.Why.{Why}
use Rattle.scan_story.specs.declared.setting.Setting.{Setting}
use Rattle.scan_story.specs.declared.view.Load.{Load}
use Rattle.scan_story.specs.Counting.{count_among, has}
use Rattle.scan_story.specs.Legal.{Legal}
use Rattle.scan_story.specs.Loads.{begin_fill, begins, end_fill, if_open, is_open, missing_pieces, underway}
use Rattle.scan_story.specs.MayFollow.{Allowed, MayFail, MayFill, MayFilled}
use Rattle.scan_story.specs.Setting.{pieces_read}
use Rattle.scan_story.specs.Spent.{reads}
use Rattle.scan_story.specs.Views.{History, is_framed}
use Rattle.scan_story.proofs.Counts.{among_within}
use Rattle.story_laws.proofs.Bools.{either, not_both, not_false, or_false, or_left, same_number, self_number}
use Rattle.story_laws.proofs.Grouped.{Grouped}
use Rattle.story_laws.proofs.Lists.{filter_length}
use Rattle.story_laws.proofs.Proper.{Sound, filling, planned, sound}
use Rattle.story_laws.proofs.Tallies.{is_fill, plans}

-- Counts over a list of numbers

among_mono : (p q : ℕ → Bool) (xs : List ℕ) → ((x : ℕ) → p x ≡ true → q x ≡ true) → count_among p xs ≤ count_among q xs
among_mono p q [] f = omega arith
among_mono p q (x ∷ xs) f = step (p x) (q x) (f x) (among_mono p q xs f)
  where
    step : (a b : Bool) → (a ≡ true → b ≡ true) → count_among p xs ≤ count_among q xs → (if a then count_among p xs + 1 else count_among p xs) ≤ (if b then count_among q xs + 1 else count_among q xs)
    step true true g le = omega (arith, le)
    step true false g le = let bad = g refl in absurd cc
    step false true g le = omega (arith, le)
    step false false g le = le

-- an element passes q and not p
among_grows : (p q : ℕ → Bool) (xs : List ℕ) (j : ℕ) → ((x : ℕ) → p x ≡ true → q x ≡ true) → has xs j ≡ true → p j ≡ false → q j ≡ true → count_among p xs + 1 ≤ count_among q xs
among_grows p q [] j f e off on = absurd (not_both false e refl)
among_grows p q (x ∷ xs) j f e off on =
    either (x == j) (has xs j) e
    (λ t. here (p x) (q x) (ap p (same_number x j t) ∙ off) (ap q (same_number x j t) ∙ on) (among_mono p q xs f))
    (λ t. there (p x) (q x) (f x) (among_grows p q xs j f t off on))
  where
    here : (a b : Bool) → a ≡ false → b ≡ true → count_among p xs ≤ count_among q xs → (if a then count_among p xs + 1 else count_among p xs) + 1 ≤ (if b then count_among q xs + 1 else count_among q xs)
    here true b i j le = absurd cc
    here false true i j le = omega (arith, le)
    here false false i j le = absurd cc

    there : (a b : Bool) → (a ≡ true → b ≡ true) → count_among p xs + 1 ≤ count_among q xs → (if a then count_among p xs + 1 else count_among p xs) + 1 ≤ (if b then count_among q xs + 1 else count_among q xs)
    there true true g le = omega (arith, le)
    there true false g le = let bad = g refl in absurd cc
    there false true g le = omega (arith, le)
    there false false g le = le

-- The pieces of a load that were not begun, and those that were not filled

abbrev unbegun : Option Load → ℕ
unbegun None = 0
unbegun (Some l) = count_among (λ p. not (begins l p)) l.missing

abbrev unfilled : Option Load → ℕ
unfilled None = 0
unfilled (Some l) = count_among (λ p. not (has l.filled p)) l.missing

record Pieces (s : Setting) (h : History) : Type 0 where
  fills : count_among is_fill h + unbegun (underway s h) ≤ s.groups * plans h
  reads : reads h + unfilled (underway s h) ≤ s.groups * plans h

-- one piece less
pub drops : (t : ℕ → Bool) (xs : List ℕ) (p : ℕ) → has xs p ≡ true → t p ≡ false → count_among (λ x. not ((p == x) || t x)) xs + 1 ≤ count_among (λ x. not (t x)) xs
drops t xs p e off =
    among_grows (λ x. not ((p == x) || t x)) (λ x. not (t x)) xs p (λ x i. ap not (or_false (p == x) (t x) (not_false ((p == x) || t x) i)).1) e
    (ap not (or_left (p == p) (t p) (self_number p))) (ap not off)

if_open_le : (count : Option Load → ℕ) → count None ≡ 0 → (u : Option Load) → count (if_open u) ≤ count u
if_open_le count none None = omega arith
if_open_le count none (Some l) = step (is_open l)
  where
    step : (b : Bool) → count (if b then Some l else None) ≤ count (Some l)
    step true = omega arith
    step false = omega (arith, none)

end_unbegun : (p : ℕ) (u : Option Load) → unbegun (option_map (end_fill p) u) ≡ unbegun u
end_unbegun p None = refl
end_unbegun p (Some l) = refl

begin_unfilled : (f p : ℕ) (u : Option Load) → unfilled (option_map (begin_fill f p) u) ≡ unfilled u
begin_unfilled f p None = refl
begin_unfilled f p (Some l) = refl

pieces_plan : (s : Setting) (h : History) (w q c : ℕ) → Grouped s → underway s h ≡ None → Pieces s h → Pieces s (Plan w q c ∷ h)
pieces_plan s h w q c g none k =
    let few : length (missing_pieces s h q c) ≤ s.groups = omega (arith, g.few q c, filter_length (λ p. not (is_framed s h p)) (pieces_read s q c)) in
    let more : s.groups * (plans h + 1) ≡ s.groups * plans h + s.groups = times s.groups (plans h) in
    record {
      fills = omega (arith, k.fills, few, more, among_within (λ p. not (begins (planned s h w q c) p)) (missing_pieces s h q c));
      reads = omega (arith, k.reads, few, more, among_within (λ p. not (has [] p)) (missing_pieces s h q c));
    }
  where
    times : (a b : ℕ) → a * (b + 1) ≡ a * b + a
    times a b = grind arith

pieces_fill : (s : Setting) (h : History) (w f p : ℕ) → MayFill s h w f p → Pieces s h → Pieces s (Fill w f p ∷ h)
pieces_fill s h w f p may k =
    let before : unbegun (underway s h) ≡ unbegun (Some may.load) = ap unbegun may.is_load.underway in
    let after : unbegun (underway s (Fill w f p ∷ h)) ≡ unbegun (Some (begin_fill f p may.load)) = ap (λ u. unbegun (option_map (begin_fill f p) u)) may.is_load.underway in
    let less : unbegun (Some (begin_fill f p may.load)) + 1 ≤ unbegun (Some may.load) = drops (begins may.load) may.load.missing p may.piece may.not_begun in
    record { fills = omega (arith, k.fills, before, after, less); reads = omega (arith, k.reads, begin_unfilled f p (underway s h)) }

pieces_filled : (s : Setting) (h : History) (w f p : ℕ) → Sound s h → MayFilled s h w f p → Pieces s h → Pieces s (Filled w f p ∷ h)
pieces_filled s h w f p r may k =
    let missing = (filling s h w f p may (r.load may.load may.is_load.underway)).missing in
    let before : unfilled (underway s h) ≡ unfilled (Some may.load) = ap unfilled may.is_load.underway in
    let after : unfilled (option_map (end_fill p) (underway s h)) ≡ unfilled (Some (end_fill p may.load)) = ap (λ u. unfilled (option_map (end_fill p) u)) may.is_load.underway in
    let less : unfilled (Some (end_fill p may.load)) + 1 ≤ unfilled (Some may.load) = drops (has may.load.filled) may.load.missing p missing may.not_filled in
    record {
      fills = omega (arith, k.fills, if_open_le unbegun refl (option_map (end_fill p) (underway s h)), end_unbegun p (underway s h));
      reads = omega (arith, k.reads, before, after, less, if_open_le unfilled refl (option_map (end_fill p) (underway s h)));
    }

pieces_failed : (s : Setting) (h : History) (w q p : ℕ) (why : Why) → Sound s h → MayFail s h w q p why → Pieces s h → Pieces s (Failed w q p why ∷ h)
pieces_failed s h w q p why r may k =
    let missing = (r.load may.load may.is_load.underway).begun.missing p may.begun in
    let before : unfilled (underway s h) ≡ unfilled (Some may.load) = ap unfilled may.is_load.underway in
    let less : unfilled (Some (end_fill p may.load)) + 1 ≤ unfilled (Some may.load) = drops (has may.load.filled) may.load.missing p missing may.not_filled in
    record { fills = omega (arith, k.fills); reads = omega (arith, k.reads, before, less) }

pieces_next : (s : Setting) (h : History) (e : Entry) → Grouped s → Sound s h → Allowed s h e → Pieces s h → Pieces s (e ∷ h)
pieces_next s h (Plan w q c) g r may k = pieces_plan s h w q c g may.none_underway k
pieces_next s h (Fill w f p) g r may k = pieces_fill s h w f p may k
pieces_next s h (Filled w f p) g r may k = pieces_filled s h w f p r may k
pieces_next s h (Failed w q p why) g r may k = pieces_failed s h w q p why r may k
pieces_next s h (Register w q) g r may k = record { fills = k.fills; reads = k.reads }
pieces_next s h (Evict w c) g r may k = record { fills = k.fills; reads = k.reads }
pieces_next s h (Deliver w q c) g r may k = record { fills = k.fills; reads = k.reads }
pieces_next s h (Release w q c) g r may k = record { fills = k.fills; reads = k.reads }
pieces_next s h (Stop w q) g r may k = record { fills = k.fills; reads = k.reads }
pieces_next s h (End w q) g r may k = record { fills = k.fills; reads = k.reads }

pieces : (s : Setting) (h : History) → Grouped s → Legal s h → Pieces s h
pieces s [] g legal = record { fills = omega arith; reads = omega arith }
pieces s (e ∷ h) g legal = pieces_next s h e g (sound s h g legal.2) legal.0 (pieces s h g legal.2)

pub few_fills : (s : Setting) (h : History) → Grouped s → Legal s h → count_among is_fill h ≤ s.groups * plans h
few_fills s h g legal = let k = (pieces s h g legal).fills in omega (arith, k)

pub few_reads : (s : Setting) (h : History) → Grouped s → Legal s h → reads h ≤ s.groups * plans h
few_reads s h g legal = let k = (pieces s h g legal).reads in omega (arith, k)
