-- The pieces that a query reads, read off the groups one by one, and those that stand in no frame.
use Rattle.std.proofs.Common.{◌≡◌, ◌<◌, ◌≤◌, ◌+◌, ◌*◌, ◌∷◌, ◌++◌, [], ◌==◌, not, ℕ, zero, suc, Bool, true, false, if◌then◌else◌, List, map, filter, Option, nat_lt, is_some, All, refl, sym, ◌∙◌, ap, arith, inl, inr}
use Rattle.std.specs.List.{AllByRecursion}
use Rattle.std.proofs.lemmas.Bool.{cases_Bool}
use Rattle.std.proofs.lemmas.Bool.Decides.{nat_tests}
use Rattle.std.proofs.lemmas.List.{map-append}
use Rattle.std.proofs.lemmas.List.Elements.{All-head, All-tail}
use Rattle.scan_story.specs.declared.setting.Setting.{Setting}
use Rattle.scan_story.specs.Counting.{has}
use Rattle.scan_story.specs.Setting.{IsSetting, IsRising, groups_read, reads_group, pieces_read}
use Rattle.scan_story.specs.Views.{History, is_framed}
use Rattle.chunk_interest.specs.declared.frame.Frame.{Frame}
use Rattle.chunk_interest.specs.Frames.{place_at}
use Rattle.chunk_interest.specs.Buffers.{AreFrames}
use Rattle.interest_book.specs.Placed.{read_below, unplaced}
use Rattle.chunk_interest.proofs.Below.{other_number}
use Rattle.chunk_interest.proofs.Needs.{groups_rise}
use Rattle.chunk_interest.proofs.Counting.{placed_is}

-- the members of a rising list below a number

none_low : (m k : ℕ) (xs : List ℕ) → k ≤ m + 1 → AllByRecursion (λ (y : ℕ). m < y) xs → filter (λ x. nat_lt x k) xs ≡ []
none_low m k [] le all = refl
none_low m k (x ∷ xs) le all =
    let above = all.0 in
    let e : nat_lt x k ≡ false = grind (arith, nat_tests, above, le) in
    rw e (none_low m k xs le all.1)

not_there : (m : ℕ) (xs : List ℕ) → AllByRecursion (λ (y : ℕ). m < y) xs → has xs m ≡ false
not_there m [] all = refl
not_there m (x ∷ xs) all = let above = all.0 in rw (other_number x m (λ e. omega (arith, above, e))) (not_there m xs all.1)

cons_if : (b : Bool) (x m : ℕ) (ys : List ℕ) → x ∷ (if b then ys ++ m ∷ [] else ys) ≡ (if b then (x ∷ ys) ++ m ∷ [] else x ∷ ys)
cons_if true x m ys = refl
cons_if false x m ys = refl

later : (x m : ℕ) (xs : List ℕ) → m ≤ x → AllByRecursion (λ (y : ℕ). x < y) xs → AllByRecursion (λ (y : ℕ). m < y) xs
later x m [] le all = tt
later x m (y ∷ xs) le all = let above = all.0 in (omega (arith, above, le), later x m xs le all.1)

-- one number more
low_next : (m : ℕ) (xs : List ℕ) → IsRising xs → filter (λ x. nat_lt x (m + 1)) xs ≡ (if has xs m then filter (λ x. nat_lt x m) xs ++ m ∷ [] else filter (λ x. nat_lt x m) xs)
low_next m [] rise = refl
low_next m (x ∷ xs) rise = elim (cases_Bool (nat_lt x m)) [
  | inl below ↦ (
      let e : nat_lt x (m + 1) ≡ true = grind (arith, nat_tests, below) in
      let o : (x == m) ≡ false = grind (arith, nat_tests, below) in
      rw (e, below, o) (ap (λ (ys : List ℕ). x ∷ ys) (low_next m xs rise.1) ∙ cons_if (has xs m) x m (filter (λ x. nat_lt x m) xs)))
  | inr not_below ↦ elim (cases_Bool (x == m)) [
    | inl same ↦ (
        let is : x ≡ m = grind (arith, nat_tests, same) in
        let e : nat_lt x (m + 1) ≡ true = grind (arith, nat_tests, same) in
        let all = later x m xs (omega (arith, is)) rise.0 in
        rw (e, not_below, same) (ap (λ (ys : List ℕ). x ∷ ys) (none_low m (m + 1) xs (omega arith) all) ∙ ap (λ (y : ℕ). y ∷ []) is ∙ sym (ap (λ (ys : List ℕ). ys ++ m ∷ []) (none_low m m xs (omega arith) all))))
    | inr other ↦ (
        let e : nat_lt x (m + 1) ≡ false = grind (arith, nat_tests, not_below, other) in
        let le : m ≤ x = grind (arith, nat_tests, not_below) in
        let all = later x m xs le rise.0 in
        rw (e, not_below, other, not_there m xs all) (none_low m (m + 1) xs (omega arith) all ∙ sym (none_low m m xs (omega arith) all)))
  ]
]

low_all : (n : ℕ) (xs : List ℕ) → AllByRecursion (λ (x : ℕ). x < n) xs → filter (λ x. nat_lt x n) xs ≡ xs
low_all n [] all = refl
low_all n (x ∷ xs) all =
    let below = all.0 in
    let e : nat_lt x n ≡ true = grind (arith, nat_tests, below) in
    rw e (ap (λ (ys : List ℕ). x ∷ ys) (low_all n xs all.1))

mapped_if : (b : Bool) (f : ℕ → ℕ) (m : ℕ) (ys : List ℕ) → map f (if b then ys ++ m ∷ [] else ys) ≡ (if b then map f ys ++ f m ∷ [] else map f ys)
mapped_if true f m ys = map-append f ys (m ∷ [])
mapped_if false f m ys = refl

-- the pieces at the groups below m are those of the members below m
read_low : (reads gs : List ℕ) (c n m : ℕ) → IsRising gs → ((g : ℕ) → has reads g ≡ has gs g) → read_below reads c n m ≡ map (λ g. c * n + g) (filter (λ x. nat_lt x m) gs)
read_low reads gs c n zero rise same = sym (ap (map (λ g. c * n + g)) (none_at_zero gs))
  where
    none_at_zero : (xs : List ℕ) → filter (λ x. nat_lt x 0) xs ≡ []
    none_at_zero [] = refl
    none_at_zero (x ∷ xs) = let e : nat_lt x 0 ≡ false = grind (arith, nat_tests) in rw e (none_at_zero xs)
read_low reads gs c n (suc m) rise same =
    let f : ℕ → ℕ = λ g. c * n + g in
    let r = read_low reads gs c n m rise same in
    let next : filter (λ x. nat_lt x (suc m)) gs ≡ (if has gs m then filter (λ x. nat_lt x m) gs ++ m ∷ [] else filter (λ x. nat_lt x m) gs) =
    let more : suc m ≡ m + 1 = omega arith in ap (λ (k : ℕ). filter (λ x. nat_lt x k) gs) more ∙ low_next m gs rise in
    ap (λ (ps : List ℕ). if has reads m then ps ++ f m ∷ [] else ps) r
    ∙ ap (λ (b : Bool). if b then map f (filter (λ x. nat_lt x m) gs) ++ f m ∷ [] else map f (filter (λ x. nat_lt x m) gs)) (same m)
    ∙ sym (mapped_if (has gs m) f m (filter (λ x. nat_lt x m) gs)) ∙ sym (ap (map f) next)

pub read_is : (s : Setting) (q c n : ℕ) (reads : List ℕ) → IsSetting s → n ≡ s.groups → ((g : ℕ) → has reads g ≡ reads_group s q g) → read_below reads c n n ≡ pieces_read s q c
read_is s q c n reads ok groups same =
    let rise = groups_rise s q ok in
    read_low reads (groups_read s q) c n n rise.0 same
    ∙ ap (map (λ g. c * n + g)) (ap (λ (m : ℕ). filter (λ x. nat_lt x m) (groups_read s q)) groups ∙ low_all s.groups (groups_read s q) rise.1)
    ∙ ap (λ (m : ℕ). map (λ g. c * m + g) (groups_read s q)) groups

-- Pieces in no frame

same_left : (t u : Bool) (x : ℕ) (ys zs : List ℕ) → t ≡ u → ys ≡ zs → (if t then x ∷ ys else ys) ≡ (if u then x ∷ zs else zs)
same_left t u x ys zs e f = ap (λ (b : Bool). if b then x ∷ ys else ys) e ∙ ap (λ (ws : List ℕ). if u then x ∷ ws else ws) f

pub unplaced_is : (s : Setting) (h : History) (n : ℕ) (fs : List Frame) (ps bs : List (Option ℕ)) (pieces : List ℕ) → AreFrames s h n fs ps bs → All (λ (p : ℕ). p < 16384) pieces
    → unplaced ps pieces ≡ filter (λ p. not (is_framed s h p)) pieces
unplaced_is s h n fs ps bs [] are small = refl
unplaced_is s h n fs ps bs (p ∷ pieces) are small =
    same_left (not (is_some (place_at ps p))) (not (is_framed s h p)) p (unplaced ps pieces) (filter (λ p. not (is_framed s h p)) pieces)
    (ap not (placed_is s h p (place_at ps p) (are.places p (All-head (λ (x : ℕ). x < 16384) p pieces small)))) (unplaced_is s h n fs ps bs pieces are (All-tail (λ (x : ℕ). x < 16384) p pieces small))
