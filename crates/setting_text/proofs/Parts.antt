-- Texts joined of parts, and split at marks again.
use Rattle.std.proofs.Common.{◌≡◌, ◌≢◌, ◌<◌, ◌≤◌, ◌-◌, ◌∷◌, [], ◌++◌, ◌==◌, ◌&&◌, not, ℕ, zero, suc, length, take, drop, get_or, Bool, true, false, List, map, refl, sym, ◌∙◌, ap, append_assoc, arith}
use Rattle.std.specs.List.{join_with_byte, onto_first, slice_split}
use Rattle.std.proofs.lemmas.List.Splits.{slice_split-cons_yes, slice_split-cons_no, join_with_byte-slice_split}
use Rattle.std.proofs.lemmas.List.{take_all}
use Rattle.std.proofs.lemmas.Bool.Decides.{nat_tests}
use Rattle.story_text.specs.Reading.{lacks, IsCut}
use Rattle.setting_text.specs.Text.{ended}

self_number : (a : ℕ) → (a == a) ≡ true
self_number a = grind (arith, nat_tests)

first_of : (a b : Bool) → (not a && b) ≡ true → a ≡ false
first_of false b e = refl
first_of true b e = absurd cc

second_of : (a b : Bool) → (a && b) ≡ true → b ≡ true
second_of true b e = e
second_of false b e = absurd cc

pub lacks_both : (mark : ℕ) (xs ys : List ℕ) → lacks mark xs ≡ true → lacks mark ys ≡ true → lacks mark (xs ++ ys) ≡ true
lacks_both mark [] ys e f = f
lacks_both mark (x ∷ xs) ys e f = at_byte (λ k. lacks_both mark xs ys k f) (x == mark) e
  where
    at_byte : (lacks mark xs ≡ true → lacks mark (xs ++ ys) ≡ true) → (t : Bool) → (not t && lacks mark xs) ≡ true → (not t && lacks mark (xs ++ ys)) ≡ true
    at_byte again true k = absurd cc
    at_byte again false k = again k

pub split_lacks : (mark : ℕ) (xs : List ℕ) → lacks mark xs ≡ true → slice_split (λ (b : ℕ). b == mark) xs ≡ xs ∷ []
split_lacks mark [] e = refl
split_lacks mark (x ∷ xs) e =
    slice_split-cons_no (λ (b : ℕ). b == mark) x xs (first_of (x == mark) (lacks mark xs) e)
    ∙ ap (onto_first x) (split_lacks mark xs (second_of (not (x == mark)) (lacks mark xs) e))

pub split_at : (mark : ℕ) (xs ys : List ℕ) → lacks mark xs ≡ true → slice_split (λ (b : ℕ). b == mark) (xs ++ mark ∷ ys) ≡ xs ∷ slice_split (λ (b : ℕ). b == mark) ys
split_at mark [] ys e = slice_split-cons_yes (λ (b : ℕ). b == mark) mark ys (self_number mark)
split_at mark (x ∷ xs) ys e =
    slice_split-cons_no (λ (b : ℕ). b == mark) x (xs ++ mark ∷ ys) (first_of (x == mark) (lacks mark xs) e)
    ∙ ap (onto_first x) (split_at mark xs ys (second_of (not (x == mark)) (lacks mark xs) e))

-- what is cut is split so
pub split_cut : (mark : ℕ) (bytes word rest : List ℕ) → IsCut mark bytes word rest → slice_split (λ (b : ℕ). b == mark) bytes ≡ word ∷ slice_split (λ (b : ℕ). b == mark) rest
split_cut mark bytes word rest cut = ap (slice_split (λ (b : ℕ). b == mark)) cut.joined ∙ split_at mark word rest cut.first

abbrev pub AllLack : ℕ → List (List ℕ) → Type 0
AllLack mark [] = Unit {0}
AllLack mark (w ∷ ws) = (lacks mark w ≡ true) × AllLack mark ws

pub split_join : (mark : ℕ) (w : List ℕ) (ws : List (List ℕ)) → AllLack mark (w ∷ ws) → slice_split (λ (b : ℕ). b == mark) (join_with_byte mark (w ∷ ws)) ≡ w ∷ ws
split_join mark w [] e = split_lacks mark w e.0
split_join mark w (v ∷ ws) e = split_at mark w (join_with_byte mark (v ∷ ws)) e.0 ∙ ap (λ (l : List (List ℕ)). w ∷ l) (split_join mark v ws e.1)

pub join_lacks : (mark glue : ℕ) (ws : List (List ℕ)) → (glue == mark) ≡ false → AllLack mark ws → lacks mark (join_with_byte glue ws) ≡ true
join_lacks mark glue [] ne e = refl
join_lacks mark glue (w ∷ []) ne e = e.0
join_lacks mark glue (w ∷ v ∷ ws) ne e = lacks_both mark w (glue ∷ join_with_byte glue (v ∷ ws)) e.0 (onward (glue == mark) ne (join_lacks mark glue (v ∷ ws) ne e.1))
  where
    onward : (t : Bool) → t ≡ false → lacks mark (join_with_byte glue (v ∷ ws)) ≡ true → (not t && lacks mark (join_with_byte glue (v ∷ ws))) ≡ true
    onward false k l = l
    onward true k l = absurd cc

-- lines with their ends are split into the lines, and nothing behind the last end
pub split_ended : (ls : List (List ℕ)) → AllLack 10 ls → slice_split (λ (b : ℕ). b == 10) (ended ls) ≡ ls ++ [] ∷ []
split_ended [] e = refl
split_ended (l ∷ ls) e =
    ap (slice_split (λ (b : ℕ). b == 10)) (append_assoc l (10 ∷ []) (ended ls)) ∙ (split_at 10 l (ended ls) e.0 ∙ ap (λ (t : List (List ℕ)). l ∷ t) (split_ended ls e.1))

join_ended : (ls : List (List ℕ)) → join_with_byte 10 (ls ++ [] ∷ []) ≡ ended ls
join_ended [] = refl
join_ended (l ∷ []) = sym (append_assoc l (10 ∷ []) [])
join_ended (l ∷ m ∷ ls) = ap (λ (t : List ℕ). l ++ 10 ∷ t) (join_ended (m ∷ ls)) ∙ sym (append_assoc l (10 ∷ []) (ended (m ∷ ls)))

-- what is split so is these lines
pub ended_is : (text : List ℕ) (ls : List (List ℕ)) → slice_split (λ (b : ℕ). b == 10) text ≡ ls ++ [] ∷ [] → text ≡ ended ls
ended_is text ls e = sym (join_with_byte-slice_split 10 text) ∙ (ap (join_with_byte 10) e ∙ join_ended ls)

-- one part more
pub pushed : {A : Type 0} (f : A → List ℕ) (ps : List A) (p : A) (more : List (List ℕ)) → map f (ps ++ p ∷ []) ++ more ≡ map f ps ++ f p ∷ more
pushed f [] p more = refl
pushed f (q ∷ ps) p more = ap (λ (l : List (List ℕ)). f q ∷ l) (pushed f ps p more)

pub pushed_last : {A : Type 0} (f : A → List ℕ) (ps : List A) (p : A) → map f (ps ++ p ∷ []) ≡ map f ps ++ f p ∷ []
pushed_last f [] p = refl
pushed_last f (q ∷ ps) p = ap (λ (l : List (List ℕ)). f q ∷ l) (pushed_last f ps p)

pub parts_next : {A : Type 0} (f : A → List ℕ) (mark : ℕ) (ps qs : List A) (p : A) (bytes rest front after : List ℕ) → qs ≡ ps ++ p ∷ [] → f p ≡ front → IsCut mark rest front after
    → map f ps ++ slice_split (λ (b : ℕ). b == mark) rest ≡ slice_split (λ (b : ℕ). b == mark) bytes → map f qs ++ slice_split (λ (b : ℕ). b == mark) after ≡ slice_split (λ (b : ℕ). b == mark) bytes
parts_next {A = A} f mark ps qs p bytes rest front after made is cut inv =
    ap (λ (l : List A). map f l ++ slice_split (λ (b : ℕ). b == mark) after) made ∙ (pushed f ps p (slice_split (λ (b : ℕ). b == mark) after)
    ∙ (ap (λ (l : List ℕ). map f ps ++ l ∷ slice_split (λ (b : ℕ). b == mark) after) is
    ∙ (ap (λ (l : List (List ℕ)). map f ps ++ l) (sym (split_cut mark rest front after cut)) ∙ inv)))

pub parts_last : {A : Type 0} (f : A → List ℕ) (mark : ℕ) (ps qs : List A) (p : A) (bytes rest : List ℕ) → qs ≡ ps ++ p ∷ [] → f p ≡ rest → lacks mark rest ≡ true
    → map f ps ++ slice_split (λ (b : ℕ). b == mark) rest ≡ slice_split (λ (b : ℕ). b == mark) bytes → map f qs ≡ slice_split (λ (b : ℕ). b == mark) bytes
parts_last {A = A} f mark ps qs p bytes rest made is none inv =
    ap (map f) made ∙ (pushed_last f ps p ∙ (ap (λ (l : List ℕ). map f ps ++ l ∷ []) is
    ∙ (ap (λ (l : List (List ℕ)). map f ps ++ l) (sym (split_lacks mark rest none)) ∙ inv)))

-- the first of a list, and the others
pub uncons : {A : Type 0} (f : A → List ℕ) (xs : List A) (d : A) → 1 ≤ length xs → map f xs ≡ f (get_or xs 0 d) ∷ map f (take (length xs - 1) (drop 1 xs))
uncons {A = A} f [] d le = absurd (omega (arith, le))
uncons {A = A} f (x ∷ xs) d le = ap (λ (l : List A). f x ∷ map f l) (sym (all_taken xs))
  where
    all_taken : (ys : List A) → take (length (x ∷ ys) - 1) ys ≡ ys
    all_taken ys = take_all (length (x ∷ ys) - 1) ys (omega arith)

pub nth : {A : Type 0} (f : A → List ℕ) (xs : List A) (i : ℕ) (d : A) (ys : List (List ℕ)) → i < length xs → map f xs ≡ ys → f (get_or xs i d) ≡ get_or ys i []
nth {A = A} f xs i d ys lt is = at xs i lt ∙ ap (λ (l : List (List ℕ)). get_or l i []) is
  where
    at : (zs : List A) (k : ℕ) → k < length zs → f (get_or zs k d) ≡ get_or (map f zs) k []
    at [] k l = absurd (omega (arith, l))
    at (z ∷ zs) zero l = refl
    at (z ∷ zs) (suc k) l = at zs k (omega (arith, l))
