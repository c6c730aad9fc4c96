-- A story has one text: an entry's line is read as that entry, so no two entries have one line.
use Rattle.std.proofs.Common.{◌≡◌, ◌∙◌, ◌<◌, ◌^◌, ◌==◌, ◌∷◌, [], ◌++◌, ◌&&◌, not, ℕ, Bool, true, false, List, append_assoc, refl, sym, ap, arith}
use Rattle.std.specs.Prelude.{Option, Some, codes, decimal, if◌then◌else◌}
use Rattle.std.specs.List.{AllByRecursion}
use Rattle.std.specs.Option.{option_map}
use Rattle.scan_story.specs.declared.entry.Why.{Why}
use Rattle.scan_story.specs.declared.entry.Why.TheVariants.{Fault, Damage}
use Rattle.scan_story.specs.declared.entry.Entry.{Entry}
use Rattle.scan_story.specs.declared.entry.Entry.TheVariants.{Register, Plan, Evict, Fill, Filled, Failed, Deliver, Release, Stop, End}
use Rattle.story_text.specs.Text.{entry_text, why_text, story_text}
use Rattle.story_text.specs.Reading.{Fits, FitsWhy, lacks, number_of, IsCut, why_read}
use Rattle.story_text.proofs.Cuts.{one_cut}
use Rattle.story_text.proofs.Digits.{decimal_digits}
use Rattle.story_text.proofs.Lines.{entry_clean}
use Rattle.story_text.proofs.LineReading.{AreRead, entry_is, read_all}

-- what stands before the first blank, and what behind it
abbrev before : List ℕ → List ℕ
before [] = []
before (b ∷ bs) = if b == 32 then [] else b ∷ before bs

abbrev behind : List ℕ → List ℕ
behind [] = []
behind (b ∷ bs) = if b == 32 then bs else behind bs

-- a text is cut at its first blank
cut_is : (w r : List ℕ) → lacks 32 w ≡ true → (before (w ++ 32 ∷ r) ≡ w) × (behind (w ++ 32 ∷ r) ≡ r)
cut_is [] r clean = (refl, refl)
cut_is (x ∷ w) r clean = at_byte (λ k. cut_is w r k) (x == 32) clean
  where
    at_byte : (lacks 32 w ≡ true → (before (w ++ 32 ∷ r) ≡ w) × (behind (w ++ 32 ∷ r) ≡ r)) → (t : Bool) → (not t && lacks 32 w) ≡ true
        → ((if t then [] else x ∷ before (w ++ 32 ∷ r)) ≡ x ∷ w) × ((if t then w ++ 32 ∷ r else behind (w ++ 32 ∷ r)) ≡ r)
    at_byte again true k = absurd cc
    at_byte again false k = let p = again k in (ap (λ (l : List ℕ). x ∷ l) p.0, p.1)

first_number : (n : ℕ) (rest tail : List ℕ) → n < 2 ^ 64 → rest ≡ decimal n ++ 32 ∷ tail → (number_of (before rest) ≡ n) × (behind rest ≡ tail)
first_number n rest tail lt is =
    let d = decimal_digits n lt in
    let p = cut_is (decimal n) tail (d.unmarked 32 (omega arith)) in
    (ap (λ (l : List ℕ). number_of (before l)) is ∙ (ap number_of p.0 ∙ d.value), ap behind is ∙ p.1)

last_number : (n : ℕ) (rest : List ℕ) → n < 2 ^ 64 → rest ≡ decimal n → number_of rest ≡ n
last_number n rest lt is = ap number_of is ∙ (decimal_digits n lt).value

-- the numbers and the reason that stand behind an entry's word
abbrev two : List ℕ → Option (ℕ × ℕ)
two rest = Some (number_of (before rest), number_of (behind rest))

abbrev three : List ℕ → Option (ℕ × (ℕ × ℕ))
three rest = Some (number_of (before rest), (number_of (before (behind rest)), number_of (behind (behind rest))))

abbrev why : List ℕ → Option Why
why rest = why_read (before rest) (two (behind rest)) (Some (number_of (behind rest)))

abbrev four : List ℕ → Option (ℕ × (ℕ × (ℕ × Why)))
four rest =
    option_map (λ (y : Why). (number_of (before rest), (number_of (before (behind rest)), (number_of (before (behind (behind rest))), y)))) (why (behind (behind (behind rest))))

two_is : (a b : ℕ) (rest : List ℕ) → a < 2 ^ 64 → b < 2 ^ 64 → rest ≡ decimal a ++ (codes " " ++ decimal b) → two rest ≡ Some (a, b)
two_is a b rest la lb is =
    let p = first_number a rest (decimal b) la is in
    let x = p.0 in
    let y = last_number b (behind rest) lb p.1 in
    cc

three_is : (a b c : ℕ) (rest : List ℕ) → a < 2 ^ 64 → b < 2 ^ 64 → c < 2 ^ 64 → rest ≡ decimal a ++ (codes " " ++ (decimal b ++ (codes " " ++ decimal c))) → three rest ≡ Some (a, (b, c))
three_is a b c rest la lb lc is =
    let p = first_number a rest (decimal b ++ (codes " " ++ decimal c)) la is in
    let q = first_number b (behind rest) (decimal c) lb p.1 in
    let x = p.0 in
    let y = q.0 in
    let z = last_number c (behind (behind rest)) lc q.1 in
    cc

why_is : (y : Why) (rest : List ℕ) → FitsWhy y → rest ≡ why_text y → why rest ≡ Some y
why_is (Fault b a) rest f is =
    let k : two (decimal b ++ (codes " " ++ decimal a)) ≡ Some (b, a) = two_is b a (decimal b ++ (codes " " ++ decimal a)) f.0 f.1 refl in
    ap why is ∙ ap (λ (o : Option (ℕ × ℕ)). why_read (codes "fault") o (Some (number_of (decimal b ++ (codes " " ++ decimal a))))) k
why_is (Damage i) rest f is =
    let k : number_of (decimal i) ≡ i = last_number i (decimal i) (omega (arith, f)) refl in
    ap why is ∙ ap (λ (n : ℕ). why_read (codes "damage") (two (decimal i)) (Some n)) k

four_is : (w q p : ℕ) (y : Why) (rest : List ℕ) → w < 2 ^ 64 → q < 2 ^ 64 → p < 2 ^ 64 → FitsWhy y
    → rest ≡ decimal w ++ (codes " " ++ (decimal q ++ (codes " " ++ (decimal p ++ (codes " " ++ why_text y))))) → four rest ≡ Some (w, (q, (p, y)))
four_is w q p y rest lw lq lp f is =
    let a = first_number w rest (decimal q ++ (codes " " ++ (decimal p ++ (codes " " ++ why_text y)))) lw is in
    let b = first_number q (behind rest) (decimal p ++ (codes " " ++ why_text y)) lq a.1 in
    let c = first_number p (behind (behind rest)) (why_text y) lp b.1 in
    let k = why_is y (behind (behind (behind rest))) f c.1 in
    let x = a.0 in
    let u = b.0 in
    let v = c.0 in
    ap (option_map (λ (y : Why). (number_of (before rest), (number_of (before (behind rest)), (number_of (before (behind (behind rest))), y))))) k ∙ cc

short : (n : ℕ) → n < 2 ^ 32 → n < 2 ^ 64
short n lt = omega (arith, lt)

are_read : (rest : List ℕ) → AreRead rest (two rest) (three rest) (four rest)
are_read rest = record {
  pair = λ a b la lb is. two_is a b rest (short a la) (short b lb) is;
  triple = λ a b c la lb lc is. three_is a b c rest (short a la) (short b lb) (short c lc) is;
  failed = λ w q p y lw lq lp f is. four_is w q p y rest (short w lw) (short q lq) (short p lp) f is;
}

-- the entry of a line
abbrev entry_in : List ℕ → Option Entry
entry_in line = read_all (before line) (two (behind line)) (three (behind line)) (four (behind line))

cut_at : (e : Entry) → IsCut 32 (entry_text e) (before (entry_text e)) (behind (entry_text e))
cut_at (Register w q) = record { first = refl; joined = refl }
cut_at (Plan w q c) = record { first = refl; joined = refl }
cut_at (Evict w c) = record { first = refl; joined = refl }
cut_at (Fill w f p) = record { first = refl; joined = refl }
cut_at (Filled w f p) = record { first = refl; joined = refl }
cut_at (Failed w q p y) = record { first = refl; joined = refl }
cut_at (Deliver w q c) = record { first = refl; joined = refl }
cut_at (Release w q c) = record { first = refl; joined = refl }
cut_at (Stop w q) = record { first = refl; joined = refl }
cut_at (End w q) = record { first = refl; joined = refl }

read_back : (e : Entry) → Fits e → entry_in (entry_text e) ≡ Some e
read_back e f =
    let line = entry_text e in
    entry_is e line (before line) (behind line) (two (behind line)) (three (behind line)) (four (behind line)) (are_read (behind line)) (cut_at e) f refl

one_entry : (d e : Entry) → Fits d → Fits e → entry_text d ≡ entry_text e → d ≡ e
one_entry d e fd fe same = let k : Some d ≡ Some e = sym (read_back d fd) ∙ (ap entry_in same ∙ read_back e fe) in cc

begun : (e : Entry) (es : List Entry) → story_text (e ∷ es) ≡ entry_text e ++ 10 ∷ story_text es
begun e es = append_assoc (entry_text e) (10 ∷ []) (story_text es)

filled : (xs ys : List ℕ) → xs ++ 10 ∷ ys ≡ [] → ⊥
filled [] ys e = absurd cc
filled (x ∷ xs) ys e = absurd cc

pub one_story : (a b : List Entry) → AllByRecursion Fits a → AllByRecursion Fits b → story_text a ≡ story_text b → a ≡ b
one_story [] [] fa fb same = refl
one_story [] (e ∷ b) fa fb same = absurd (filled (entry_text e) (story_text b) (sym (begun e b) ∙ sym same))
one_story (d ∷ a) [] fa fb same = absurd (filled (entry_text d) (story_text a) (sym (begun d a) ∙ same))
one_story (d ∷ a) (e ∷ b) fa fb same =
    let p = one_cut 10 (entry_text d) (entry_text e) (story_text a) (story_text b) (entry_clean d fa.0) (entry_clean e fb.0) (sym (begun d a) ∙ (same ∙ begun e b)) in
    let head = one_entry d e fa.0 fb.0 p.0 in
    let tail = one_story a b fa.1 fb.1 p.1 in
    cc
