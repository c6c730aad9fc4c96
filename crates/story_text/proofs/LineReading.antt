-- What is written as an entry's text is read as that entry.
use Rattle.std.proofs.Common.{◌≡◌, ◌<◌, ◌≤◌, ◌^◌, ◌∷◌, ◌++◌, ℕ, true, List, Option, None, Some, append_assoc, refl, sym, ◌∙◌, ap, arith}
use Rattle.std.specs.Prelude.{codes, decimal, IfSome, IsNone}
use Rattle.std.specs.Option.{option_zip, option_or}
use Rattle.scan_story.specs.declared.entry.Why.{Why}
use Rattle.scan_story.specs.declared.entry.Why.TheVariants.{Fault, Damage}
use Rattle.scan_story.specs.declared.entry.Entry.{Entry}
use Rattle.scan_story.specs.declared.entry.Entry.TheVariants.{Register, Plan, Evict, Fill, Filled, Failed, Deliver, Release, Stop, End}
use Rattle.story_text.specs.Text.{entry_text, why_text}
use Rattle.story_text.specs.Reading.{Fits, FitsWhy, lacks, number_of, IsCut, pair_entry, triple_entry, failed_entry, why_read}
use Rattle.story_text.proofs.Cuts.{one_cut}
use Rattle.story_text.proofs.Digits.{decimal_digits}

pub zip_is : {A B : Type 0} (a : Option A) (b : Option B) (x : A) (y : B) → a ≡ Some x → b ≡ Some y → option_zip a b ≡ Some (x, y)
zip_is {A = A} {B = B} a b x y e f = ap (λ (o : Option A). option_zip o b) e ∙ ap (λ (o : Option B). option_zip (Some x) o) f

-- a word of digits gives their number
pub read_as : (limit n : ℕ) (word : List ℕ) (r : Option ℕ) → limit ≤ 2 ^ 64 → n < limit → word ≡ decimal n
    → IfSome r (λ m. m ≡ number_of word) → (IsNone r → limit ≤ number_of word) → r ≡ Some n
read_as limit n word None wide lt is value none =
    let v : number_of word ≡ n = ap number_of is ∙ (decimal_digits n (omega (arith, wide, lt))).value in
    absurd (omega (arith, none refl, v, lt))
read_as limit n word (Some m) wide lt is value none =
    ap Some (value ∙ (ap number_of is ∙ (decimal_digits n (omega (arith, wide, lt))).value))

-- the parts of a text are those that it was joined of
pub parts_are : (text first rest word tail : List ℕ) → IsCut 32 text first rest → lacks 32 word ≡ true → text ≡ word ++ 32 ∷ tail → (first ≡ word) × (rest ≡ tail)
parts_are text first rest word tail cut clean is = one_cut 32 first word rest tail cut.first clean (sym cut.joined ∙ is)

-- a number that stands before a blank is read
pub first_number : (limit n : ℕ) (text first rest tail : List ℕ) (r : Option ℕ) → limit ≤ 2 ^ 64 → IsCut 32 text first rest → n < limit → text ≡ decimal n ++ 32 ∷ tail
    → IfSome r (λ m. m ≡ number_of first) → (IsNone r → limit ≤ number_of first) → (r ≡ Some n) × (rest ≡ tail)
first_number limit n text first rest tail r wide cut lt is value none =
    let clean = (decimal_digits n (omega (arith, wide, lt))).unmarked 32 (omega arith) in
    let p = parts_are text first rest (decimal n) tail cut clean is in
    (read_as limit n first r wide lt p.0 value none, p.1)

-- the reason of a failed load is read
pub why_is : (y : Why) (text word rest : List ℕ) (counts : Option (ℕ × ℕ)) (place : Option ℕ) → FitsWhy y → IsCut 32 text word rest → text ≡ why_text y
    → ((a b : ℕ) → a < 2 ^ 64 → b < 2 ^ 64 → rest ≡ decimal a ++ (codes " " ++ decimal b) → counts ≡ Some (a, b))
    → IfSome place (λ m. m ≡ number_of rest) → (IsNone place → 2 ^ 32 ≤ number_of rest) → why_read word counts place ≡ Some y
why_is (Fault b a) text word rest counts place fits cut is pair value none =
    let p = parts_are text word rest (codes "fault") (decimal b ++ (codes " " ++ decimal a)) cut refl is in
    let k = pair b a fits.0 fits.1 p.1 in
    ap (λ (w : List ℕ). why_read w counts place) p.0 ∙ ap (λ (o : Option (ℕ × ℕ)). why_read (codes "fault") o place) k
why_is (Damage i) text word rest counts place fits cut is pair value none =
    let p = parts_are text word rest (codes "damage") (decimal i) cut refl is in
    let k = read_as (2 ^ 32) i rest place (omega arith) fits p.1 value none in
    ap (λ (w : List ℕ). why_read w counts place) p.0 ∙ ap (λ (o : Option ℕ). why_read (codes "damage") counts o) k

-- the three readings of what follows an entry's word
pub record AreRead (rest : List ℕ) (two : Option (ℕ × ℕ)) (three : Option (ℕ × (ℕ × ℕ))) (four : Option (ℕ × (ℕ × (ℕ × Why)))) : Type 0 where
  pub pair : (a b : ℕ) → a < 2 ^ 32 → b < 2 ^ 32 → rest ≡ decimal a ++ (codes " " ++ decimal b) → two ≡ Some (a, b)
  pub triple : (a b c : ℕ) → a < 2 ^ 32 → b < 2 ^ 32 → c < 2 ^ 32 → rest ≡ decimal a ++ (codes " " ++ (decimal b ++ (codes " " ++ decimal c))) → three ≡ Some (a, (b, c))
  pub failed : (w q p : ℕ) (y : Why) → w < 2 ^ 32 → q < 2 ^ 32 → p < 2 ^ 32 → FitsWhy y
      → rest ≡ decimal w ++ (codes " " ++ (decimal q ++ (codes " " ++ (decimal p ++ (codes " " ++ why_text y))))) → four ≡ Some (w, (q, (p, y)))

abbrev pub read_all : List ℕ → Option (ℕ × ℕ) → Option (ℕ × (ℕ × ℕ)) → Option (ℕ × (ℕ × (ℕ × Why))) → Option Entry
read_all word two three four = option_or (option_or (pair_entry word two) (triple_entry word three)) (failed_entry word four)

pub ors_are : (a b c x y z r s : Option Entry) → r ≡ option_or a b → s ≡ option_or r c → a ≡ x → b ≡ y → c ≡ z → s ≡ option_or (option_or x y) z
ors_are a b c x y z r s er es ea eb ec =
    es ∙ (ap (λ (o : Option Entry). option_or o c) er ∙ (ap (λ (o : Option Entry). option_or (option_or o b) c) ea
    ∙ (ap (λ (o : Option Entry). option_or (option_or x o) c) eb ∙ ap (λ (o : Option Entry). option_or (option_or x y) o) ec)))

by_pair : (k : List ℕ) (make : ℕ → ℕ → Entry) (line word rest : List ℕ) (two : Option (ℕ × ℕ)) (three : Option (ℕ × (ℕ × ℕ))) (four : Option (ℕ × (ℕ × (ℕ × Why))))
    → AreRead rest two three four → IsCut 32 line word rest → lacks 32 k ≡ true → (a b : ℕ) → a < 2 ^ 32 → b < 2 ^ 32
    → line ≡ k ++ 32 ∷ (decimal a ++ (codes " " ++ decimal b)) → read_all k (Some (a, b)) three four ≡ Some (make a b) → read_all word two three four ≡ Some (make a b)
by_pair k make line word rest two three four read cut clean a b la lb is says =
    let p = parts_are line word rest k (decimal a ++ (codes " " ++ decimal b)) cut clean is in
    let t = read.pair a b la lb p.1 in
    ap (λ (w : List ℕ). read_all w two three four) p.0 ∙ (ap (λ (o : Option (ℕ × ℕ)). read_all k o three four) t ∙ says)

by_triple : (k : List ℕ) (make : ℕ → ℕ → ℕ → Entry) (line word rest : List ℕ) (two : Option (ℕ × ℕ)) (three : Option (ℕ × (ℕ × ℕ))) (four : Option (ℕ × (ℕ × (ℕ × Why))))
    → AreRead rest two three four → IsCut 32 line word rest → lacks 32 k ≡ true → (a b c : ℕ) → a < 2 ^ 32 → b < 2 ^ 32 → c < 2 ^ 32
    → line ≡ k ++ 32 ∷ (decimal a ++ (codes " " ++ (decimal b ++ (codes " " ++ decimal c))))
    → read_all k two (Some (a, (b, c))) four ≡ Some (make a b c) → read_all word two three four ≡ Some (make a b c)
by_triple k make line word rest two three four read cut clean a b c la lb lc is says =
    let p = parts_are line word rest k (decimal a ++ (codes " " ++ (decimal b ++ (codes " " ++ decimal c)))) cut clean is in
    let t = read.triple a b c la lb lc p.1 in
    ap (λ (w : List ℕ). read_all w two three four) p.0 ∙ (ap (λ (o : Option (ℕ × (ℕ × ℕ))). read_all k two o four) t ∙ says)

pub entry_is : (e : Entry) (line word rest : List ℕ) (two : Option (ℕ × ℕ)) (three : Option (ℕ × (ℕ × ℕ))) (four : Option (ℕ × (ℕ × (ℕ × Why))))
    → AreRead rest two three four → IsCut 32 line word rest → Fits e → line ≡ entry_text e → read_all word two three four ≡ Some e
entry_is (Register w q) line word rest two three four read cut f is = by_pair (codes "register") Register line word rest two three four read cut refl w q f.0 f.1 is refl
entry_is (Evict w q) line word rest two three four read cut f is = by_pair (codes "evict") Evict line word rest two three four read cut refl w q f.0 f.1 is refl
entry_is (Stop w q) line word rest two three four read cut f is = by_pair (codes "stop") Stop line word rest two three four read cut refl w q f.0 f.1 is refl
entry_is (End w q) line word rest two three four read cut f is = by_pair (codes "end") End line word rest two three four read cut refl w q f.0 f.1 is refl
entry_is (Plan w q c) line word rest two three four read cut f is = by_triple (codes "plan") Plan line word rest two three four read cut refl w q c f.0 f.1 f.2 is refl
entry_is (Fill w q c) line word rest two three four read cut f is = by_triple (codes "fill") Fill line word rest two three four read cut refl w q c f.0 f.1 f.2 is refl
entry_is (Filled w q c) line word rest two three four read cut f is = by_triple (codes "filled") Filled line word rest two three four read cut refl w q c f.0 f.1 f.2 is refl
entry_is (Deliver w q c) line word rest two three four read cut f is = by_triple (codes "deliver") Deliver line word rest two three four read cut refl w q c f.0 f.1 f.2 is refl
entry_is (Release w q c) line word rest two three four read cut f is = by_triple (codes "release") Release line word rest two three four read cut refl w q c f.0 f.1 f.2 is refl
entry_is (Failed w q p y) line word rest two three four read cut f is =
    let tail = codes " " ++ (decimal p ++ (codes " " ++ why_text y)) in
    let whole : entry_text (Failed w q p y) ≡ codes "failed" ++ 32 ∷ (decimal w ++ (codes " " ++ (decimal q ++ tail))) =
    ap (λ (l : List ℕ). codes "failed " ++ l) (append_assoc (decimal w) (codes " " ++ decimal q) tail) in
    let t = parts_are line word rest (codes "failed") (decimal w ++ (codes " " ++ (decimal q ++ tail))) cut refl (is ∙ whole) in
    let k = read.failed w q p y f.0 f.1 f.2 f.3 t.1 in
    ap (λ (l : List ℕ). read_all l two three four) t.0 ∙ ap (λ (o : Option (ℕ × (ℕ × (ℕ × Why)))). read_all (codes "failed") two three o) k
