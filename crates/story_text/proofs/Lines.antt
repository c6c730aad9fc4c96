-- Lines of entries: none has a line end inside, so a text has one first line.
use Rattle.std.proofs.Common.{◌≡◌, ◌≢◌, ◌<◌, ◌^◌, ◌∷◌, [], ◌++◌, ◌==◌, ◌&&◌, not, ℕ, Bool, true, false, List, None, append_assoc, refl, sym, ◌∙◌, arith}
use Rattle.std.specs.Prelude.{codes, decimal}
use Rattle.std.specs.List.{AllByRecursion}
use Rattle.scan_story.specs.declared.entry.Why.{Why}
use Rattle.scan_story.specs.declared.entry.Why.TheVariants.{Fault, Damage}
use Rattle.scan_story.specs.declared.entry.Entry.{Entry}
use Rattle.scan_story.specs.declared.entry.Entry.TheVariants.{Register, Plan, Evict, Fill, Filled, Failed, Deliver, Release, Stop, End}
use Rattle.story_text.specs.Text.{entry_text, why_text, story_text, with_two, with_three}
use Rattle.story_text.specs.Reading.{Fits, FitsWhy, lacks, IsCut, IsEntryOf, BeginsBadly, IsFirstBad}
use Rattle.story_text.proofs.Cuts.{one_cut, no_cut}
use Rattle.story_text.proofs.Digits.{decimal_digits}

lacks_join : (mark : ℕ) (xs ys : List ℕ) → lacks mark xs ≡ true → lacks mark ys ≡ true → lacks mark (xs ++ ys) ≡ true
lacks_join mark [] ys e f = f
lacks_join mark (x ∷ xs) ys e f = at_byte (λ k. lacks_join mark xs ys k f) (x == mark) e
  where
    at_byte : (lacks mark xs ≡ true → lacks mark (xs ++ ys) ≡ true) → (t : Bool) → (not t && lacks mark xs) ≡ true → (not t && lacks mark (xs ++ ys)) ≡ true
    at_byte again true k = absurd cc
    at_byte again false k = again k

clean : (n : ℕ) → n < 2 ^ 32 → lacks 10 (decimal n) ≡ true
clean n lt = (decimal_digits n (omega (arith, lt))).unmarked 10 (omega arith)

clean_long : (n : ℕ) → n < 2 ^ 64 → lacks 10 (decimal n) ≡ true
clean_long n lt = (decimal_digits n lt).unmarked 10 (omega arith)

blank : (xs : List ℕ) → lacks 10 xs ≡ true → lacks 10 (codes " " ++ xs) ≡ true
blank xs e = e

two_clean : (word : List ℕ) (a b : ℕ) → lacks 10 word ≡ true → lacks 10 (decimal a) ≡ true → lacks 10 (decimal b) ≡ true → lacks 10 (with_two word a b) ≡ true
two_clean word a b w ca cb = lacks_join 10 word (decimal a ++ (codes " " ++ decimal b)) w (lacks_join 10 (decimal a) (codes " " ++ decimal b) ca (blank (decimal b) cb))

three_clean : (word : List ℕ) (a b c : ℕ) → lacks 10 word ≡ true → a < 2 ^ 32 → b < 2 ^ 32 → c < 2 ^ 32 → lacks 10 (with_three word a b c) ≡ true
three_clean word a b c w la lb lc =
    lacks_join 10 word (decimal a ++ (codes " " ++ (decimal b ++ (codes " " ++ decimal c)))) w
    (lacks_join 10 (decimal a) (codes " " ++ (decimal b ++ (codes " " ++ decimal c))) (clean a la)
    (lacks_join 10 (decimal b) (codes " " ++ decimal c) (clean b lb) (clean c lc)))

why_clean : (y : Why) → FitsWhy y → lacks 10 (why_text y) ≡ true
why_clean (Fault b a) f = two_clean (codes "fault ") b a refl (clean_long b f.0) (clean_long a f.1)
why_clean (Damage i) f = lacks_join 10 (codes "damage ") (decimal i) refl (clean i f)

pub entry_clean : (e : Entry) → Fits e → lacks 10 (entry_text e) ≡ true
entry_clean (Register w q) f = two_clean (codes "register ") w q refl (clean w f.0) (clean q f.1)
entry_clean (Plan w q c) f = three_clean (codes "plan ") w q c refl f.0 f.1 f.2
entry_clean (Evict w c) f = two_clean (codes "evict ") w c refl (clean w f.0) (clean c f.1)
entry_clean (Fill w q c) f = three_clean (codes "fill ") w q c refl f.0 f.1 f.2
entry_clean (Filled w q c) f = three_clean (codes "filled ") w q c refl f.0 f.1 f.2
entry_clean (Failed w q p y) f =
    lacks_join 10 (with_two (codes "failed ") w q) (codes " " ++ (decimal p ++ (codes " " ++ why_text y))) (two_clean (codes "failed ") w q refl (clean w f.0) (clean q f.1))
    (lacks_join 10 (decimal p) (codes " " ++ why_text y) (clean p f.2) (why_clean y f.3))
entry_clean (Deliver w q c) f = three_clean (codes "deliver ") w q c refl f.0 f.1 f.2
entry_clean (Release w q c) f = three_clean (codes "release ") w q c refl f.0 f.1 f.2
entry_clean (Stop w q) f = two_clean (codes "stop ") w q refl (clean w f.0) (clean q f.1)
entry_clean (End w q) f = two_clean (codes "end ") w q refl (clean w f.0) (clean q f.1)

-- a text without a line end begins with no line
pub endless_bad : (text : List ℕ) → text ≢ [] → lacks 10 text ≡ true → BeginsBadly text
endless_bad text some e = record { more = some; no_line = λ d rest f is. no_cut 10 text (entry_text d) rest e is }

-- where the first line is no entry's, the text begins with no entry's line
pub other_bad : (text line rest : List ℕ) → text ≢ [] → IsCut 10 text line rest → IsEntryOf line None → BeginsBadly text
other_bad text line rest some cut none = record {
  more = some;
  no_line = λ d tail f is. none d f (sym (one_cut 10 line (entry_text d) rest tail cut.first (entry_clean d f) (sym cut.joined ∙ is)).0);
}

line_more : (e : Entry) (es : List Entry) (rest : List ℕ) → story_text (e ∷ es) ++ rest ≡ entry_text e ++ 10 ∷ (story_text es ++ rest)
line_more e es rest = append_assoc (entry_text e ++ 10 ∷ []) (story_text es) rest ∙ append_assoc (entry_text e) (10 ∷ []) (story_text es ++ rest)

-- a text with a bad line is no story's
pub bad_is_none : (bytes : List ℕ) (line : ℕ) → IsFirstBad bytes line → (es : List Entry) → AllByRecursion Fits es → bytes ≢ story_text es
bad_is_none bytes line bad es fit is = apart bad.entries es bad.fit fit (sym bad.joined ∙ is)
  where
    apart : (ds es : List Entry) → AllByRecursion Fits ds → AllByRecursion Fits es → story_text ds ++ bad.rest ≡ story_text es → ⊥
    apart [] [] fd fe same = bad.bad.more same
    apart [] (e ∷ es) fd fe same = bad.bad.no_line e (story_text es) fe.0 (same ∙ append_assoc (entry_text e) (10 ∷ []) (story_text es))
    apart (d ∷ ds) [] fd fe same = absurd (filled (entry_text d) (story_text ds ++ bad.rest) (sym (line_more d ds bad.rest) ∙ same))
      where
        filled : (xs ys : List ℕ) → xs ++ 10 ∷ ys ≡ [] → ⊥
        filled [] ys e = absurd cc
        filled (x ∷ xs) ys e = absurd cc
    apart (d ∷ ds) (e ∷ es) fd fe same =
        let p = one_cut 10 (entry_text d) (entry_text e) (story_text ds ++ bad.rest) (story_text es) (entry_clean d fd.0) (entry_clean e fe.0)
        (sym (line_more d ds bad.rest) ∙ (same ∙ append_assoc (entry_text e) (10 ∷ []) (story_text es))) in
        apart ds es fd.1 fe.1 p.1
