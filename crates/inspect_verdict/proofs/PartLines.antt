-- Ends of texts, and the lines at which they begin.
use Rattle.std.proofs.Common.{◌≡◌, ◌∙◌, ◌<◌, ◌≤◌, ◌+◌, ◌==◌, ◌&&◌, not, ◌∷◌, [], ◌++◌, ℕ, Bool, true, false, List, append_assoc, length, length-append, take, get_or, refl, sym, ap, arith}
use Rattle.std.specs.Prelude.{Option, Some, None, IfSome, if◌then◌else◌}
use Rattle.std.specs.Borrow.{Bor}
use Rattle.std.specs.List.{AllByRecursion}
use Rattle.std.proofs.lemmas.List.{take_more}
use Rattle.std.proofs.lemmas.Bool.Decides.{nat_tests}
use Rattle.story_text.specs.Reading.{Fits, IsCut, lacks}
use Rattle.story_text.specs.Text.{entry_text, story_text}
use Rattle.scan_story.specs.declared.entry.Entry.{Entry}
use Rattle.story_text.proofs.Lines.{entry_clean}
use Rattle.inspect_verdict.specs.Ends.{BeginsAtLine, EndsWith, line_ends}

pub whole_end : (text : List ℕ) → EndsWith text text
whole_end text = record { before = []; joined = refl }

pub end_of_end : (text middle end : List ℕ) → EndsWith text middle → EndsWith middle end → EndsWith text end
end_of_end text middle end p q = record {
  before = p.before ++ q.before;
  joined = p.joined ∙ (ap (λ (l : List ℕ). p.before ++ l) q.joined ∙ sym (append_assoc p.before q.before end));
}

-- behind a head there is an end, and behind a line of that too
pub end_of_line : (text head middle : List ℕ) (o : Option (Bor (List ℕ))) → text ≡ head ++ middle → IfSome o (λ r. EndsWith middle r.now) → IfSome o (λ r. EndsWith text r.now)
end_of_line text head middle None is end = tt
end_of_line text head middle (Some r) is end = end_of_end text middle r.now (record { before = head; joined = is }) end

-- behind the mark there is an end
pub cut_end : (mark : ℕ) (text word rest : List ℕ) → IsCut mark text word rest → EndsWith text rest
cut_end mark text word rest cut = record { before = word ++ mark ∷ []; joined = cut.joined ∙ sym (append_assoc word (mark ∷ []) rest) }

pub end_within : (text end : List ℕ) → EndsWith text end → length end ≤ length text
end_within text end p = let a = ap length p.joined in let b = length-append p.before end in omega (arith, a, b)

pub line_ends_joined : (a b : List ℕ) → line_ends (a ++ b) ≡ line_ends a + line_ends b
line_ends_joined [] b = omega arith
line_ends_joined (x ∷ a) b = let k = line_ends_joined a b in omega (arith, k)

-- one byte more ends a line, or none
line_ends_more : (text : List ℕ) (i : ℕ) → i < length text → line_ends (take (i + 1) text) ≡ line_ends (take i text) + (if get_or text i 0 == 10 then 1 else 0)
line_ends_more text i low =
    let next = take_more text i 0 low in
    ap line_ends next ∙ (line_ends_joined (take i text) (get_or text i 0 ∷ []) ∙ last (get_or text i 0))
  where
    last : (b : ℕ) → line_ends (take i text) + line_ends (b ∷ []) ≡ line_ends (take i text) + (if b == 10 then 1 else 0)
    last b = omega arith

one_ended : (b n : ℕ) → b ≡ 10 → n + (if b == 10 then 1 else 0) ≡ n + 1
one_ended b n same = rw same refl

no_more : (b n : ℕ) → (b ≡ 10 → ⊥) → n + (if b == 10 then 1 else 0) ≡ n
no_more b n other = grind (arith, nat_tests)

-- so a line is counted, or none is
pub line_counted : (text : List ℕ) (i line next : ℕ) → i < length text → line ≡ line_ends (take i text) + 1 → get_or text i 0 ≡ 10 → next ≡ line + 1 → next ≡ line_ends (take (i + 1) text) + 1
line_counted text i line next low is here more = let a = line_ends_more text i low in let b = one_ended (get_or text i 0) (line_ends (take i text)) here in omega (arith, a, b, is, more)

pub none_counted : (text : List ℕ) (i line next : ℕ) → i < length text → line ≡ line_ends (take i text) + 1 → (get_or text i 0 ≡ 10 → ⊥) → next ≡ line → next ≡ line_ends (take (i + 1) text) + 1
none_counted text i line next low is other more = let a = line_ends_more text i low in let b = no_more (get_or text i 0) (line_ends (take i text)) other in omega (arith, a, b, is, more)

-- a text without a line end
none_ended : (line : List ℕ) → lacks 10 line ≡ true → line_ends line ≡ 0
none_ended [] clean = refl
none_ended (x ∷ line) clean = at_byte (λ k. none_ended line k) (x == 10) clean
  where
    at_byte : (lacks 10 line ≡ true → line_ends line ≡ 0) → (t : Bool) → (not t && lacks 10 line) ≡ true → (if t then 1 else 0) + line_ends line ≡ 0
    at_byte again true k = absurd cc
    at_byte again false k = let e = again k in omega (arith, e)

-- a story has a line for each entry
pub story_lines : (es : List Entry) → AllByRecursion Fits es → line_ends (story_text es) ≡ length es
story_lines [] fit = refl
story_lines (e ∷ es) fit =
    let whole = line_ends_joined (entry_text e ++ 10 ∷ []) (story_text es) in
    let line = line_ends_joined (entry_text e) (10 ∷ []) in
    let clean = none_ended (entry_text e) (entry_clean e fit.0) in
    let more = story_lines es fit.1 in
    omega (arith, whole, line, clean, more)

-- what stands behind so many entries begins so many lines further down
pub lines_down : (text : List ℕ) (es : List Entry) (rest : List ℕ) (line : ℕ) → AllByRecursion Fits es → BeginsAtLine text (story_text es ++ rest) line → BeginsAtLine text rest (line + length es)
lines_down text es rest line fit at = record {
  before = at.before ++ story_text es;
  joined = at.joined ∙ sym (append_assoc at.before (story_text es) rest);
  counted = (let a = at.counted in let b = line_ends_joined at.before (story_text es) in let c = story_lines es fit in omega (arith, a, b, c));
}

few_ended : (text : List ℕ) → line_ends text ≤ length text
few_ended [] = omega arith
few_ended (b ∷ text) = let k = few_ended text in let one = at_most_one (b == 10) in omega (arith, k, one)
  where
    at_most_one : (t : Bool) → (if t then 1 else 0) ≤ 1
    at_most_one true = omega arith
    at_most_one false = omega arith

pub line_within : (text end : List ℕ) (line : ℕ) → BeginsAtLine text end line → line ≤ length text + 1
line_within text end line at =
    let whole = ap length at.joined in
    let both = length-append at.before end in
    omega (arith, at.counted, few_ended at.before, whole, both)
