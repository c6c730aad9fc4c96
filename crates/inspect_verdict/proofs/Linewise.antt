-- Lines of a text, and the line that is open at its end.
use Rattle.std.proofs.Common.{◌≡◌, ◌≢◌, ◌∙◌, ◌<◌, ◌≤◌, ◌+◌, ◌-◌, ◌==◌, ◌&&◌, not, ◌∷◌, [], ◌++◌, ℕ, zero, suc, Bool, true, false, List, append_assoc, length, length-append, take, drop, get_or, min, refl, sym, ap, arith}
use Rattle.std.specs.Prelude.{if◌then◌else◌}
use Rattle.std.proofs.lemmas.List.{append_cancel_right, drop_more, length-drop, length-take-le, take-append-le, take_all}
use Rattle.std.proofs.lemmas.Bool.Decides.{nat_tests}
use Rattle.story_text.specs.Reading.{IsCut, lacks}
use Rattle.inspect_verdict.specs.Ends.{BeginsAtLine, PartsFrom, line_ends}
use Rattle.inspect_verdict.specs.Lines.{IsParting, behind_first, behind_lines, common, first_line, line_in}

-- words without a line end begin a line
pub first_line_behind : (words more : List ℕ) → lacks 10 words ≡ true → first_line (words ++ more) ≡ words ++ first_line more
first_line_behind [] more clean = refl
first_line_behind (b ∷ words) more clean = at_byte (λ k. first_line_behind words more k) (b == 10) clean
  where
    at_byte : (lacks 10 words ≡ true → first_line (words ++ more) ≡ words ++ first_line more) → (t : Bool) → (not t && lacks 10 words) ≡ true
        → b ∷ (if t then [] else first_line (words ++ more)) ≡ b ∷ (words ++ first_line more)
    at_byte again true k = absurd cc
    at_byte again false k = ap (λ (l : List ℕ). b ∷ l) (again k)

pub behind_first_cut : (words rest : List ℕ) → lacks 10 words ≡ true → behind_first (words ++ 10 ∷ rest) ≡ rest
behind_first_cut [] rest clean = refl
behind_first_cut (b ∷ words) rest clean = at_byte (λ k. behind_first_cut words rest k) (b == 10) clean
  where
    at_byte : (lacks 10 words ≡ true → behind_first (words ++ 10 ∷ rest) ≡ rest) → (t : Bool) → (not t && lacks 10 words) ≡ true
        → (if t then words ++ 10 ∷ rest else behind_first (words ++ 10 ∷ rest)) ≡ rest
    at_byte again true k = absurd cc
    at_byte again false k = again k

pub behind_first_none : (text : List ℕ) → lacks 10 text ≡ true → behind_first text ≡ []
behind_first_none [] clean = refl
behind_first_none (b ∷ text) clean = at_byte (λ k. behind_first_none text k) (b == 10) clean
  where
    at_byte : (lacks 10 text ≡ true → behind_first text ≡ []) → (t : Bool) → (not t && lacks 10 text) ≡ true → (if t then text else behind_first text) ≡ []
    at_byte again true k = absurd cc
    at_byte again false k = again k

pub first_line_none : (text : List ℕ) → lacks 10 text ≡ true → first_line text ≡ text
first_line_none [] clean = refl
first_line_none (b ∷ text) clean = at_byte (λ k. first_line_none text k) (b == 10) clean
  where
    at_byte : (lacks 10 text ≡ true → first_line text ≡ text) → (t : Bool) → (not t && lacks 10 text) ≡ true → b ∷ (if t then [] else first_line text) ≡ b ∷ text
    at_byte again true k = absurd cc
    at_byte again false k = ap (λ (l : List ℕ). b ∷ l) (again k)

-- ---- the line that is open at the end of a text

-- what stands behind the last line end of a text, by whether its first byte is one, and how many lines end behind that
abbrev tail_with : Bool → ℕ → ℕ → List ℕ → List ℕ
tail_with true n b tail = tail
tail_with false zero b tail = b ∷ tail
tail_with false (suc n) b tail = tail

abbrev open_tail : List ℕ → List ℕ
open_tail [] = []
open_tail (b ∷ text) = tail_with (b == 10) (line_ends text) b (open_tail text)

clean_with : (t : Bool) (n b : ℕ) (tail : List ℕ) → (b == 10) ≡ t → lacks 10 tail ≡ true → lacks 10 (tail_with t n b tail) ≡ true
clean_with true n b tail is clean = clean
clean_with false zero b tail is clean = at_byte (b == 10) is
  where
    at_byte : (t : Bool) → t ≡ false → (not t && lacks 10 tail) ≡ true
    at_byte true k = absurd cc
    at_byte false k = clean
clean_with false (suc n) b tail is clean = clean

pub tail_clean : (text : List ℕ) → lacks 10 (open_tail text) ≡ true
tail_clean [] = refl
tail_clean (b ∷ text) = clean_with (b == 10) (line_ends text) b (open_tail text) refl (tail_clean text)

pub more_behind : (m n : ℕ) (text : List ℕ) → m ≡ n + 1 → behind_lines m text ≡ behind_lines n (behind_first text)
more_behind zero n text is = absurd (omega (arith, is))
more_behind (suc m) n text is = let same : m ≡ n = omega (arith, is) in ap (λ (k : ℕ). behind_lines k (behind_first text)) same

goes_with : (t : Bool) (n b : ℕ) (rest tail more : List ℕ) → (b == 10) ≡ t → behind_lines n rest ≡ tail ++ more
    → behind_lines ((if t then 1 else 0) + n) (b ∷ rest) ≡ tail_with t n b tail ++ more
goes_with true n b rest tail more is again =
    more_behind (1 + n) n (b ∷ rest) (omega arith) ∙ (ap (λ (t : Bool). behind_lines n (if t then rest else behind_first rest)) is ∙ again)
goes_with false zero b rest tail more is again = ap (λ (l : List ℕ). b ∷ l) again
goes_with false (suc n) b rest tail more is again =
    more_behind (0 + suc n) n (b ∷ rest) (omega arith) ∙ (ap (λ (t : Bool). behind_lines n (if t then rest else behind_first rest)) is ∙ (sym (more_behind (suc n) n rest (omega arith)) ∙ again))

-- behind as many lines as end in it the text goes on from there
pub tail_goes : (text more : List ℕ) → behind_lines (line_ends text) (text ++ more) ≡ open_tail text ++ more
tail_goes [] more = refl
tail_goes (b ∷ text) more = goes_with (b == 10) (line_ends text) b (text ++ more) (open_tail text) more refl (tail_goes text more)

-- the line in which a text ends, and goes on
pub line_there : (text more : List ℕ) (line : ℕ) → line ≡ line_ends text + 1 → line_in line (text ++ more) ≡ open_tail text ++ first_line more
line_there text more line is =
    let before : line - 1 ≡ line_ends text = omega (arith, is) in
    ap (λ (n : ℕ). first_line (behind_lines n (text ++ more))) before ∙ (ap first_line (tail_goes text more) ∙ first_line_behind (open_tail text) more (tail_clean text))

-- what begins at that line goes on with the end of the text
pub begun_there : (text end begun : List ℕ) (line : ℕ) (at : BeginsAtLine text end line) → begun ≡ behind_lines (line - 1) text → begun ≡ open_tail at.before ++ end
begun_there text end begun line at is =
    let before : line - 1 ≡ line_ends at.before = omega (arith, at.counted) in
    is ∙ (ap (λ (n : ℕ). behind_lines n text) before ∙ (ap (behind_lines (line_ends at.before)) at.joined ∙ tail_goes at.before end))

pub end_short : (text end begun : List ℕ) (line : ℕ) (at : BeginsAtLine text end line) → begun ≡ behind_lines (line - 1) text → length end ≤ length begun
end_short text end begun line at is = let a = ap length (begun_there text end begun line at is) in let b = length-append (open_tail at.before) end in omega (arith, a, b)

-- the beginning of it is what is open at the end of what stands before
pub front_there : (text end begun : List ℕ) (line : ℕ) (at : BeginsAtLine text end line) → begun ≡ behind_lines (line - 1) text → take (length begun - length end) begun ≡ open_tail at.before
front_there text end begun line at is =
    let a = begun_there text end begun line at is in
    let n : length begun - length end ≡ length (open_tail at.before) = (let b = ap length a in let c = length-append (open_tail at.before) end in omega (arith, b, c)) in
    ap (λ (k : ℕ). take k begun) n ∙ (ap (take (length (open_tail at.before))) a ∙ (take-append-le (length (open_tail at.before)) (open_tail at.before) end (omega arith) ∙ take_all (length (open_tail at.before)) (open_tail at.before) (omega arith)))

-- a step down: one line less is left
pub from_more : (line number : ℕ) (left rest text : List ℕ) → number < line → rest ≡ behind_first left → behind_lines (line - number) left ≡ behind_lines (line - 1) text → behind_lines (line - (number + 1)) rest ≡ behind_lines (line - 1) text
from_more line number left rest text low is from =
    ap (behind_lines (line - (number + 1))) is ∙ (sym (more_behind (line - number) (line - (number + 1)) left (omega (arith, low))) ∙ from)

-- ---- a text that parts from another one

pub is_parting : (text other end more before begun found expected : List ℕ) (line byte : ℕ) → BeginsAtLine text end line → begun ≡ behind_lines (line - 1) text → before ≡ take (length begun - length end) begun
    → found ≡ before ++ first_line end → expected ≡ before ++ first_line more → byte ≡ common found expected + 1 → PartsFrom text other end more
    → IsParting text other (record { line = line; byte = byte; expected = expected; found = found })
is_parting text other end more before begun found expected line byte at is front found_is expected_is byte_is parts =
    let tail = open_tail at.before in
    let front_is : before ≡ tail = front ∙ front_there text end begun line at is in
    let same : parts.same ≡ at.before = append_cancel_right parts.same at.before end (sym parts.text_is ∙ at.joined) in
    let With = λ (rest : List ℕ). λ (l : List ℕ). l ++ first_line rest in
    let whole : other ≡ at.before ++ more = parts.other_is ∙ ap (λ (l : List ℕ). l ++ more) same in
    record {
      end = end;
      more = more;
      parts = parts;
      at_line = at;
      found = found_is ∙ (ap (λ (l : List ℕ). l ++ first_line end) front_is ∙ (sym (line_there at.before end line at.counted) ∙ ap (line_in line) (sym at.joined)));
      expected = expected_is ∙ (ap (λ (l : List ℕ). l ++ first_line more) front_is ∙ (sym (line_there at.before more line at.counted) ∙ ap (line_in line) (sym whole)));
      byte = byte_is;
    }

-- where what stands behind a front parts from a text, the whole parts from the front with that text
pub parts_behind : (out front rest text end more : List ℕ) → out ≡ front ++ rest → PartsFrom rest text end more → PartsFrom out (front ++ text) end more
parts_behind out front rest text end more is parts = record {
  same = front ++ parts.same;
  text_is = is ∙ (ap (λ (l : List ℕ). front ++ l) parts.text_is ∙ sym (append_assoc front parts.same end));
  other_is = ap (λ (l : List ℕ). front ++ l) parts.other_is ∙ sym (append_assoc front parts.same more);
  apart = parts.apart;
}

-- ---- a text that is cut at its first line end

pub behind_cut : (text words rest : List ℕ) → IsCut 10 text words rest → rest ≡ behind_first text
behind_cut text words rest cut = sym (ap behind_first cut.joined ∙ behind_first_cut words rest cut.first)

pub first_cut : (text : List ℕ) (end : ℕ) (rest : List ℕ) → IsCut 10 text (take end text) rest → end < length text → take (end + 1) text ≡ first_line text
first_cut text end rest cut low =
    let words = take end text in
    let len : length words ≡ end = length-take-le end text (omega (arith, low)) in
    let with_end : text ≡ (words ++ 10 ∷ []) ++ rest = cut.joined ∙ sym (append_assoc words (10 ∷ []) rest) in
    let n : end + 1 ≡ length (words ++ 10 ∷ []) = (let k = length-append words (10 ∷ []) in omega (arith, k, len)) in
    let front : take (end + 1) text ≡ words ++ 10 ∷ [] =
    ap (λ (k : ℕ). take k text) n ∙ (ap (take (length (words ++ 10 ∷ []))) with_end ∙ (take-append-le (length (words ++ 10 ∷ [])) (words ++ 10 ∷ []) rest (omega arith) ∙ take_all (length (words ++ 10 ∷ [])) (words ++ 10 ∷ []) (omega arith))) in
    front ∙ sym (ap first_line cut.joined ∙ first_line_behind words (10 ∷ rest) cut.first)

-- ---- what two texts have in common

-- where the same byte stands in both, they have one more in common
pub common_more : (one other : List ℕ) (n i : ℕ) → i < length one → i < length other → get_or one i 0 ≡ get_or other i 0 → n ≡ i + common (drop i one) (drop i other) → n ≡ (i + 1) + common (drop (i + 1) one) (drop (i + 1) other)
common_more one other n i a b same is =
    let step : common (drop i one) (drop i other) ≡ common (drop (i + 1) one) (drop (i + 1) other) + 1 =
    ap (λ (l : List ℕ). common l (drop i other)) (drop_more one i 0 a) ∙ (ap (common (get_or one i 0 ∷ drop (i + 1) one)) (drop_more other i 0 b) ∙ by (get_or one i 0) (get_or other i 0) (common (drop (i + 1) one) (drop (i + 1) other)) same) in
    omega (arith, is, step)
  where
    by : (x y k : ℕ) → x ≡ y → (if x == y then k + 1 else 0) ≡ k + 1
    by x y k e = grind (arith, nat_tests)

-- where other bytes stand they have none
pub common_apart : (one other : List ℕ) (i : ℕ) → i < length one → i < length other → get_or one i 0 ≢ get_or other i 0 → common (drop i one) (drop i other) ≡ 0
common_apart one other i a b apart =
    ap (λ (l : List ℕ). common l (drop i other)) (drop_more one i 0 a) ∙ (ap (common (get_or one i 0 ∷ drop (i + 1) one)) (drop_more other i 0 b) ∙ by (get_or one i 0) (get_or other i 0) (common (drop (i + 1) one) (drop (i + 1) other)) apart)
  where
    by : (x y k : ℕ) → x ≢ y → (if x == y then k + 1 else 0) ≡ 0
    by x y k e = grind (arith, nat_tests)

-- nor where one of them is over
pub common_over : (one other : List ℕ) (i : ℕ) → min (length one) (length other) ≤ i → common (drop i one) (drop i other) ≡ 0
common_over one other i over = by (drop i one) (drop i other) (let a = length-drop i one in let b = length-drop i other in omega (arith, a, b, over))
  where
    by : (xs ys : List ℕ) → min (length xs) (length ys) ≡ 0 → common xs ys ≡ 0
    by [] ys e = refl
    by (x ∷ xs) [] e = refl
    by (x ∷ xs) (y ∷ ys) e = absurd (omega (arith, e))
