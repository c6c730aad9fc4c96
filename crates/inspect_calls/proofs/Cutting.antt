-- What is shown of a text.
use Rattle.std.proofs.Common.{◌≡◌, ◌≢◌, ◌∙◌, ◌<◌, ◌≤◌, ◌+◌, ◌-◌, ◌++◌, ◌∷◌, [], ℕ, Bool, List, true, false, append_assoc, append-nil, length, length-append, take, drop, get_or, refl, sym, ap, subst, arith}
use Rattle.std.specs.Prelude.{IsUtf8, IsCharBoundary, codes, decimal, nat_lt}
use Rattle.std.proofs.lemmas.List.{get_or-append_right, length-take-le, take-append-drop, take_all, take_more, take_rest}
use Rattle.std.proofs.lemmas.Str.{IsUtf8-drop, IsUtf8-take}
use Rattle.inspect_calls.specs.Excerpts.{HasWords, IsBehind, IsFront, IsShown, TellsParting, end_words, points_if, shown_from}
use Rattle.inspect_verdict.specs.declared.parting.Parting.{Parting}

-- the first bytes, where more than 200 stand
pub front_is : (text : List ℕ) (n : ℕ) → n ≤ 200 → 200 < length text → (IsUtf8 text → IsCharBoundary text n) → IsFront text (take n text)
front_is text n few long bound =
    let len = length-take-le n text (omega (arith, few, long)) in
    record { rest = drop n text; joined = sym (take-append-drop n text); few = omega (arith, len, few); whole = λ w. absurd (omega (arith, w, long)); chars = λ u. IsUtf8-take text n u (bound u) }

pub front_whole : (text : List ℕ) → length text ≤ 200 → IsFront text text
front_whole text few = record { rest = []; joined = sym (append-nil text); few = few; whole = λ w. refl; chars = λ u. u }

-- what stands behind the first bytes
pub behind_is : (text : List ℕ) (n at : ℕ) → n ≤ at → n ≤ length text → (IsUtf8 text → IsCharBoundary text n) → IsBehind text at (take (length text - n) (drop n text))
behind_is text n at near low bound =
    let len = length-take-le n text low in
    let Is = λ (rest : List ℕ). IsBehind text at rest in
    subst Is (sym (take_rest text n)) (record { before = take n text; joined = sym (take-append-drop n text); near = omega (arith, len, near); chars = λ u. IsUtf8-drop text n u (bound u) })

-- ---- the words of a line

pub ended_is : (line : List ℕ) (last : ℕ) → length line ≡ last + 1 → get_or line last 0 ≡ 10 → HasWords line (take last line) true
ended_is line last len is = record {
  line_is = sym (take_all (last + 1) line (omega (arith, len))) ∙ (take_more line last 0 (omega (arith, len)) ∙ ap (λ (b : ℕ). take last line ++ b ∷ []) is);
  endless = λ e. absurd cc;
}

ends_so : (line begin : List ℕ) → line ≡ begin ++ 10 ∷ [] → (length line ≡ length begin + 1) × (get_or line (length begin) 0 ≡ 10)
ends_so line begin is =
    (ap length is ∙ length-append begin (10 ∷ []), ap (λ (l : List ℕ). get_or l (length begin) 0) is ∙ get_or-append_right begin (10 ∷ []) (length begin) (length begin) 0 refl (omega arith) ∙ ap (λ (k : ℕ). get_or (10 ∷ []) k 0) (zero_left (length begin)))
  where
    zero_left : (n : ℕ) → n - n ≡ 0
    zero_left n = omega arith

pub endless_is : (line : List ℕ) (last : ℕ) → length line ≡ last + 1 → get_or line last 0 ≢ 10 → HasWords line line false
endless_is line last len other = record {
  line_is = sym (append-nil line);
  endless = λ e begin is. let k = ends_so line begin is in let same : length begin ≡ last = omega (arith, k.0, len) in other (ap (λ (n : ℕ). get_or line n 0) (sym same) ∙ k.1);
}

pub empty_is : (line : List ℕ) → length line ≡ 0 → HasWords line line false
empty_is line none = record { line_is = sym (append-nil line); endless = λ e begin is. let k = ends_so line begin is in absurd (omega (arith, k.0, none)) }

-- ---- texts that are put together

step : (t u part rest whole : List ℕ) → u ≡ t ++ part → whole ≡ u ++ rest → whole ≡ t ++ (part ++ rest)
step t u part rest whole first last = last ∙ (ap (λ (l : List ℕ). l ++ rest) first ∙ append_assoc t part rest)

-- a line is put behind a text
pub shown_is : (line words rest front t0 t1 t2 t3 t4 one two last : List ℕ) (at : ℕ) (has_end : Bool) → HasWords line words has_end → IsBehind words at rest → IsFront rest front
    → t1 ≡ t0 ++ one → one ≡ points_if (nat_lt (length rest) (length words)) → t2 ≡ t1 ++ front → t3 ≡ t2 ++ two → two ≡ points_if (nat_lt (length front) (length rest))
    → t4 ≡ t3 ++ last → last ≡ end_words has_end (nat_lt (length line) 1) → (shown : List ℕ) × IsShown line at shown × (t4 ≡ t0 ++ shown)
shown_is line words rest front t0 t1 t2 t3 t4 one two last at has_end has behind cut e1 one_is e2 e3 two_is e4 last_is =
    let First = points_if (nat_lt (length rest) (length words)) in
    let Second = points_if (nat_lt (length front) (length rest)) in
    let Last = end_words has_end (nat_lt (length line) 1) in
    let h4 : t4 ≡ t3 ++ Last = e4 ∙ ap (λ (l : List ℕ). t3 ++ l) last_is in
    let h3 = step t2 t3 Second Last t4 (e3 ∙ ap (λ (l : List ℕ). t2 ++ l) two_is) h4 in
    let h2 = step t1 t2 front (Second ++ Last) t4 e2 h3 in
    let h1 = step t0 t1 First (front ++ (Second ++ Last)) t4 (e1 ∙ ap (λ (l : List ℕ). t0 ++ l) one_is) h2 in
    (First ++ (front ++ (Second ++ Last)), record { words = words; has_end = has_end; has_words = has; rest = rest; behind = behind; front = front; cut = cut; text = refl }, h1)

-- both lines are put behind words
pub parting_is : (words t1 t2 t3 t4 t5 t6 one two : List ℕ) (p : Parting) (at : ℕ) → at ≡ shown_from p.byte → one ≡ p.expected → two ≡ p.found → t1 ≡ words ++ (codes ", from byte " ++ decimal p.byte)
    → t2 ≡ t1 ++ codes " on: expected " → ((shown : List ℕ) × IsShown one at shown × (t3 ≡ t2 ++ shown)) → t4 ≡ t3 ++ codes ", found " → ((shown : List ℕ) × IsShown two at shown × (t5 ≡ t4 ++ shown))
    → t6 ≡ t5 ++ codes "\n" → TellsParting words p t6
parting_is words t1 t2 t3 t4 t5 t6 one two p at from one_is two_is e1 e2 first e4 second e6 =
    let expected = first.0 in
    let found = second.0 in
    let h4 = step t4 t5 found (codes "\n") t6 second.2 e6 in
    let h3 = step t3 t4 (codes ", found ") (found ++ codes "\n") t6 e4 h4 in
    let h2 = step t2 t3 expected (codes ", found " ++ (found ++ codes "\n")) t6 first.2 h3 in
    let h1 = step t1 t2 (codes " on: expected ") (expected ++ (codes ", found " ++ (found ++ codes "\n"))) t6 e2 h2 in
    let rest = codes " on: expected " ++ (expected ++ (codes ", found " ++ (found ++ codes "\n"))) in
    let h0 = step words t1 (codes ", from byte " ++ decimal p.byte) rest t6 e1 h1 in
    record {
      expected = expected;
      found = found;
      expected_shown = subst (λ (n : ℕ). IsShown p.expected n expected) from (subst (λ (l : List ℕ). IsShown l at expected) one_is first.1);
      found_shown = subst (λ (n : ℕ). IsShown p.found n found) from (subst (λ (l : List ℕ). IsShown l at found) two_is second.1);
      text_is = h0 ∙ ap (λ (l : List ℕ). words ++ l) (append_assoc (codes ", from byte ") (decimal p.byte) rest);
    }
