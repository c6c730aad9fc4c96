-- Where two texts part.
use Rattle.std.proofs.Common.{◌≡◌, ◌≢◌, ◌∙◌, ◌<◌, ◌∷◌, [], ◌++◌, ℕ, List, length, take, drop, get_or, min, refl, sym, ap, arith}
use Rattle.std.specs.Prelude.{Some}
use Rattle.std.proofs.lemmas.List.{drop_more, length-drop, take-append-drop}
use Rattle.inspect_verdict.specs.Ends.{EndsWith, PartsFrom, first_byte}
use Rattle.inspect_verdict.proofs.PartTexts.{cancelled}

pub end_from : (text : List ℕ) (i : ℕ) → EndsWith text (drop i text)
end_from text i = record { before = take i text; joined = sym (take-append-drop i text) }

-- the byte at a place is the first one of what begins there
first_at : (text : List ℕ) (i : ℕ) → i < length text → first_byte (drop i text) ≡ Some (get_or text i 0)
first_at text i low = ap first_byte (drop_more text i 0 low)

some_same : (a b : ℕ) → Some a ≡ Some b → a ≡ b
some_same a b e = cc

-- behind the same bytes others stand
pub parts_here : (text other : List ℕ) (i : ℕ) → i < length text → i < length other → take i text ≡ take i other → get_or text i 0 ≢ get_or other i 0 → PartsFrom text other (drop i text) (drop i other)
parts_here text other i a b same apart = record {
  same = take i text;
  text_is = sym (take-append-drop i text);
  other_is = sym (take-append-drop i other) ∙ ap (λ (l : List ℕ). l ++ drop i other) (sym same);
  apart = λ e. apart (some_same (get_or text i 0) (get_or other i 0) (sym (first_at text i a) ∙ (e ∙ first_at other i b)));
}

-- where one is over, and both go on with the same byte, both are over
both_over : (l m : List ℕ) → (0 < length l → 0 < length m → ⊥) → first_byte l ≡ first_byte m → l ≡ m
both_over [] [] one e = refl
both_over [] (b ∷ m) one e = absurd cc
both_over (a ∷ l) [] one e = absurd cc
both_over (a ∷ l) (b ∷ m) one e = absurd (one (omega arith) (omega arith))

-- one of them ends behind the same bytes
pub parts_there : (text other : List ℕ) (i : ℕ) → i ≡ min (length text) (length other) → take i text ≡ take i other → text ≢ other → PartsFrom text other (drop i text) (drop i other)
parts_there text other i is same apart = record {
  same = take i text;
  text_is = sym (take-append-drop i text);
  other_is = sym (take-append-drop i other) ∙ ap (λ (l : List ℕ). l ++ drop i other) (sym same);
  apart = λ e. let left = both_over (drop i text) (drop i other) one e in
      apart (sym (take-append-drop i text) ∙ (ap (λ (l : List ℕ). l ++ drop i text) same ∙ (ap (λ (l : List ℕ). take i other ++ l) left ∙ take-append-drop i other)));
}
  where
    one : 0 < length (drop i text) → 0 < length (drop i other) → ⊥
    one a b = let l = length-drop i text in let m = length-drop i other in omega (arith, a, b, l, m, is)

-- what parts from a text isn't that text
pub parts_other : (text other end more : List ℕ) → PartsFrom text other end more → text ≢ other
parts_other text other end more is same = is.apart (ap first_byte (cancelled is.same end more (sym is.text_is ∙ (same ∙ is.other_is))))
