-- The lines of entries at the beginning of a text.
use Rattle.std.proofs.Common.{◌≡◌, ◌∙◌, ◌<◌, ◌≤◌, ◌+◌, ◌-◌, ◌∷◌, [], ◌++◌, ℕ, zero, suc, true, List, append_assoc, length, length-append, take, drop, add-one, refl, sym, ap, arith}
use Rattle.std.specs.List.{AllByRecursion}
use Rattle.scan_story.specs.declared.entry.Entry.{Entry}
use Rattle.story_text.specs.Reading.{Fits, lacks}
use Rattle.story_text.specs.Text.{entry_text, story_text}
use Rattle.story_text.proofs.Lines.{entry_clean}

line_more : (e : Entry) (es : List Entry) (rest : List ℕ) → story_text (e ∷ es) ++ rest ≡ entry_text e ++ 10 ∷ (story_text es ++ rest)
line_more e es rest = append_assoc (entry_text e ++ 10 ∷ []) (story_text es) rest ∙ append_assoc (entry_text e) (10 ∷ []) (story_text es ++ rest)

fit_dropped : (es : List Entry) (i : ℕ) → AllByRecursion Fits es → AllByRecursion Fits (drop i es)
fit_dropped es zero fit = fit
fit_dropped [] (suc i) fit = tt
fit_dropped (e ∷ es) (suc i) fit = fit_dropped es i fit.1

-- a text of entries, cut behind one line more
one_behind : (es : List Entry) (i : ℕ) (text left next rest : List ℕ) → AllByRecursion Fits es → i < length es → left ≡ story_text (drop i es) ++ rest
    → ((line more : List ℕ) → lacks 10 line ≡ true → left ≡ line ++ 10 ∷ more → next ≡ more) → next ≡ story_text (drop (suc i) es) ++ rest
one_behind [] i text left next rest fit lt is behind = absurd (omega (arith, lt))
one_behind (e ∷ es) zero text left next rest fit lt is behind = behind (entry_text e) (story_text es ++ rest) (entry_clean e fit.0) (is ∙ line_more e es rest)
one_behind (e ∷ es) (suc i) text left next rest fit lt is behind = one_behind es i text left next rest fit.1 (omega (arith, lt)) is behind

-- what stands behind the first lines of a text, where they are those of entries
abbrev pub IsBehind : List ℕ → ℕ → List ℕ → Type 0
IsBehind text i left = (es : List Entry) (rest : List ℕ) → AllByRecursion Fits es → text ≡ story_text es ++ rest → i ≤ length es → left ≡ story_text (drop i es) ++ rest

pub behind_more : (text left next : List ℕ) (i : ℕ) → ((line more : List ℕ) → lacks 10 line ≡ true → left ≡ line ++ 10 ∷ more → next ≡ more) → IsBehind text i left → IsBehind text (i + 1) next
behind_more text left next i behind so es rest fit is le = rw add-one (one_behind es i text left next rest fit (omega (arith, le)) (so es rest fit is (omega (arith, le))) behind)

drop_all : (es : List Entry) → drop (length es) es ≡ []
drop_all [] = refl
drop_all (e ∷ es) = drop_all es

pub behind_all : (text left : List ℕ) (n : ℕ) (es : List Entry) (rest : List ℕ) → IsBehind text n left → AllByRecursion Fits es → text ≡ story_text es ++ rest → length es ≡ n → left ≡ rest
behind_all text left n es rest so fit is len =
    so es rest fit is (omega (arith, len)) ∙ ap (λ (l : List Entry). story_text l ++ rest) (ap (λ (k : ℕ). drop k es) (sym len) ∙ drop_all es)

take_front : (xs ys : List ℕ) → take (length xs) (xs ++ ys) ≡ xs
take_front [] ys = refl
take_front (x ∷ xs) ys = ap (λ (l : List ℕ). x ∷ l) (take_front xs ys)

pub front_is : (text xs ys : List ℕ) (n : ℕ) → text ≡ xs ++ ys → n ≡ length text - length ys → take n text ≡ xs
front_is text xs ys n is size =
    let whole : length text ≡ length xs + length ys = ap length is ∙ length-append xs ys in
    let same : n ≡ length xs = omega (arith, size, whole) in
    ap (λ (k : ℕ). take k text) same ∙ (ap (take (length xs)) is ∙ take_front xs ys)
