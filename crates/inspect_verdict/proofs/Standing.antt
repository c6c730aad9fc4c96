-- What stands for parts, one behind another.
use Rattle.std.proofs.Common.{◌≡◌, ◌≢◌, ◌∙◌, ◌∷◌, [], ◌++◌, ℕ, List, true, append_assoc, append-nil, inl, inr, refl, sym, ap, subst}
use Rattle.std.specs.Prelude.{Option, Some, None, IfSome, MatchOption}
use Rattle.std.specs.Borrow.{Bor}
use Rattle.story_text.specs.Reading.{IsCut, lacks}
use Rattle.inspect_verdict.specs.Parts.{HasNone, IsHeadedLine, StandsBehind, StandsFor}
use Rattle.inspect_verdict.specs.declared.part.Part.{Part}

-- a head and the line behind it are a line with this head
pub line_of_head : (text head middle : List ℕ) (o : Option (Bor (List ℕ))) → text ≡ head ++ middle → IfSome o (λ r. (words : List ℕ) × IsCut 10 middle words r.now)
    → IfSome o (λ r. (line : List ℕ) × IsHeadedLine (Some head) line × (text ≡ line ++ r.now))
line_of_head text head middle None is line = tt
line_of_head text head middle (Some r) is line =
    let words = line.0 in
    let tail : middle ≡ (words ++ 10 ∷ []) ++ r.now = line.1.joined ∙ sym (append_assoc words (10 ∷ []) r.now) in
    (head ++ (words ++ 10 ∷ []), (words, line.1.first, refl), is ∙ (ap (λ (l : List ℕ). head ++ l) tail ∙ sym (append_assoc head (words ++ 10 ∷ []) r.now)))

-- whatever stands behind the parts that are left stands behind all
abbrev pub StillBehind : List Part → List ℕ → List Part → List ℕ → Type 0
StillBehind parts text left rest = (end : List ℕ) → StandsBehind left rest end → StandsBehind parts text end

-- so it is behind one part more
pub behind_more : (parts left more : List Part) (p : Part) (text rest behind : List ℕ) → left ≡ p ∷ more → ((begin : List ℕ) × StandsFor p begin × (rest ≡ begin ++ behind))
    → StillBehind parts text left rest → StillBehind parts text more behind
behind_more parts left more p text rest behind is found still end stands =
    let Left = λ (ps : List Part). StandsBehind ps rest end in
    still end (subst Left (sym is) (found.0, behind, found.1, found.2, stands))

-- the same of the parts before: something stands for one more
pub stands_more : (before : List Part) (p : Part) (text rest behind : List ℕ) → StandsBehind before text rest → ((begin : List ℕ) × StandsFor p begin × (rest ≡ begin ++ behind)) → StandsBehind (before ++ p ∷ []) text behind
stands_more [] p text rest behind is found = (found.0, behind, found.1, is ∙ found.2, refl)
stands_more (q ∷ before) p text rest behind is found = (is.0, is.1, is.2, is.3, stands_more before p is.1 rest behind is.4 found)

-- ---- nothing stands

-- no line with this head, where none is found
pub no_line : (text head : List ℕ) (o : Option (Bor (List ℕ))) → o ≡ None → ((words rest : List ℕ) → lacks 10 words ≡ true → text ≡ (head ++ (words ++ 10 ∷ [])) ++ rest → MatchOption o ⊥ (λ r. r.now ≡ rest))
    → (line rest : List ℕ) → IsHeadedLine (Some head) line → text ≢ line ++ rest
no_line text head o none found line rest headed is =
    let Found = λ (p : Option (Bor (List ℕ))). MatchOption p ⊥ (λ r. r.now ≡ rest) in
    subst Found none (found headed.0 rest headed.1 (is ∙ ap (λ (l : List ℕ). l ++ rest) headed.2))

pub none_stands : (p : Part) (text : List ℕ) → ((rest : List ℕ) → text ≢ p.text ++ rest) → ((line rest : List ℕ) → IsHeadedLine p.head line → text ≢ line ++ rest) → HasNone p text
none_stands p text own lined begin rest (inl same) is = own rest (is ∙ ap (λ (l : List ℕ). l ++ rest) same)
none_stands p text own lined begin rest (inr headed) is = lined begin rest headed is

-- what nothing stands for isn't its own text
pub not_own : (p : Part) (text : List ℕ) → HasNone p text → text ≢ p.text
not_own p text none same = none p.text [] (inl refl) (same ∙ sym (append-nil p.text))
