-- The summary line, behind which the trace of an output stands.
use Rattle.std.proofs.Common.{◌≡◌, ◌∙◌, ◌++◌, ◌∷◌, [], ℕ, Bool, true, false, List, sym, ap, subst}
use Rattle.std.specs.Borrow.{Bor}
use Rattle.std.specs.Prelude.{IfSome, MatchOption, Option, Some}
use Rattle.story_text.specs.Reading.{lacks}
use Rattle.inspect_verdict.specs.Parts.{IsHeadedLine}
use Rattle.inspect_verdict.specs.Reading.{IsSummaryLine, summary_head}

-- where there is to be one, the line with its head is a summary line
pub summary_line : (summary : Bool) (text head : List ℕ) (o : Option (Bor (List ℕ))) → summary ≡ true → head ≡ summary_head → IfSome o (λ r. (line : List ℕ) × IsHeadedLine (Some head) line × (text ≡ line ++ r.now))
    → IfSome o (λ r. (line : List ℕ) × IsSummaryLine summary line × (text ≡ line ++ r.now))
summary_line true text head o is same found =
    let Found = λ (h : List ℕ). IfSome o (λ r. (line : List ℕ) × IsHeadedLine (Some h) line × (text ≡ line ++ r.now)) in
    subst Found same found
summary_line false text head o is same found = absurd cc

-- and what stands behind it is what is found
pub summary_rest : (summary : Bool) (text head : List ℕ) (o : Option (Bor (List ℕ))) → summary ≡ true → head ≡ summary_head
    → ((words rest : List ℕ) → lacks 10 words ≡ true → text ≡ (head ++ (words ++ 10 ∷ [])) ++ rest → MatchOption o ⊥ (λ r. r.now ≡ rest))
    → (line rest : List ℕ) → IsSummaryLine summary line → text ≡ line ++ rest → MatchOption o ⊥ (λ r. r.now ≡ rest)
summary_rest true text head o is same found line rest headed whole =
    let with_head : line ≡ head ++ (headed.0 ++ 10 ∷ []) = headed.2 ∙ ap (λ (h : List ℕ). h ++ (headed.0 ++ 10 ∷ [])) (sym same) in
    found headed.0 rest headed.1 (whole ∙ ap (λ (l : List ℕ). l ++ rest) with_head)
summary_rest false text head o is same found line rest headed whole = absurd cc
