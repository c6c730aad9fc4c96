-- What is left of a text that is taken apart.
use Rattle.std.proofs.Common.{◌≡◌, ◌∙◌, ◌∷◌, [], ◌++◌, ℕ, Bool, List, append_assoc, refl, sym, ap, subst}
use Rattle.std.specs.Prelude.{Option, is_some, map}
use Rattle.std.specs.List.{AllZip}
use Rattle.inspect_verdict.specs.declared.part.Part.{Part}
use Rattle.inspect_verdict.specs.Parts.{MayStand, text_of, texts_of}

-- such lines may stand for the parts that are left, and with those of the parts before they are all
pub record Still (left : List Part) (rest : List ℕ) (lines : List Bool) (words : List (Option (List ℕ))) (tail : List ℕ) : Type 0 where
  pub more : List (Option (List ℕ))
  pub may : AllZip MayStand left more
  pub text : rest ≡ texts_of left more ++ tail
  pub joined : lines ++ map is_some more ≡ map is_some words

-- whatever stands for all parts, such lines are left
abbrev pub Keeps : List Part → List ℕ → List Part → List ℕ → List Bool → Type 0
Keeps parts text left rest lines =
    (words : List (Option (List ℕ))) (tail : List ℕ) → AllZip MayStand parts words → text ≡ texts_of parts words ++ tail → Still left rest lines words tail

pub keeps_all : (parts : List Part) (text : List ℕ) → Keeps parts text parts text []
keeps_all parts text words tail may is = record { more = words; may = may; text = is; joined = refl }

-- what is found for the first part that is left
abbrev pub Finds : Part → List ℕ → Bool → List ℕ → Type 0
Finds p rest line behind =
    (words : Option (List ℕ)) (tail : List ℕ) → MayStand p words → rest ≡ text_of p words ++ tail → (line ≡ is_some words) × (behind ≡ tail)

pub still_more : (p : Part) (left : List Part) (rest behind : List ℕ) (line : Bool) (lines : List Bool) (words : List (Option (List ℕ))) (tail : List ℕ)
    → Finds p rest line behind → Still (p ∷ left) rest lines words tail → Still left behind (lines ++ line ∷ []) words tail
still_more p left rest behind line lines words tail finds still = by still.more still.may still.text still.joined
  where
    by : (more : List (Option (List ℕ))) → AllZip MayStand (p ∷ left) more → rest ≡ texts_of (p ∷ left) more ++ tail → lines ++ map is_some more ≡ map is_some words
        → Still left behind (lines ++ line ∷ []) words tail
    by [] may is same = absurd may
    by (w ∷ more) may is same =
        let found = finds w (texts_of left more ++ tail) may.0 (is ∙ append_assoc (text_of p w) (texts_of left more) tail) in
        record {
          more = more;
          may = may.1;
          text = found.1;
          joined = append_assoc lines (line ∷ []) (map is_some more) ∙ (ap (λ b. lines ++ b ∷ map is_some more) found.0 ∙ same);
        }

-- so what stands for one part more is taken off
pub keeps_more : (parts left more : List Part) (p : Part) (text rest behind : List ℕ) (line : Bool) (lines now : List Bool) → left ≡ p ∷ more → now ≡ lines ++ line ∷ []
    → Finds p rest line behind → Keeps parts text left rest lines → Keeps parts text more behind now
keeps_more parts left more p text rest behind line lines now is grown finds keeps words tail may whole =
    let Left = λ (ps : List Part). Still ps rest lines words tail in
    let Lines = λ (ls : List Bool). Still more behind ls words tail in
    subst Lines (sym grown) (still_more p more rest behind line lines words tail finds (subst Left is (keeps words tail may whole)))
