-- A name that is written byte by byte.
use Rattle.std.proofs.Common.{◌≡◌, ◌<◌, ◌≤◌, ℕ, ◌+◌, List, [], ◌∷◌, ◌++◌, length, take, get_or, refl, sym, ap, ◌∙◌, append_assoc}
use Rattle.std.specs.Prelude.{flat_map}
use Rattle.std.proofs.lemmas.Bool.{ne_eqb}
use Rattle.std.proofs.lemmas.List.{take_all, take_more, flat_map_more}
use Rattle.sql_writing.specs.Writing.{doubled, name_text}

-- what stands there once i bytes of the name are written
abbrev pub begun : List ℕ → List ℕ → ℕ → List ℕ
begun old name i = old ++ (34 ∷ flat_map doubled (take i name))

goes_on : (old now new name : List ℕ) (i : ℕ) → now ≡ begun old name i → i < length name → new ≡ now ++ doubled (get_or name i 0) → new ≡ begun old name (i + 1)
goes_on old now new name i is low more =
    let b = doubled (get_or name i 0) in
    let far : (34 ∷ flat_map doubled (take i name)) ++ b ≡ 34 ∷ flat_map doubled (take (i + 1) name) = flat_map_more doubled (34 ∷ []) (take i name) (get_or name i 0) ∙ ap (λ w. 34 ∷ flat_map doubled w) (sym (take_more name i 0 low)) in
    more ∙ ap (λ w. w ++ b) is ∙ append_assoc old (34 ∷ flat_map doubled (take i name)) b ∙ ap (λ w. old ++ w) far

pub ends : (old now new name : List ℕ) (i : ℕ) → now ≡ begun old name i → length name ≤ i → new ≡ now ++ 34 ∷ [] → new ≡ old ++ name_text name
ends old now new name i is all last =
    last ∙ ap (λ w. w ++ 34 ∷ []) is ∙ append_assoc old (34 ∷ flat_map doubled (take i name)) (34 ∷ []) ∙ ap (λ w. old ++ (34 ∷ (flat_map doubled w ++ 34 ∷ []))) (take_all i name all)

pub goes_on_quote : (old now new name : List ℕ) (i : ℕ) → now ≡ begun old name i → i < length name → get_or name i 0 ≡ 34 → new ≡ now ++ 34 ∷ 34 ∷ [] → new ≡ begun old name (i + 1)
goes_on_quote old now new name i is low quote more = goes_on old now new name i is low (more ∙ ap (λ w. now ++ w) (sym (ap doubled quote)))

pub goes_on_plain : (old now new name : List ℕ) (i : ℕ) → now ≡ begun old name i → i < length name → (get_or name i 0 ≡ 34 → ⊥) → new ≡ now ++ get_or name i 0 ∷ [] → new ≡ begun old name (i + 1)
goes_on_plain old now new name i is low plain more =
    let b = get_or name i 0 in
    let d : doubled b ≡ b ∷ [] = rw (ne_eqb b 34 plain) refl in
    goes_on old now new name i is low (more ∙ ap (λ w. now ++ w) (sym d))
