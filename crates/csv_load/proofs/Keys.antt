-- The names that aren't empty, each with its place.
use Rattle.std.proofs.Common.{◌≡◌, ◌≢◌, ◌∙◌, ◌+◌, ◌<◌, ℕ, List, [], ◌∷◌, ◌++◌, arith, refl, sym, ap, length, get_or, inl, inr, map}
use Rattle.std.specs.List.Sorted.{IsPermutation}
use Rattle.std.proofs.lemmas.Bool.{cases_lt}
use Rattle.std.proofs.lemmas.List.{map-append}
use Rattle.std.proofs.lemmas.List.Elements.{All-nil, All-push, Contains-append_left, Contains-push}
use Rattle.std.proofs.lemmas.List.Sorted.{All-permutation, Contains-permutation, IsPermutation-map}
use Rattle.csv_load.specs.Fronts.{IsFront}
use Rattle.csv_load.specs.Ranks.{Key, Keyed}

abbrev pub NamesTrue : List (List ℕ) → Key → Type 0
NamesTrue names p = (p.2 < length names) × (p.1.now ≡ get_or names p.2 []) × (p.1.now ≢ [])

abbrev pub HasFront : Key → Type 0
HasFront p = IsFront p.1.now p.0

pub keyed-none : (names : List (List ℕ)) → Keyed names 0 []
keyed-none names = record { fronts = All-nil HasFront; true_name = All-nil (NamesTrue names); all = λ k low some. absurd (omega arith) }

pub some_text : (t : List ℕ) → (length t ≡ 0 → ⊥) → t ≢ []
some_text t some e = some (ap length e)

pub no_text : (t : List ℕ) → length t ≡ 0 → t ≡ []
no_text [] e = refl
no_text (x ∷ t) e = absurd (omega arith)

pub keyed-push : (names : List (List ℕ)) (end : ℕ) (order : List Key) (p : Key) → Keyed names end order
    → IsFront p.1.now p.0 → end < length names → p.1.now ≡ get_or names end [] → (length p.1.now ≡ 0 → ⊥) → p.2 ≡ end → Keyed names (end + 1) (order ++ p ∷ [])
keyed-push names end order p is front inside e some place = record {
  fronts = All-push HasFront order p is.fronts front;
  true_name = All-push (NamesTrue names) order p is.true_name (rw place inside, rw place e, some_text p.1.now some);
  all = λ k low filled. rw (map-append (λ (q : Key). q.2) order (p ∷ []))
      (elim (cases_lt k end) [
        | inl less ↦ Contains-append_left (map (λ (q : Key). q.2) order) (p.2 ∷ []) k (is.all k less filled)
        | inr past ↦ let at : p.2 ≡ k = omega arith in rw at (Contains-push (map (λ (q : Key). q.2) order) k)
      ]);
}

pub keyed-skip : (names : List (List ℕ)) (end : ℕ) (order : List Key) (t : List ℕ) → Keyed names end order
    → t ≡ get_or names end [] → length t ≡ 0 → Keyed names (end + 1) order
keyed-skip names end order t is e none = record {
  fronts = is.fronts;
  true_name = is.true_name;
  all = λ k low filled. elim (cases_lt k end) [
    | inl less ↦ is.all k less filled
    | inr past ↦ let at : end ≡ k = omega arith in absurd (filled (rw at at (sym e) ∙ no_text t none))
  ];
}

pub keyed-moved : (names : List (List ℕ)) (end : ℕ) (xs ys : List Key) → IsPermutation xs ys → Keyed names end xs → Keyed names end ys
keyed-moved names end xs ys moved is = record {
  fronts = All-permutation HasFront xs ys moved is.fronts;
  true_name = All-permutation (NamesTrue names) xs ys moved is.true_name;
  all = λ k low filled. Contains-permutation (map (λ (q : Key). q.2) xs) (map (λ (q : Key). q.2) ys) k
      (IsPermutation-map (λ (q : Key). q.2) xs ys moved) (is.all k low filled);
}
