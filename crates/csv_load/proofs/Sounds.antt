-- A look-up that says where texts stand, after one more text.
use Rattle.std.proofs.Common.{◌≡◌, ◌∙◌, ◌<◌, ◌++◌, ℕ, List, [], ◌∷◌, arith, refl, sym, ap, length, get_or, true, false, inl, inr, length-append}
use Rattle.std.specs.Prelude.{Option, Some, None, IfSome, MatchOption, nat_eq, Bool, Vec}
use Rattle.std.specs.Global.{Global}
use Rattle.std.specs.List.Sorted.{IsPermutation}
use Rattle.std.specs.Map.{lookup, set_value}
use Rattle.std.proofs.lemmas.Bool.{cases_Bool}
use Rattle.std.proofs.lemmas.Bool.Decides.{nat_tests}
use Rattle.std.proofs.lemmas.List.{get_or_append_left}
use Rattle.std.proofs.lemmas.List.Elements.{All-cons, All-head, All-tail, All-weaker}
use Rattle.std.proofs.lemmas.List.Sorted.{All-permutation}
use Rattle.std.proofs.Math.Seq.{get_or-append_seam}
use Rattle.csv_load.specs.Judged.{Fields}
use Rattle.csv_load.specs.Seen.{AreSound, IsSound}
use lib.Pointwise.{pointwise}

Entry : Type 0
Entry = Vec ℕ Global × ℕ

same_bytes : (xs ys : List ℕ) → pointwise nat_eq xs ys ≡ true → xs ≡ ys
same_bytes [] [] e = refl
same_bytes [] (y ∷ ys) e = absurd (cc)
same_bytes (x ∷ xs) [] e = absurd (cc)
same_bytes (x ∷ xs) (y ∷ ys) e = elim (cases_Bool (nat_eq x y)) [
  | inl so ↦ let head : x ≡ y = grind (arith, nat_tests) in let tail = same_bytes xs ys (rw so at e) in rw (head, tail) refl
  | inr not ↦ let no : false ≡ true = rw not at e in absurd (cc)
]

abbrev pub same_text : List ℕ → Vec ℕ Global → Bool
same_text field key = pointwise nat_eq field key.items

-- what is found stands there
pub lookup-sound : (texts : Fields) (field : List ℕ) (entries : List (Vec ℕ Global × ℕ)) → AreSound texts entries
    → IfSome (lookup (same_text field) entries) (λ c. (c < length texts) × (get_or texts c [] ≡ field))
lookup-sound texts field [] sound = tt
lookup-sound texts field (e ∷ es) sound =
    let here : IsSound texts e = All-head (IsSound texts) e es sound in
    elim (cases_Bool (same_text field e.0)) [
      | inl so ↦ rw so (here.0, here.1 ∙ sym (same_bytes field e.0.items so))
      | inr not ↦ rw not (lookup-sound texts field es (All-tail (IsSound texts) e es sound))
    ]

set-sound : (texts : Fields) (key : List ℕ) (v : ℕ) (entries : List (Vec ℕ Global × ℕ)) → AreSound texts entries → v < length texts → get_or texts v [] ≡ key
    → AreSound texts (set_value (same_text key) entries v)
set-sound texts key v [] sound inside is = sound
set-sound texts key v (e ∷ es) sound inside is = elim (cases_Bool (same_text key e.0)) [
  | inl so ↦ rw so (All-cons (IsSound texts) (e.0, v) es (inside, is ∙ same_bytes key e.0.items so) (All-tail (IsSound texts) e es sound))
  | inr not ↦ rw not (All-cons (IsSound texts) e (set_value (same_text key) es v) (All-head (IsSound texts) e es sound)
      (set-sound texts key v es (All-tail (IsSound texts) e es sound) inside is))
]

-- one entry more, for a text that stands at its place
pub put-sound : (texts : Fields) (key : Vec ℕ Global) (v : ℕ) (old : Option ℕ) (entries new : List (Vec ℕ Global × ℕ))
    → MatchOption old (IsPermutation ((key, v) ∷ entries) new) (λ u. new ≡ set_value (same_text key.items) entries v)
    → AreSound texts entries → v < length texts → get_or texts v [] ≡ key.items → AreSound texts new
put-sound texts key v None entries new put sound inside is =
    All-permutation (IsSound texts) ((key, v) ∷ entries) new put (All-cons (IsSound texts) (key, v) entries (inside, is) sound)
put-sound texts key v (Some u) entries new put sound inside is = rw put (set-sound texts key.items v entries sound inside is)

-- with more texts the places stay
pub sound-grown : (texts : Fields) (t : List ℕ) (entries : List (Vec ℕ Global × ℕ)) → AreSound texts entries → AreSound (texts ++ t ∷ []) entries
sound-grown texts t entries sound = All-weaker (IsSound texts) (IsSound (texts ++ t ∷ []))
    (λ e here. (omega (arith, here.0, length-append texts (t ∷ [])), get_or_append_left texts (t ∷ []) [] e.1 here.0 ∙ here.1)) entries sound

-- a text that was put at the end stands at its place, and what was remembered still does
pub remembered : (texts new : Fields) (field : List ℕ) (place : ℕ) (entries : List (Vec ℕ Global × ℕ)) → new ≡ texts ++ field ∷ [] → place ≡ length texts → AreSound texts entries
    → AreSound new entries × (place < length new) × (get_or new place [] ≡ field)
remembered texts new field place entries e p sound =
    (rw e (sound-grown texts field entries sound), omega (arith, p, ap length e, length-append texts (field ∷ [])), rw (e, p) (get_or-append_seam texts field [] []))
