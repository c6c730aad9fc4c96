-- Numbers that are spelled alike, with one more.
use Rattle.std.proofs.Common.{◌≡◌, ◌∙◌, ◌<◌, ◌≤◌, ◌++◌, ℕ, List, [], ◌∷◌, arith, refl, ap, length, get_or, map, length-append, true, false}
use Rattle.std.specs.Prelude.{All, ℤ, Option, Some, None, IfSome, is_some}
use Rattle.std.proofs.lemmas.List.{map_push}
use Rattle.std.proofs.lemmas.List.Elements.{All-head, All-push, All-tail, All-weaker}
use Rattle.std.proofs.Math.Seq.{get_or-append_seam}
use Rattle.csv_load.specs.Gathered.{AreNumbers, Follows, number_fields, spelled, with_places}
use Rattle.csv_load.specs.Number.{number_read}
use Rattle.csv_load.specs.declared.number.Number.{Number}
use Rattle.csv_load.proofs.Spelled.{number-spelled}
use Rattle.table_core.specs.Value.{number_text}

-- a number is read back from its field
abbrev pub IsRead : ℕ → Option ℤ → Type 0
IsRead places o = IfSome o (λ n. number_read (number_text places n) ≡ Some (with_places places n))

-- some number is there
abbrev pub IsBegun : List (Option ℤ) → Type 0
IsBegun numbers = (k : ℕ) × (k < length numbers) × (is_some (get_or numbers k None) ≡ true)

begun-here : (numbers : List (Option ℤ)) (n : ℤ) → IsBegun (numbers ++ Some n ∷ [])
begun-here numbers n = (length numbers, omega (arith, length-append numbers (Some n ∷ [])), rw (get_or-append_seam numbers (Some n) [] None) refl)

-- empty fields are the same with any places
all-empty : (p q : ℕ) (numbers : List (Option ℤ)) → All (λ o. o ≡ None) numbers → map (spelled p) numbers ≡ map (spelled q) numbers
all-empty p q [] none = refl
all-empty p q (o ∷ os) none =
    rw (All-head (λ (o : Option ℤ). o ≡ None) o os none, all-empty p q os (All-tail (λ (o : Option ℤ). o ≡ None) o os none)) refl

unread : (places : ℕ) (o : Option ℤ) → o ≡ None → IsRead places o
unread places o e = rw e tt

same-number : (n : Number) → n.zero_below ≡ false → n ≡ with_places n.places n.value
same-number n plain = rw (← plain) refl

read-back : (field : List ℕ) (n : Number) → number_read field ≡ Some n → n.zero_below ≡ false → IsRead n.places (Some n.value)
read-back field n e plain = rw (number-spelled field n e plain) at (e ∙ ap (λ (m : Number). Some m) (same-number n plain))

-- a number more that is spelled as those before it
pub numbers-some : (places : Option ℕ) (numbers : List (Option ℤ)) (n : Number) (field : List ℕ) → AreNumbers places numbers
    → number_read field ≡ Some n → n.zero_below ≡ false → n.places ≤ 9 → Follows places n.places → AreNumbers (Some n.places) (numbers ++ Some n.value ∷ [])
numbers-some None numbers n field is e plain few follows = record {
  few = few;
  begun = begun-here numbers n.value;
  read = All-push (IsRead n.places) numbers (Some n.value) (All-weaker (λ (o : Option ℤ). o ≡ None) (IsRead n.places) (unread n.places) numbers is) (read-back field n e plain);
}
numbers-some (Some places) numbers n field is e plain few follows = record {
  few = few;
  begun = begun-here numbers n.value;
  read = All-push (IsRead n.places) numbers (Some n.value) (rw follows at is.read) (read-back field n e plain);
}

pub fields-some : (places : Option ℕ) (numbers : List (Option ℤ)) (n : Number) (field : List ℕ) → AreNumbers places numbers
    → number_read field ≡ Some n → n.zero_below ≡ false → Follows places n.places
    → number_fields (Some n.places) (numbers ++ Some n.value ∷ []) ≡ number_fields places numbers ++ field ∷ []
fields-some None numbers n field is e plain follows =
    map_push (spelled n.places) numbers (Some n.value) ∙ rw (← number-spelled field n e plain, all-empty n.places 0 numbers is) refl
fields-some (Some places) numbers n field is e plain follows =
    map_push (spelled n.places) numbers (Some n.value) ∙ rw (← number-spelled field n e plain, follows) refl
