-- Going through a list up to the first element that has a property.
use Rattle.std.proofs.Common.{◌≡◌, ◌∷◌, [], ◌+◌, ◌++◌, ℕ, List, length, refl, sym, ◌∙◌, ap, subst, arith}
use Rattle.std.proofs.lemmas.List.{append_assoc, append-nil}
use Rattle.std.specs.List.{AllByRecursion}
use Rattle.policy_box.specs.First.{IsFirstOf}

-- one element more
pub all_push : {A : Type 0} (P : A → Type 0) (xs : List A) (y : A) → AllByRecursion P xs → P y → AllByRecursion P (xs ++ y ∷ [])
all_push P [] y all here = (here, tt)
all_push P (x ∷ xs) y all here = (all.0, all_push P xs y all.1 here)

-- the next of those left joins those that were seen
pub parts_push : {A : Type 0} (all seen left : List A) (x : A) (after : List A) → all ≡ seen ++ left → left ≡ x ∷ after → all ≡ (seen ++ x ∷ []) ++ after
parts_push all seen left x after parts next = parts ∙ (ap (λ (xs : List _). seen ++ xs) next ∙ sym (append_assoc seen (x ∷ []) after))

pub one_less : {A : Type 0} {left : List A} (x : A) (after : List A) (n m : ℕ) → left ≡ x ∷ after → m + 1 ≡ n → length left ≡ n → length after ≡ m
one_less x after n m next less long = let e = sym (ap length next) ∙ long in omega (arith, e, less)

pub first_is : {A : Type 0} (Has : A → Type 0) (all seen left : List A) (x : A) (after : List A) → all ≡ seen ++ left → left ≡ x ∷ after → AllByRecursion (λ (y : A). Has y → ⊥) seen → Has x → IsFirstOf Has all x
first_is Has all seen left x after parts next none here = record {
  before = seen;
  after = after;
  parts = parts ∙ ap (λ (xs : List _). seen ++ xs) next;
  none_before = none;
  here = here;
}

pub none_left : {A : Type 0} (P : A → Type 0) (all seen left : List A) → all ≡ seen ++ left → left ≡ [] → AllByRecursion P seen → AllByRecursion P all
none_left P all seen left parts end none = subst (AllByRecursion P) (sym (parts ∙ (ap (λ (xs : List _). seen ++ xs) end ∙ append-nil seen))) none

pub none_long : {A : Type 0} (xs : List A) (n : ℕ) → length xs ≡ n → n ≡ 0 → xs ≡ []
none_long [] n long none = refl
none_long (x ∷ xs) n long none = absurd (omega (arith, long, none))
