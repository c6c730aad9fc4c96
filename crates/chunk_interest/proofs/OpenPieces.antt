-- How many missing pieces are not filled yet, and whether the load is still open.
use Rattle.std.proofs.Common.{◌≡◌, ◌<◌, ◌+◌, ◌∷◌, [], ◌==◌, ◌||◌, not, ℕ, Bool, true, false, if◌then◌else◌, List, length, nat_lt, Option, None, Some, is_none, refl, sym, ◌∙◌, ap, subst, arith, inl, inr}
use Rattle.std.specs.List.{list_any}
use Rattle.std.specs.Option.{option_map}
use Rattle.std.proofs.lemmas.Bool.{cases_Bool}
use Rattle.std.proofs.lemmas.Bool.Decides.{nat_tests}
use Rattle.scan_story.specs.declared.view.Load.{Load}
use Rattle.scan_story.specs.declared.setting.Setting.{Setting}
use Rattle.scan_story.specs.declared.entry.Entry.TheVariants.{Filled}
use Rattle.scan_story.specs.Counting.{has, count_among}
use Rattle.scan_story.specs.Views.{History}
use Rattle.scan_story.specs.Loads.{underway, end_fill, is_open, if_open}
use Rattle.chunk_interest.specs.Frames.{open_pieces}
use Rattle.chunk_interest.proofs.Below.{same_number, equal_number, other_number, true_false}
use Rattle.chunk_interest.proofs.Needs.{NoneTwice}

-- at first all missing pieces are open
pub all_open : (ps : List ℕ) → count_among (λ p. not (has [] p)) ps ≡ length ps
all_open [] = refl
all_open (p ∷ ps) = let rest = all_open ps in omega (arith, rest)

-- the load is open where a piece is
pub open_is : (test : ℕ → Bool) (ps : List ℕ) → list_any test ps ≡ nat_lt 0 (count_among test ps)
open_is test [] = refl
open_is test (p ∷ ps) = at_head (test p) (open_is test ps)
  where
    at_head : (b : Bool) → list_any test ps ≡ nat_lt 0 (count_among test ps) → (b || list_any test ps) ≡ nat_lt 0 (if b then count_among test ps + 1 else count_among test ps)
    at_head true e = grind (arith, nat_tests)
    at_head false e = e

-- a piece that isn't in the list leaves the open pieces
not_among : (p : ℕ) (filled ps : List ℕ) → has ps p ≡ false → count_among (λ x. not (has (p ∷ filled) x)) ps ≡ count_among (λ x. not (has filled x)) ps
not_among p filled [] e = refl
not_among p filled (x ∷ ps) e =
    let o = apart (x == p) (has ps p) e in
    let here : (p == x) ≡ false = other_number p x (λ s. true_false (x == p) (equal_number x p (sym s)) o.0) in
    ap (λ (b : Bool). if not (b || has filled x) then count_among (λ x. not (has (p ∷ filled) x)) ps + 1 else count_among (λ x. not (has (p ∷ filled) x)) ps) here
    ∙ ap (λ (k : ℕ). if not (has filled x) then k + 1 else k) (not_among p filled ps o.1)
  where
    apart : (a b : Bool) → (a || b) ≡ false → (a ≡ false) × (b ≡ false)
    apart true b e = absurd (true_false true refl e)
    apart false b e = (refl, e)

-- a missing piece that is filled is open no more
pub fewer_open : (p : ℕ) (filled ps : List ℕ) → NoneTwice ps → has ps p ≡ true → has filled p ≡ false
    → count_among (λ x. not (has (p ∷ filled) x)) ps + 1 ≡ count_among (λ x. not (has filled x)) ps
fewer_open p filled [] apart there out = absurd (true_false false there refl)
fewer_open p filled (x ∷ ps) apart there out = elim (cases_Bool (x == p)) [
  | inl so ↦
      (let same : x ≡ p = same_number x p so in
      let here : (p == x) ≡ true = equal_number p x (sym same) in
      let none : has ps p ≡ false = subst (λ (y : ℕ). has ps y ≡ false) same apart.0 in
      let open_before : has filled x ≡ false = subst (λ (y : ℕ). has filled y ≡ false) (sym same) out in
      ap (λ (b : Bool). (if not (b || has filled x) then count_among (λ x. not (has (p ∷ filled) x)) ps + 1 else count_among (λ x. not (has (p ∷ filled) x)) ps) + 1) here
      ∙ (ap (λ (k : ℕ). k + 1) (not_among p filled ps none)
      ∙ sym (ap (λ (b : Bool). if not b then count_among (λ x. not (has filled x)) ps + 1 else count_among (λ x. not (has filled x)) ps) open_before)))
  | inr ne ↦
      (let rest : count_among (λ x. not (has (p ∷ filled) x)) ps + 1 ≡ count_among (λ x. not (has filled x)) ps = fewer_open p filled ps apart.1 (rw ne at there) out in
      let here : (p == x) ≡ false = other_number p x (λ s. true_false (x == p) (equal_number x p (sym s)) ne) in
      ap (λ (b : Bool). (if not (b || has filled x) then count_among (λ x. not (has (p ∷ filled) x)) ps + 1 else count_among (λ x. not (has (p ∷ filled) x)) ps) + 1) here
      ∙ (swap (not (has filled x)) (count_among (λ x. not (has (p ∷ filled) x)) ps) ∙ ap (λ (k : ℕ). if not (has filled x) then k + 1 else k) rest))
]
  where
    swap : (b : Bool) (k : ℕ) → (if b then k + 1 else k) + 1 ≡ (if b then k + 1 + 1 else k + 1)
    swap true k = refl
    swap false k = refl

-- the load after a piece was filled
pub filled_load : (s : Setting) (h : History) (w f p : ℕ) (l : Load) → underway s h ≡ Some l → underway s (Filled w f p ∷ h) ≡ (if is_open (end_fill p l) then Some (end_fill p l) else None)
filled_load s h w f p l e = ap (λ o. if_open (option_map (end_fill p) o)) e

pub stays_open : (s : Setting) (h : History) (w f p : ℕ) (l : Load) → underway s h ≡ Some l → 0 < open_pieces (end_fill p l) → underway s (Filled w f p ∷ h) ≡ Some (end_fill p l)
stays_open s h w f p l e some =
    let opens : is_open (end_fill p l) ≡ true = open_is (λ x. not (has (p ∷ l.filled) x)) l.missing ∙ positive (open_pieces (end_fill p l)) some in
    filled_load s h w f p l e ∙ ap (λ (b : Bool). if b then Some (end_fill p l) else None) opens
  where
    positive : (n : ℕ) → 0 < n → nat_lt 0 n ≡ true
    positive n lt = grind (arith, nat_tests)

pub is_closed : (s : Setting) (h : History) (w f p : ℕ) (l : Load) → underway s h ≡ Some l → open_pieces (end_fill p l) ≡ 0 → underway s (Filled w f p ∷ h) ≡ None
is_closed s h w f p l e none =
    let closed : is_open (end_fill p l) ≡ false = open_is (λ x. not (has (p ∷ l.filled) x)) l.missing ∙ ap (λ (n : ℕ). nat_lt 0 n) none in
    filled_load s h w f p l e ∙ ap (λ (b : Bool). if b then Some (end_fill p l) else None) closed

-- whether the load is over, and what it is otherwise
pub load_goes : (s : Setting) (h : History) (w f p : ℕ) (l : Load) → underway s h ≡ Some l → is_none (underway s (Filled w f p ∷ h)) ≡ false → underway s (Filled w f p ∷ h) ≡ Some (end_fill p l)
load_goes s h w f p l e goes = some_of (is_open (end_fill p l)) (underway s (Filled w f p ∷ h)) (filled_load s h w f p l e) goes
  where
    some_of : (b : Bool) (o : Option Load) → o ≡ (if b then Some (end_fill p l) else None) → is_none o ≡ false → o ≡ Some (end_fill p l)
    some_of true o e n = e
    some_of false o e n = absurd (true_false (is_none o) (ap is_none e) n)

pub load_ends : (o : Option Load) → is_none o ≡ true → o ≡ None
load_ends None e = refl
load_ends (Some l) e = absurd (true_false false e refl)
