-- Lists of needs and of numbers.
use Rattle.std.proofs.Common.{◌≡◌, ◌≢◌, ◌<◌, ◌≤◌, ◌+◌, ◌∷◌, ◌++◌, [], ◌==◌, ◌||◌, not, ℕ, Bool, true, false, List, map, Option, None, Some, IfSome, nat_lt, length, refl, sym, ◌∙◌, ap, subst, arith, inl, inr}
use Rattle.std.specs.List.{list_any, AllByRecursion}
use Rattle.std.proofs.lemmas.Bool.{cases_eq, cases_lt}
use Rattle.std.proofs.lemmas.Bool.Decides.{nat_tests}
use Rattle.scan_story.specs.declared.view.Load.{Load}
use Rattle.help_book.specs.Begun.{begins_some}
use Rattle.scan_story.specs.declared.setting.Need as asked
use Rattle.scan_story.specs.Counting.{has}
use Rattle.scan_story.specs.Setting.{IsRising, AreDistinct}
use Rattle.table_sets.specs.Sets.{Rising}
use Rattle.chunk_interest.specs.declared.need.Need.{Need}
use Rattle.chunk_interest.specs.Fresh.{as_need}
use Rattle.chunk_interest.proofs.Below.{equal_number, other_number, true_false, either}
use Rattle.chunk_interest.proofs.Counting.{above_start}

-- Rising numbers

pub or_false : (b : Bool) → (b || false) ≡ b
or_false true = refl
or_false false = refl

heads : (x y : ℕ) (xs ys : List ℕ) (n m : ℕ) → Rising (y + 1) ys m → has (x ∷ xs) x ≡ has (y ∷ ys) x → x < y → ⊥
heads x y xs ys n m up same lt =
    let there : has (x ∷ xs) x ≡ true = ap (λ (b : Bool). b || has xs x) (equal_number x x refl) in
    let none : has (y ∷ ys) x ≡ false = ap (λ (b : Bool). b || has ys x) (other_number y x (λ e. omega (arith, e, lt))) ∙ above_start (y + 1) ys m x up (omega (arith, lt)) in
    true_false (has (x ∷ xs) x) there (same ∙ none)

-- rising lists with the same members are the same
pub same_members : (start n m : ℕ) (xs ys : List ℕ) → Rising start xs n → Rising start ys m → ((x : ℕ) → has xs x ≡ has ys x) → xs ≡ ys
same_members start n m [] [] up vp same = refl
same_members start n m [] (y ∷ ys) up vp same = absurd (true_false (has (y ∷ ys) y) (ap (λ (b : Bool). b || has ys y) (equal_number y y refl)) (sym (same y)))
same_members start n m (x ∷ xs) [] up vp same = absurd (true_false (has (x ∷ xs) x) (ap (λ (b : Bool). b || has xs x) (equal_number x x refl)) (same x))
same_members start n m (x ∷ xs) (y ∷ ys) up vp same = elim (cases_lt x y) [
  | inl lt ↦ absurd (heads x y xs ys n m vp.1 (same x) lt)
  | inr le ↦ elim (cases_lt y x) [
    | inl lt ↦ absurd (heads y x ys xs m n up.1 (sym (same y)) lt)
    | inr ge ↦
        (let at : x ≡ y = omega (arith, le, ge) in
        let wp : Rising (x + 1) ys m = subst (λ (k : ℕ). Rising (k + 1) ys m) (sym at) vp.1 in
        ap (λ (k : ℕ). k ∷ xs) at ∙ ap (λ (zs : List ℕ). y ∷ zs) (same_members (x + 1) n m xs ys up.1 wp (λ z. elim (cases_eq z x) [
          | inl is ↦ above_start (x + 1) xs n z up.1 (omega (arith, is)) ∙ sym (above_start (x + 1) ys m z wp (omega (arith, is)))
          | inr ne ↦ sym (ap (λ (b : Bool). b || has xs z) (other_number x z (λ e. ne (sym e)))) ∙ (same z ∙ ap (λ (b : Bool). b || has ys z) (other_number y z (λ e. ne (sym e ∙ sym at))))
        ])))
  ]
]

pub is_rising : (start : ℕ) (xs : List ℕ) (end : ℕ) → Rising start xs end → IsRising xs
is_rising start [] end up = tt
is_rising start (x ∷ xs) end up = (later x (x + 1) xs end up.1 (omega arith), is_rising (x + 1) xs end up.1)
  where
    later : (x start : ℕ) (xs : List ℕ) (end : ℕ) → Rising start xs end → x < start → AllByRecursion (λ (y : ℕ). x < y) xs
    later x start [] end up lt = tt
    later x start (y ∷ xs) end up lt = (let low = up.0 in omega (arith, low, lt), later x (y + 1) xs end up.1 (let low = up.0 in omega (arith, low, lt)))

ends_from : (start : ℕ) (xs : List ℕ) (end : ℕ) → Rising start xs end → start ≤ end
ends_from start [] end up = up
ends_from start (x ∷ xs) end up = let low = up.0 in let rest = ends_from (x + 1) xs end up.1 in omega (arith, low, rest)

pub all_below : (start : ℕ) (xs : List ℕ) (end : ℕ) → Rising start xs end → AllByRecursion (λ (x : ℕ). x < end) xs
all_below start [] end up = tt
all_below start (x ∷ xs) end up = (let rest = ends_from (x + 1) xs end up.1 in omega (arith, rest), all_below (x + 1) xs end up.1)

-- Needs

pub map_push : (ns : List Need) (n : Need) → map as_need (ns ++ n ∷ []) ≡ map as_need ns ++ as_need n ∷ []
map_push [] n = refl
map_push (m ∷ ns) n = ap (λ (ms : List asked.Need). as_need m ∷ ms) (map_push ns n)

pub all_push : (P : asked.Need → Type 0) (ns : List asked.Need) (n : asked.Need) → AllByRecursion P ns → P n → AllByRecursion P (ns ++ n ∷ [])
all_push P [] n all here = (here, tt)
all_push P (m ∷ ns) n all here = (all.0, all_push P ns n all.1 here)

-- no need names the query
pub none_names : (q : ℕ) (ns : List Need) → list_any (λ (n : Need). n.query == q) ns ≡ false → AllByRecursion (λ (m : asked.Need). m.query ≢ q) (map as_need ns)
none_names q [] e = tt
none_names q (n ∷ ns) e =
    let o = either (n.query == q) (list_any (λ (m : Need). m.query == q) ns) e in
    (λ at. true_false (n.query == q) (equal_number n.query q at) o.0, none_names q ns o.1)

pub distinct_push : (ns : List asked.Need) (n : asked.Need) → AreDistinct ns → AllByRecursion (λ (m : asked.Need). m.query ≢ n.query) ns → AreDistinct (ns ++ n ∷ [])
distinct_push [] n apart none = (tt, tt)
distinct_push (m ∷ ns) n apart none = (all_push (λ (k : asked.Need). m.query ≢ k.query) ns n apart.0 none.0, distinct_push ns n apart.1 none.1)

pub append_apart : (xs : List asked.Need) (x : asked.Need) (ys : List asked.Need) → (xs ++ x ∷ []) ++ ys ≡ xs ++ x ∷ ys
append_apart [] x ys = refl
append_apart (z ∷ xs) x ys = ap (λ (zs : List asked.Need). z ∷ zs) (append_apart xs x ys)

pub unnot : (b : Bool) → not b ≡ true → b ≡ false
unnot true e = absurd (true_false false e refl)
unnot false e = refl

pub some_weaker : {X : Type 0} (o : Option X) (A B : Type 0) → (A → B) → IfSome o (λ _. A) → IfSome o (λ _. B)
some_weaker None A B f h = h
some_weaker (Some x) A B f h = f h

-- Loads

not_below : (a b : ℕ) → nat_lt a b ≡ false → b ≤ a
not_below a b e = grind (arith, nat_tests)

pub none_begun : (l : Load) → begins_some (Some l) ≡ false → l.begun ≡ []
none_begun l e = empty l.begun e
  where
    empty : (bs : List (ℕ × ℕ)) → nat_lt 0 (length bs) ≡ false → bs ≡ []
    empty [] e = refl
    empty (b ∷ bs) e = let none = not_below 0 (length (b ∷ bs)) e in absurd (omega (arith, none))
