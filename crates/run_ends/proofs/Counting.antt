-- The scans that a history stopped, counted.
use Rattle.std.proofs.Common.{◌≡◌, ◌∙◌, ◌≤◌, ◌<◌, ◌+◌, ◌==◌, ◌||◌, ◌&&◌, ◌∷◌, [], ℕ, zero, suc, Bool, true, false, List, length, arith, refl, sym, ap, inl, inr}
use Rattle.std.specs.Prelude.{if◌then◌else◌}
use Rattle.std.proofs.lemmas.Bool.{cases_Bool, cases_eq, cases_lt, eq-eqb, ne_eqb, lt-ltb, le-ltb}
use Rattle.std.proofs.lemmas.List.{length-append}
use Rattle.table_sets.specs.Sets.{AreMembers, Rising, has, numbers_below}
use Rattle.filter_zones.proofs.Sets.{members_are}
use Rattle.scan_story.specs.declared.entry.Entry.TheVariants.{Deliver, End, Evict, Failed, Fill, Filled, Plan, Register, Release, Stop}
use Rattle.scan_story.specs.Views.{History, is_stopped}
use Rattle.run_ends.specs.Lines.{AreSmall, stops}

-- how many numbers below n pass
numbers : (ℕ → Bool) → ℕ → ℕ
numbers p n = length (numbers_below p n)

next_number : (p : ℕ → Bool) (n : ℕ) (b : Bool) → p n ≡ b → numbers p (suc n) ≡ (if b then numbers p n + 1 else numbers p n)
unfolding numbers numbers_below
next_number p n true is = rw is (length-append (numbers_below p n) (n ∷ []))
next_number p n false is = rw is refl

-- the same numbers
alike : (p q : ℕ → Bool) (n : ℕ) → ((x : ℕ) → x < n → p x ≡ q x) → numbers p n ≡ numbers q n
unfolding numbers numbers_below
alike p q zero same = refl
alike p q (suc n) same = elim (cases_Bool (q n)) [
  | inl so ↦ next_number p n true (same n (omega arith) ∙ so) ∙ ap (λ k. k + 1) (alike p q n (λ x low. same x (omega (arith, low)))) ∙ sym (next_number q n true so)
  | inr off ↦ next_number p n false (same n (omega arith) ∙ off) ∙ alike p q n (λ x low. same x (omega (arith, low))) ∙ sym (next_number q n false off)
]

-- with one number more
more : (p : ℕ → Bool) (q n : ℕ) → p q ≡ false → q < n → numbers (λ x. q == x || p x) n ≡ numbers p n + 1
more p q zero fresh low = absurd (omega (arith, low))
more p q (suc n) fresh low = elim (cases_eq q n) [
  | inl here ↦
      let now : (q == n || p n) ≡ true = ap (λ b. b || p n) (eq-eqb q n here) in
      let before : p n ≡ false = ap p (sym here) ∙ fresh in
      let rest = alike (λ x. q == x || p x) p n (λ x less. ap (λ b. b || p x) (ne_eqb q x (λ e. omega (arith, e, here, less)))) in
      next_number (λ x. q == x || p x) n true now ∙ ap (λ k. k + 1) (rest ∙ sym (next_number p n false before))
  | inr apart ↦
      let same : (q == n || p n) ≡ p n = ap (λ b. b || p n) (ne_eqb q n apart) in
      by (p n) refl same (more p q n fresh (omega (arith, apart, low)))
]
  where
    by : (b : Bool) → p n ≡ b → (q == n || p n) ≡ p n → numbers (λ x. q == x || p x) n ≡ numbers p n + 1 → numbers (λ x. q == x || p x) (suc n) ≡ numbers p (suc n) + 1
    by true is same rest = next_number (λ x. q == x || p x) n true (same ∙ is) ∙ ap (λ k. k + 1) (rest ∙ sym (next_number p n true is))
    by false is same rest = next_number (λ x. q == x || p x) n false (same ∙ is) ∙ rest ∙ ap (λ k. k + 1) (sym (next_number p n false is))

-- with a number that was among them
again : (p : ℕ → Bool) (q n : ℕ) → p q ≡ true → numbers (λ x. q == x || p x) n ≡ numbers p n
again p q n is = alike (λ x. q == x || p x) p n (λ x low. elim (cases_eq q x) [
  | inl here ↦ ap (λ b. b || p x) (eq-eqb q x here) ∙ sym (ap p (sym here) ∙ is)
  | inr apart ↦ ap (λ b. b || p x) (ne_eqb q x apart)
])

here : (q : ℕ) (b : Bool) → (q == q || b) ≡ true
here q b = ap (λ t. t || b) (eq-eqb q q refl)

later : (q x : ℕ) (b : Bool) → b ≡ true → (q == x || b) ≡ true
later q x b is = elim (cases_Bool (q == x)) [
  | inl so ↦ ap (λ t. t || b) so
  | inr off ↦ ap (λ t. t || b) off ∙ is
]

-- one scan more, or the same again
next_stop : (h : History) (q : ℕ) (b : Bool) → is_stopped h q ≡ b → q < 1024 → numbers (is_stopped h) 1024 ≡ stops h
    → numbers (λ x. q == x || is_stopped h x) 1024 ≡ (if b then stops h else stops h + 1)
next_stop h q true is low rest = again (is_stopped h) q 1024 is ∙ rest
next_stop h q false is low rest = more (is_stopped h) q 1024 is low ∙ ap (λ k. k + 1) rest

none : (n : ℕ) → numbers (λ x. false) n ≡ 0
unfolding numbers numbers_below
none zero = refl
none (suc n) = next_number (λ x. false) n false refl ∙ none n

counted : (h : History) → AreSmall h → numbers (is_stopped h) 1024 ≡ stops h
counted [] small = none 1024
counted (Stop w q ∷ h) small = next_stop h q (is_stopped h q) refl (small q (here q (is_stopped h q))) (counted h (λ x e. small x (later q x (is_stopped h x) e)))
counted (Failed w q p why ∷ h) small = next_stop h q (is_stopped h q) refl (small q (here q (is_stopped h q))) (counted h (λ x e. small x (later q x (is_stopped h x) e)))
counted (Register w q ∷ h) small = counted h small
counted (Plan w q c ∷ h) small = counted h small
counted (Evict w c ∷ h) small = counted h small
counted (Fill w f p ∷ h) small = counted h small
counted (Filled w f p ∷ h) small = counted h small
counted (Deliver w q c ∷ h) small = counted h small
counted (Release w q c ∷ h) small = counted h small
counted (End w q ∷ h) small = counted h small

above : (start : ℕ) (xs : List ℕ) (end c : ℕ) → Rising start xs end → end ≤ c → has xs c ≡ false
above start [] end c rises high = refl
above start (x ∷ xs) end c rises high =
    let low = start_low (x + 1) xs end rises.1 in
    ap (λ b. b || has xs c) (ne_eqb x c (λ e. omega (arith, e, low, high))) ∙ above (x + 1) xs end c rises.1 high
  where
    start_low : (start : ℕ) (xs : List ℕ) (end : ℕ) → Rising start xs end → start ≤ end
    start_low start [] end rises = rises
    start_low start (x ∷ xs) end rises = let rest = start_low (x + 1) xs end rises.1 in omega (arith, rest, rises.0)

-- a set of the scans that are stopped has as many members as the history has stops
pub stops_counted : (h : History) (members : List ℕ) → AreSmall h → AreMembers 1024 members → ((q : ℕ) → q < 1024 → has members q ≡ is_stopped h q) → length members ≡ stops h
unfolding numbers
stops_counted h members small rise same =
    let is = members_are members 1024 1024 (is_stopped h) rise (λ c. elim (cases_lt c 1024) [
      | inl low ↦ same c low ∙ sym (ap (λ b. b && is_stopped h c) (lt-ltb c 1024 low))
      | inr high ↦ above 0 members 1024 c rise high ∙ sym (ap (λ b. b && is_stopped h c) (le-ltb c 1024 high))
    ]) in
    ap length is ∙ counted h small
