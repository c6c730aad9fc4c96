-- The deal as the numbers below an end grow.
use Rattle.std.proofs.Common.{◌≡◌, ◌∙◌, ◌<◌, ◌≤◌, ◌+◌, ◌*◌, ◌/◌, ◌%◌, ◌++◌, ◌∷◌, ◌==◌, ◌&&◌, ◌||◌, ℕ, zero, suc, Bool, true, false, List, [], length, arith, refl, sym, ap, subst, inl, inr, length-append, append_assoc, add-one}
use Rattle.std.specs.Prelude.{◌⊎◌, if◌then◌else◌, nat_lt, IsPermutation}
use Rattle.std.proofs.lemmas.Bool.{cases_Bool, cases_eq, cases_lt, cases_order, eq-eqb, ne_eqb, lt-ltb, le-ltb}
use Rattle.std.proofs.lemmas.List.Sorted.{IsPermutation-refl, IsPermutation-trans, IsPermutation-append_left, IsPermutation-append_right, IsPermutation-append_comm}
use Rattle.std.proofs.Math.Nat.{mod-lt, suc-mod, add-mul, mod-eq_of_lt, mod_self, div-add-mod', div-eq_of_lt-le, div-eq_of_lt}
use Rattle.filter_zones.proofs.Sets.{members_are}
use Rattle.table_sets.specs.Sets.{has, numbers_below, AreMembers, Rising}
use Rattle.batch_plan.specs.Deal.{place, is_dealt, deal, dealt_to}

-- the numbers below an end that pass, with one number more
module _ (p : ℕ → Bool) where
  pub none_below : numbers_below p 0 ≡ []
  unfolding numbers_below
  none_below = refl

  pub one_more : (n : ℕ) → numbers_below p (n + 1) ≡ (if p n then numbers_below p n ++ n ∷ [] else numbers_below p n)
  unfolding numbers_below
  one_more n = rw (add-one n) refl

  pub passes : (n : ℕ) → p n ≡ true → numbers_below p (n + 1) ≡ numbers_below p n ++ n ∷ []
  passes n so = one_more n ∙ rw so refl

  pub fails : (n : ℕ) → p n ≡ false → numbers_below p (n + 1) ≡ numbers_below p n
  fails n not = one_more n ∙ rw not refl

  pub few_below : (n : ℕ) → length (numbers_below p n) ≤ n
  unfolding numbers_below
  few_below zero = omega arith
  few_below (suc n) = elim (cases_Bool (p n)) [
    | inl so ↦ rw so (omega (arith, few_below n, length-append (numbers_below p n) (n ∷ [])))
    | inr not ↦ rw not (omega (arith, few_below n))
  ]

or_false : (a : Bool) → (a || false) ≡ a
or_false true = refl
or_false false = refl

and_false : (a : Bool) → (a && false) ≡ false
and_false true = refl
and_false false = refl

-- a number from the end on is no member
past_end : (start end c : ℕ) (members : List ℕ) → Rising start members end → end ≤ c → has members c ≡ false
past_end start end c [] rise past = refl
past_end start end c (x ∷ xs) rise past = rw (ne_eqb x c (λ e. omega (arith, e, past, below (x + 1) xs rise.1))) (past_end (x + 1) end c xs rise.1 past) where
  below : (from : ℕ) (ys : List ℕ) → Rising from ys end → from ≤ end
  below from [] up = up
  below from (y ∷ ys) up = let rest = below (y + 1) ys up.1 in omega (arith, rest, up.0)

-- the members of a set, found by their numbers
pub all_below : (members : List ℕ) → AreMembers 1024 members → numbers_below (has members) 1024 ≡ members
all_below members rise = sym (members_are members 1024 1024 (has members) rise within) where
  within : (c : ℕ) → has members c ≡ (nat_lt c 1024 && has members c)
  within c = elim (cases_lt c 1024) [
    | inl below ↦ rw (lt-ltb c 1024 below) refl
    | inr past ↦ rw (le-ltb c 1024 past) (past_end 0 1024 c members rise past)
  ]

-- how many of so many members a part has
abbrev pub share : ℕ → ℕ → ℕ → ℕ
share count parts part = count / parts + (if nat_lt part (count % parts) then 1 else 0)

-- the numbers below an end that pass, with one number more
module _ (p : ℕ → Bool) (n x : ℕ) where
  pub grown : p n ≡ true → (nat_lt x n && p x || x == n) ≡ (nat_lt x (n + 1) && p x)
  grown so = elim (cases_order x n) [
    | inl here ↦ rw (here, le-ltb n n (omega arith), lt-ltb n (n + 1) (omega arith), eq-eqb n n refl, so) refl
    | inr (inl low) ↦ rw (lt-ltb x n low, lt-ltb x (n + 1) (omega (arith, low)), ne_eqb x n (λ e. omega (arith, e, low))) (or_false (p x))
    | inr (inr high) ↦ rw (le-ltb x n (omega (arith, high)), le-ltb x (n + 1) (omega (arith, high)), ne_eqb x n (λ e. omega (arith, e, high))) refl
  ]

  pub as_before : p n ≡ false → (nat_lt x n && p x) ≡ (nat_lt x (n + 1) && p x)
  as_before not = elim (cases_order x n) [
    | inl here ↦ rw (here, le-ltb n n (omega arith), lt-ltb n (n + 1) (omega arith), not) refl
    | inr (inl low) ↦ rw (lt-ltb x n low, lt-ltb x (n + 1) (omega (arith, low))) refl
    | inr (inr high) ↦ rw (le-ltb x n (omega (arith, high)), le-ltb x (n + 1) (omega (arith, high))) refl
  ]

module _ (members : List ℕ) where
  pub more_placed : (n : ℕ) → has members n ≡ true → place members (n + 1) ≡ place members n + 1
  more_placed n so = ap length (passes (has members) n so) ∙ length-append (numbers_below (has members) n) (n ∷ [])

  pub not_placed : (n : ℕ) → has members n ≡ false → place members (n + 1) ≡ place members n
  not_placed n not = ap length (fails (has members) n not)

module _ (members : List ℕ) (parts : ℕ) (some : 0 < parts) where
  -- those below n of a part, and of the first parts
  abbrev pub dealt : ℕ → ℕ → List ℕ
  dealt part n = numbers_below (is_dealt members parts part) n

  abbrev pub first : ℕ → ℕ → List ℕ
  first zero n = []
  first (suc part) n = first part n ++ dealt part n

  none : (part : ℕ) → first part 0 ≡ []
  none zero = refl
  none (suc part) = rw (none part, none_below (is_dealt members parts part)) refl

  -- a number that is no member is no part's
  kept : (n part : ℕ) → has members n ≡ false → first part (n + 1) ≡ first part n
  kept n zero not = refl
  kept n (suc part) not = rw (kept n part not, fails (is_dealt members parts part) n (rw not refl)) refl

  -- a member is dealt to one part
  others : (n part : ℕ) → (place members n % parts ≡ part → ⊥) → dealt part (n + 1) ≡ dealt part n
  others n part other = fails (is_dealt members parts part) n (rw (ne_eqb (place members n % parts) part other) (and_false (has members n)))

  before : (n part : ℕ) → part ≤ place members n % parts → first part (n + 1) ≡ first part n
  before n zero low = refl
  before n (suc part) low = rw (before n part (omega (arith, low)), others n part (λ e. omega (arith, e, low))) refl

  its_own : (n part : ℕ) → has members n ≡ true → place members n % parts ≡ part → dealt part (n + 1) ≡ dealt part n ++ n ∷ []
  its_own n part so here = passes (is_dealt members parts part) n (rw (so, eq-eqb (place members n % parts) part here) refl)

  after : (n part : ℕ) → has members n ≡ true → place members n % parts < part → IsPermutation (first part n ++ n ∷ []) (first part (n + 1))
  after n zero so low = absurd (omega (arith, low))
  after n (suc part) so low = elim (cases_eq (place members n % parts) part) [
    | inl here ↦
        let same : first (suc part) n ++ n ∷ [] ≡ first (suc part) (n + 1) =
        append_assoc (first part n) (dealt part n) (n ∷ []) ∙ ap (λ xs. first part n ++ xs) (sym (its_own n part so here)) ∙ ap (λ xs. xs ++ dealt part (n + 1)) (sym (before n part (omega (arith, here)))) in
        rw same (IsPermutation-refl (first (suc part) (n + 1)))
    | inr other ↦
        let rest : IsPermutation (first part n ++ n ∷ []) (first part (n + 1)) = after n part so (omega (arith, low, other)) in
        let moved : IsPermutation (dealt part n ++ n ∷ []) (n ∷ [] ++ dealt part n) = IsPermutation-append_comm (dealt part n) (n ∷ []) in
        rw (others n part other, append_assoc (first part n) (dealt part n) (n ∷ []))
        (IsPermutation-trans (first part n ++ (dealt part n ++ n ∷ [])) ((first part n ++ n ∷ []) ++ dealt part n) (first part (n + 1) ++ dealt part n)
        (rw (append_assoc (first part n) (n ∷ []) (dealt part n)) (IsPermutation-append_right (first part n) (dealt part n ++ n ∷ []) (n ∷ [] ++ dealt part n) moved))
        (IsPermutation-append_left (dealt part n) (first part n ++ n ∷ []) (first part (n + 1)) rest))
  ]

  -- the members below n, dealt to all parts
  all_to : (n : ℕ) → IsPermutation (numbers_below (has members) n) (first parts n)
  all_to zero = rw (none_below (has members), none parts) (IsPermutation-refl [])
  all_to (suc n) = rw (← add-one n) (elim (cases_Bool (has members n)) [
    | inl so ↦ rw (passes (has members) n so) (IsPermutation-trans (numbers_below (has members) n ++ n ∷ []) (first parts n ++ n ∷ []) (first parts (n + 1))
        (IsPermutation-append_left (n ∷ []) (numbers_below (has members) n) (first parts n) (all_to n)) (after n parts so (mod-lt (place members n) some)))
    | inr not ↦ rw (fails (has members) n not, kept n parts not) (all_to n)
  ])

  are_first : (part : ℕ) → first part 1024 ≡ dealt_to members parts part
  are_first zero = refl
  are_first (suc part) = rw (are_first part) refl

  pub all_dealt : AreMembers 1024 members → IsPermutation members (dealt_to members parts parts)
  all_dealt rise =
      let From : List ℕ → Type 0 = λ xs. IsPermutation xs (dealt_to members parts parts) in
      let To : List ℕ → Type 0 = λ ys. IsPermutation (numbers_below (has members) 1024) ys in
      subst From (all_below members rise) (subst To (are_first parts) (all_to 1024))

  -- a member goes to the next part, or to the first one after the last
  turn : (x : ℕ) → ((x + 1) / parts ≡ x / parts) × ((x + 1) % parts ≡ x % parts + 1) ⊎ ((x + 1) / parts ≡ x / parts + 1) × ((x + 1) % parts ≡ 0) × (x % parts + 1 ≡ parts)
  turn x =
      let whole = div-add-mod' x parts in
      let low = mod-lt x some in
      let more : (x / parts + 1) * parts ≡ x / parts * parts + parts = omega (arith, add-mul (x / parts) 1 parts) in
      let twice : (x / parts + 1 + 1) * parts ≡ x / parts * parts + parts + parts = omega (arith, more, add-mul (x / parts + 1) 1 parts) in
      let next : (x + 1) % parts ≡ (x % parts + 1) % parts = rw (add-one x, add-one (x % parts)) (suc-mod x parts) in
      elim (cases_lt (x % parts + 1) parts) [
        | inl less ↦ inl (div-eq_of_lt-le parts (omega (arith, whole)) (omega (arith, whole, more, less)), next ∙ mod-eq_of_lt less)
        | inr last ↦ inr (div-eq_of_lt-le parts (omega (arith, whole, more, last)) (omega (arith, whole, more, twice, low)), next ∙ wraps (omega (arith, last, low)), omega (arith, last, low))
      ] where
        wraps : x % parts + 1 ≡ parts → (x % parts + 1) % parts ≡ 0
        wraps e = rw e (mod_self parts)

  shared_more : (part x : ℕ) → part < parts → share (x + 1) parts part ≡ (if x % parts == part then share x parts part + 1 else share x parts part)
  shared_more part x inside = elim (turn x) [
    | inl on ↦ rw (on.0, on.1) (elim (cases_order (x % parts) part) [
      | inl here ↦ rw (eq-eqb (x % parts) part here, lt-ltb part (x % parts + 1) (omega (arith, here)), le-ltb part (x % parts) (omega (arith, here))) (omega arith)
      | inr (inl low) ↦ rw (ne_eqb (x % parts) part (λ e. omega (arith, e, low)), le-ltb part (x % parts + 1) (omega (arith, low)), le-ltb part (x % parts) (omega (arith, low))) refl
      | inr (inr high) ↦ rw (ne_eqb (x % parts) part (λ e. omega (arith, e, high)), lt-ltb part (x % parts + 1) (omega (arith, high)), lt-ltb part (x % parts) high) refl
    ])
    | inr round ↦ rw (round.0, round.1, le-ltb part 0 (omega arith)) (elim (cases_eq (x % parts) part) [
      | inl here ↦ rw (eq-eqb (x % parts) part here, le-ltb part (x % parts) (omega (arith, here))) (omega arith)
      | inr other ↦ rw (ne_eqb (x % parts) part other, lt-ltb part (x % parts) (omega (arith, other, round.2, inside))) (omega arith)
    ])
  ]

  shared_none : (part : ℕ) → share 0 parts part ≡ 0
  shared_none part = rw (div-eq_of_lt some, mod-eq_of_lt some, le-ltb part 0 (omega arith)) refl

  -- how many of them a part has
  shared : (part : ℕ) → part < parts → (n : ℕ) → length (dealt part n) ≡ share (place members n) parts part
  shared part inside zero = ap length (none_below (is_dealt members parts part)) ∙ sym (ap (λ xs. share (length xs) parts part) (none_below (has members)) ∙ shared_none part)
  shared part inside (suc n) = rw (← add-one n) (elim (cases_Bool (has members n)) [
    | inl so ↦ elim (cases_eq (place members n % parts) part) [
      | inl here ↦ rw (its_own n part so here, more_placed members n so) (length-append (dealt part n) (n ∷ []) ∙ ap (λ k. k + 1) (shared part inside n)
          ∙ sym (shared_more part (place members n) inside ∙ rw (eq-eqb (place members n % parts) part here) refl))
      | inr other ↦ rw (others n part other, more_placed members n so) (shared part inside n ∙ sym (shared_more part (place members n) inside ∙ rw (ne_eqb (place members n % parts) part other) refl))
    ]
    | inr not ↦ rw (fails (is_dealt members parts part) n (rw not refl), not_placed members n not) (shared part inside n)
  ])

  pub all_shared : AreMembers 1024 members → (part : ℕ) → part < parts → length (deal members parts part) ≡ share (length members) parts part
  all_shared rise part inside = shared part inside 1024 ∙ ap (λ xs. share (length xs) parts part) (all_below members rise)
