-- Counting below a bound: what passes more is counted more, once more, or but for one; and who passes.
use Rattle.std.proofs.Common.{◌≡◌, ◌<◌, ◌≤◌, ◌+◌, ◌==◌, ◌||◌, not, ℕ, zero, suc, Bool, true, false, if◌then◌else◌, Option, None, Some, is_some, refl, sym, ◌∙◌, ap, arith}
use Rattle.std.proofs.lemmas.Bool.Decides.{nat_tests}
use Rattle.scan_story.specs.Counting.{any_below, count_below, is_number}
use Rattle.story_laws.proofs.Bools.{either, if_not, not_both, not_false, not_true, or_left, or_right, other_number, same_number}

le_step : (t : Bool) (x y : ℕ) (a : Bool) → (t ≡ true → a ≡ true) → x ≤ y → (if t then x + 1 else x) ≤ (if a then y + 1 else y)
le_step true x y true f le = omega arith
le_step true x y false f le = let bad = f refl in absurd cc
le_step false x y true f le = omega arith
le_step false x y false f le = le

pub count_mono : (p q : ℕ → Bool) (n : ℕ) → ((k : ℕ) → k < n → p k ≡ true → q k ≡ true) → count_below p n ≤ count_below q n
count_mono p q zero f = omega arith
count_mono p q (suc n) f = le_step (p n) (count_below p n) (count_below q n) (q n) (f n (omega arith)) (count_mono p q n (λ k lt. f k (omega arith)))

pub count_same : (p q : ℕ → Bool) (n : ℕ) → ((k : ℕ) → p k ≡ q k) → count_below p n ≡ count_below q n
count_same p q zero f = refl
count_same p q (suc n) f = let e = f n in let r = count_same p q n f in rw (e, r) refl

grow_here : (a b : Bool) (x y : ℕ) → a ≡ false → b ≡ true → x ≤ y → (if a then x + 1 else x) + 1 ≤ (if b then y + 1 else y)
grow_here true b x y e f le = absurd cc
grow_here false true x y e f le = omega arith
grow_here false false x y e f le = absurd cc

grow_step : (a b : Bool) (x y : ℕ) → (a ≡ true → b ≡ true) → x + 1 ≤ y → (if a then x + 1 else x) + 1 ≤ (if b then y + 1 else y)
grow_step true true x y f le = omega arith
grow_step true false x y f le = let bad = f refl in absurd cc
grow_step false true x y f le = omega arith
grow_step false false x y f le = le

pub last_or_below : (a b : ℕ) → a < suc b → (a == b) ≡ false → a < b
last_or_below a b l e = grind (arith, nat_tests)

-- j passes q and not p, and all that pass p pass q
pub count_grows : (p q : ℕ → Bool) (n j : ℕ) → ((k : ℕ) → k < n → p k ≡ true → q k ≡ true) → j < n → p j ≡ false → q j ≡ true → count_below p n + 1 ≤ count_below q n
count_grows p q zero j f lt off on = absurd (omega arith)
count_grows p q (suc n) j f lt off on =
    elim (j == n) as (λ b. (j == n) ≡ b → count_below p (suc n) + 1 ≤ count_below q (suc n)) [
      | true ↦ λ t. grow_here (p n) (q n) (count_below p n) (count_below q n) (ap p (sym (same_number j n t)) ∙ off) (ap q (sym (same_number j n t)) ∙ on) (count_mono p q n (λ k l. f k (omega arith)))
      | false ↦ λ t. grow_step (p n) (q n) (count_below p n) (count_below q n) (f n (omega arith)) (count_grows p q n j (λ k l. f k (omega arith)) (last_or_below j n lt t) off on)
    ] refl

but_here : (a b : Bool) (x y : ℕ) → x ≤ y → (if a then x + 1 else x) ≤ (if b then y + 1 else y) + 1
but_here true true x y le = omega arith
but_here true false x y le = omega arith
but_here false true x y le = omega arith
but_here false false x y le = omega arith

but_step : (a b : Bool) (x y : ℕ) → (a ≡ true → b ≡ true) → x ≤ y + 1 → (if a then x + 1 else x) ≤ (if b then y + 1 else y) + 1
but_step true true x y f le = omega arith
but_step true false x y f le = let bad = f refl in absurd cc
but_step false true x y f le = omega arith
but_step false false x y f le = le

past : (a b k : ℕ) → (a == b) ≡ true → k < b → (a == k) ≡ false
past a b k e l = grind (arith, nat_tests)

-- all that pass p pass q, but perhaps c
pub count_but : (p q : ℕ → Bool) (c n : ℕ) → ((k : ℕ) → (c == k) ≡ false → p k ≡ true → q k ≡ true) → count_below p n ≤ count_below q n + 1
count_but p q c zero f = omega arith
count_but p q c (suc n) f =
    elim (c == n) as (λ b. (c == n) ≡ b → count_below p (suc n) ≤ count_below q (suc n) + 1) [
      | true ↦ λ t. but_here (p n) (q n) (count_below p n) (count_below q n) (count_mono p q n (λ k l. f k (past c n k t l)))
      | false ↦ λ t. but_step (p n) (q n) (count_below p n) (count_below q n) (f n t) (count_but p q c n f)
    ] refl

zero_step : (a : Bool) (x : ℕ) → (if a then x + 1 else x) ≡ 0 → (a ≡ false) × (x ≡ 0)
zero_step true x e = absurd (omega arith)
zero_step false x e = (refl, e)

-- where the count is 0, none passes
pub count_zero : (p : ℕ → Bool) (n j : ℕ) → count_below p n ≡ 0 → j < n → p j ≡ false
count_zero p zero j e lt = absurd (omega arith)
count_zero p (suc n) j e lt =
    let o = zero_step (p n) (count_below p n) e in
    elim (j == n) as (λ b. (j == n) ≡ b → p j ≡ false) [
      | true ↦ λ t. ap p (same_number j n t) ∙ o.0
      | false ↦ λ t. count_zero p n j o.1 (last_or_below j n lt t)
    ] refl

pub count_nothing : (n : ℕ) → count_below (λ c. false) n ≡ 0
count_nothing zero = refl
count_nothing (suc n) = count_nothing n

or_step : (x y z : ℕ) → z ≤ x + y → (a b : Bool) → (if a || b then z + 1 else z) ≤ (if a then x + 1 else x) + (if b then y + 1 else y)
or_step x y z le true true = omega arith
or_step x y z le true false = omega arith
or_step x y z le false true = omega arith
or_step x y z le false false = omega arith

pub count_or : (p q : ℕ → Bool) (n : ℕ) → count_below (λ x. p x || q x) n ≤ count_below p n + count_below q n
count_or p q zero = omega arith
count_or p q (suc n) = or_step (count_below p n) (count_below q n) (count_below (λ x. p x || q x) n) (count_or p q n) (p n) (q n)

-- Where more pass one test than another

abbrev pub Found : (ℕ → Bool) → (ℕ → Bool) → ℕ → Type 0
Found p q n = (x : ℕ) × (x < n) × (p x ≡ true) × (q x ≡ false)

find_step : (p q : ℕ → Bool) (n : ℕ) → (count_below q n < count_below p n → Found p q n) → (a b : Bool) → p n ≡ a → q n ≡ b
    → (if b then count_below q n + 1 else count_below q n) < (if a then count_below p n + 1 else count_below p n) → Found p q (suc n)
find_step p q n before true false e f lt = (n, omega arith, e, f)
find_step p q n before true true e f lt = (let r = before (omega arith) in (r.0, omega (arith, r.1), r.2, r.3))
find_step p q n before false true e f lt = (let r = before (omega arith) in (r.0, omega (arith, r.1), r.2, r.3))
find_step p q n before false false e f lt = (let r = before (omega arith) in (r.0, omega (arith, r.1), r.2, r.3))

-- some number passes p and not q
pub count_find : (p q : ℕ → Bool) (n : ℕ) → count_below q n < count_below p n → Found p q n
count_find p q zero lt = absurd (omega arith)
count_find p q (suc n) lt = find_step p q n (count_find p q n) (p n) (q n) refl refl lt

-- One number more

more_past : (t : ℕ → Bool) (v n : ℕ) → n ≤ v → count_below (λ c. (v == c) || t c) n ≡ count_below t n
more_past t v zero le = refl
more_past t v (suc n) le = step (count_below (λ c. (v == c) || t c) n) (count_below t n) (more_past t v n (omega arith))
  where
    step : (x y : ℕ) → x ≡ y → (if (v == n) || t n then x + 1 else x) ≡ (if t n then y + 1 else y)
    step x y e = let ne : (v == n) ≡ false = grind (arith, nat_tests) in rw (ne, e) refl

-- v passes besides
pub count_more : (t : ℕ → Bool) (v n : ℕ) → v < n → t v ≡ false → count_below (λ c. (v == c) || t c) n ≡ count_below t n + 1
count_more t v zero lt e = absurd (omega arith)
count_more t v (suc n) lt e =
    elim (v == n) as (λ b. (v == n) ≡ b → count_below (λ c. (v == c) || t c) (suc n) ≡ count_below t (suc n) + 1) [
      | true ↦ λ s. here (v == n) (t n) (count_below (λ c. (v == c) || t c) n) (count_below t n) s (ap t (sym (same_number v n s)) ∙ e) (more_past t v n (omega (arith, same_number v n s)))
      | false ↦ λ s. past (v == n) (t n) (count_below (λ c. (v == c) || t c) n) (count_below t n) s (count_more t v n (last_or_below v n lt s) e)
    ] refl
  where
    here : (a b : Bool) (x y : ℕ) → a ≡ true → b ≡ false → x ≡ y → (if a || b then x + 1 else x) ≡ (if b then y + 1 else y) + 1
    here true true x y e f r = absurd cc
    here true false x y e f r = omega arith
    here false b x y e f r = absurd cc

    past : (a b : Bool) (x y : ℕ) → a ≡ false → x ≡ y + 1 → (if a || b then x + 1 else x) ≡ (if b then y + 1 else y) + 1
    past a true x y e f = rw e (omega arith)
    past a false x y e f = rw e f

-- one number is counted once at most
pub count_one : (v n : ℕ) → count_below (λ c. v == c) n ≤ 1
count_one v n = omega (arith, count_but (λ c. v == c) (λ c. false) v n (λ k ne e. absurd (not_both (v == k) e ne)), count_nothing n)

count_option : (o : Option ℕ) (n : ℕ) → count_below (λ c. is_number c o) n ≤ 1
count_option None n = omega (arith, count_nothing n)
count_option (Some v) n = count_one v n

-- Some number below a bound

pub any_at : (p : ℕ → Bool) (n j : ℕ) → j < n → p j ≡ true → any_below p n ≡ true
any_at p zero j lt e = absurd (omega arith)
any_at p (suc n) j lt e =
    elim (j == n) as (λ b. (j == n) ≡ b → any_below p (suc n) ≡ true) [
      | true ↦ λ t. or_left (p n) (any_below p n) (ap p (sym (same_number j n t)) ∙ e)
      | false ↦ λ t. or_right (p n) (any_below p n) (any_at p n j (last_or_below j n lt t) e)
    ] refl

pub any_find : (p : ℕ → Bool) (n : ℕ) → any_below p n ≡ true → (k : ℕ) × (k < n) × (p k ≡ true)
any_find p zero e = absurd cc
any_find p (suc n) e = either (p n) (any_below p n) e (λ t. (n, omega arith, t)) (λ t. (let r = any_find p n t in (r.0, omega (arith, r.1), r.2)))

pub any_nowhere : (p : ℕ → Bool) (n : ℕ) → ((k : ℕ) → k < n → p k ≡ false) → any_below p n ≡ false
any_nowhere p n f = if_not (any_below p n) (λ e. (let r = any_find p n e in not_both (p r.0) r.2 (f r.0 r.1)))

pub any_none_at : (p : ℕ → Bool) (n j : ℕ) → any_below p n ≡ false → j < n → p j ≡ false
any_none_at p n j e lt = if_not (p j) (λ t. not_both (any_below p n) (any_at p n j lt t) e)

-- k options name at most k numbers
pub count_options : (g : ℕ → Option ℕ) (n k : ℕ) → count_below (λ c. any_below (λ w. is_number c (g w)) k) n ≤ k
count_options g n zero = omega (arith, count_nothing n)
count_options g n (suc k) = omega (arith, count_or (λ c. is_number c (g k)) (λ c. any_below (λ w. is_number c (g w)) k) n, count_option (g k) n, count_options g n k)

unnamed : (c : ℕ) (o : Option ℕ) → (o ≡ Some c → ⊥) → is_number c o ≡ false
unnamed c None f = refl
unnamed c (Some p) f = other_number p c (λ s. f (ap Some s))

-- as many numbers are named by options as there are options that name one, where no number is named twice
pub count_named : (g : ℕ → Option ℕ) (n k : ℕ) → ((f p : ℕ) → f < k → g f ≡ Some p → p < n) → ((f e p : ℕ) → f < k → e < k → g f ≡ Some p → g e ≡ Some p → f ≡ e)
    → count_below (λ f. is_some (g f)) k ≡ count_below (λ c. any_below (λ f. is_number c (g f)) k) n
count_named g n zero small apart = sym (count_nothing n)
count_named g n (suc k) small apart = step (g k) refl (count_named g n k (λ f p lt. small f p (omega arith)) (λ f e p lt gt. apart f e p (omega arith) (omega arith)))
  where
    step : (o : Option ℕ) → g k ≡ o → count_below (λ f. is_some (g f)) k ≡ count_below (λ c. any_below (λ f. is_number c (g f)) k) n
        → (if is_some o then count_below (λ f. is_some (g f)) k + 1 else count_below (λ f. is_some (g f)) k) ≡ count_below (λ c. is_number c o || any_below (λ f. is_number c (g f)) k) n
    step None e before = before
    step (Some v) e before =
        ap (λ m. m + 1) before ∙ sym (count_more (λ c. any_below (λ f. is_number c (g f)) k) v n (small k v (omega arith) e)
        (any_nowhere (λ f. is_number v (g f)) k (λ f lt. unnamed v (g f) (λ same. omega (arith, apart f k v (omega arith) (omega arith) same e)))))

-- where none passes the count is 0
pub count_off : (p : ℕ → Bool) (n : ℕ) → any_below p n ≡ false → count_below p n ≡ 0
count_off p n off = omega (arith, count_mono p (λ k. false) n (λ k lt t. absurd (not_both (p k) t (any_none_at p n k off lt))), count_nothing n)

-- and elsewhere some number passes
pub any_counted : (p : ℕ → Bool) (n : ℕ) → 0 < count_below p n → any_below p n ≡ true
any_counted p n some = not_true (any_below p n) (if_not (not (any_below p n)) (λ t. omega (arith, some, count_off p n (not_false (any_below p n) t))))
