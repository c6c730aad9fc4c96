-- The members of a set of small numbers, which are the numbers whose bits are set.
use Rattle.std.proofs.Common.{◌≡◌, ◌∙◌, ◌+◌, ◌-◌, ◌*◌, ◌/◌, ◌%◌, ◌^◌, ◌≤◌, ◌<◌, ◌==◌, ◌&&◌, ◌||◌, ◌++◌, ℕ, zero, suc, Bool, true, false, not, List, [], ◌∷◌, arith, refl, sym, ap, length, nat_lt, inl, inr, get_or, set, bit_and, bit_or}
use Rattle.std.proofs.lemmas.Bool.{cases_Bool, cases_lt, cases_eq, eq-eqb, ne_eqb, lt-ltb, le-ltb}
use Rattle.std.proofs.lemmas.List.{get_or-set_same, get_or-set_other}
use Rattle.std.proofs.lemmas.Nat.Bits.{bit_at_set_same, bit_at_set_other, bit_at_clear_same, bit_at_clear_other}
use Rattle.std.specs.Prelude.{replicate}
use Rattle.std.proofs.lemmas.List.{get_or-replicate, get_or_past, length-replicate, length-append}
use Rattle.std.proofs.lemmas.Nat.{mod-pow-add, ones_cat, pow_pos, shr-shr, shr_le}
use Rattle.std.proofs.Math.Nat.{mod-lt, mod-eq_of_lt}
use Rattle.std.proofs.lemmas.Nat.Bits.{bit_at-zero, bit_at-lt, bit_at-trailing_zeros, bit_at_above}
use lib.Count.{ones}
use Rattle.std.specs.Int.{bit_at, bit_not, trailing_zeros, w64}
use Rattle.table_sets.specs.Sets.{has, bit_of, numbers_below, Rising, AreMembers, IsLeastFrom}

or_assoc : (a b c : Bool) → (a || b || c) ≡ (a || (b || c))
or_assoc true b c = refl
or_assoc false b c = refl

or_false : (a : Bool) → (a || false) ≡ a
or_false true = refl
or_false false = refl

or_true : (a : Bool) → (a || true) ≡ true
or_true true = refl
or_true false = refl

and_true : (a : Bool) → (a && true) ≡ a
and_true true = refl
and_true false = refl

and_false : (a : Bool) → (a && false) ≡ false
and_false true = refl
and_false false = refl

has-push : (xs : List ℕ) (x c : ℕ) → has (xs ++ x ∷ []) c ≡ (has xs c || x == c)
has-push [] x c = elim (cases_Bool (x == c)) [ inl so ↦ rw so refl | inr not ↦ rw not refl ]
has-push (y ∷ ys) x c = ap (λ b. (y == c) || b) (has-push ys x c) ∙ sym (or_assoc (y == c) (has ys c) (x == c))

-- a number is a member where it is below the end and passes
pub has-numbers : (p : ℕ → Bool) (n c : ℕ) → has (numbers_below p n) c ≡ (nat_lt c n && p c)
unfolding numbers_below
has-numbers p zero c = rw (le-ltb c 0 (omega arith)) refl
has-numbers p (suc n) c = elim (cases_eq n c) [
  | inl e ↦ rw (← e, lt-ltb n (suc n) (omega arith)) (elim (cases_Bool (p n)) [
    | inl so ↦ rw (so, has-push (numbers_below p n) n n, has-numbers p n n, le-ltb n n (omega arith), eq-eqb n n refl) refl
    | inr not ↦ rw (not, has-numbers p n n, le-ltb n n (omega arith)) refl
  ])
  | inr ne ↦
      let same : nat_lt c (suc n) ≡ nat_lt c n = elim (cases_lt c n) [
        | inl low ↦ lt-ltb c (suc n) (omega arith) ∙ sym (lt-ltb c n low)
        | inr high ↦ le-ltb c (suc n) (omega arith) ∙ sym (le-ltb c n high)
      ] in
      rw same (elim (cases_Bool (p n)) [
        | inl so ↦ rw (so, has-push (numbers_below p n) n c, ne_eqb n c ne, or_false (has (numbers_below p n) c)) (has-numbers p n c)
        | inr not ↦ rw not (has-numbers p n c)
      ])
]

-- numbers with one quotient and one remainder are one
one_place : (c x : ℕ) → x / 64 ≡ c / 64 → x % 64 ≡ c % 64 → x ≡ c
one_place c x q r = omega (arith, q, r)

low : (c : ℕ) → c % 64 < 64
low c = omega arith

apart : (c x : ℕ) → (x / 64 ≡ c / 64 → ⊥) → (x == c) ≡ false
apart c x ne = ne_eqb x c (λ e. ne (ap (λ n. n / 64) e))

apart-low : (c x : ℕ) → (x % 64 ≡ c % 64 → ⊥) → (x == c) ≡ false
apart-low c x ne = ne_eqb x c (λ e. ne (ap (λ n. n % 64) e))

pub bit_of-insert : (words : List ℕ) (c x : ℕ) → c / 64 < length words
    → bit_of (set words (c / 64) (bit_or (get_or words (c / 64) 0) (1 * 2 ^ (c % 64) % 2 ^ 64))) x ≡ (bit_of words x || x == c)
bit_of-insert words c x inside =
    let old = get_or words (c / 64) 0 in
    let new = bit_or old (1 * 2 ^ (c % 64) % 2 ^ 64) in
    elim (cases_eq (x / 64) (c / 64)) [
      | inl q ↦ rw (q, get_or-set_same words (c / 64) new 0 inside) (elim (cases_eq (x % 64) (c % 64)) [
        | inl r ↦ rw (r, bit_at_set_same w64 old (c % 64) (low c), eq-eqb x c (one_place c x q r), or_true (bit_at old (c % 64) == 1)) refl
        | inr ne ↦ rw (bit_at_set_other w64 old (c % 64) (low c) (x % 64) ne, apart-low c x ne, or_false (bit_at old (x % 64) == 1)) refl
      ])
      | inr ne ↦ rw (get_or-set_other words (c / 64) (x / 64) new 0 ne, apart c x ne, or_false (bit_of words x)) refl
    ]

pub bit_of-remove : (words : List ℕ) (c x : ℕ) → c / 64 < length words
    → bit_of (set words (c / 64) (bit_and (get_or words (c / 64) 0) (2 ^ 64 - 1 - 1 * 2 ^ (c % 64) % 2 ^ 64))) x ≡ (bit_of words x && not (x == c))
bit_of-remove words c x inside =
    let old = get_or words (c / 64) 0 in
    let new = bit_and old (bit_not w64 (1 * 2 ^ (c % 64) % 2 ^ 64)) in
    elim (cases_eq (x / 64) (c / 64)) [
      | inl q ↦ rw (q, get_or-set_same words (c / 64) new 0 inside) (elim (cases_eq (x % 64) (c % 64)) [
        | inl r ↦ rw (r, bit_at_clear_same w64 old (c % 64) (low c), eq-eqb x c (one_place c x q r), and_false (bit_at old (c % 64) == 1)) refl
        | inr ne ↦ rw (bit_at_clear_other w64 old (c % 64) (low c) (x % 64) (low x) ne, apart-low c x ne, and_true (bit_at old (x % 64) == 1)) refl
      ])
      | inr ne ↦ rw (get_or-set_other words (c / 64) (x / 64) new 0 ne, apart c x ne, and_true (bit_of words x)) refl
    ]

or_below : (a : Bool) (c x end : ℕ) → c < end → (nat_lt x end && (a || x == c)) ≡ ((nat_lt x end && a) || x == c)
or_below a c x end below = elim (cases_lt x end) [
  | inl low ↦ rw (lt-ltb x end low) refl
  | inr high ↦ rw (le-ltb x end high, ne_eqb x c (λ e. omega (arith, e))) refl
]

and_assoc : (a b c : Bool) → (a && (b && c)) ≡ (a && b && c)
and_assoc true b c = refl
and_assoc false b c = refl

-- the members after a number was put in, and after one was taken out
pub has-insert : (words : List ℕ) (end c x : ℕ) → c < end → c / 64 < length words
    → has (numbers_below (bit_of (set words (c / 64) (bit_or (get_or words (c / 64) 0) (1 * 2 ^ (c % 64) % 2 ^ 64)))) end) x
    ≡ (has (numbers_below (bit_of words) end) x || x == c)
has-insert words end c x below inside =
    rw (has-numbers (bit_of (set words (c / 64) (bit_or (get_or words (c / 64) 0) (1 * 2 ^ (c % 64) % 2 ^ 64)))) end x, bit_of-insert words c x inside, has-numbers (bit_of words) end x)
    (or_below (bit_of words x) c x end below)

pub has-remove : (words : List ℕ) (end c x : ℕ) → c / 64 < length words
    → has (numbers_below (bit_of (set words (c / 64) (bit_and (get_or words (c / 64) 0) (2 ^ 64 - 1 - 1 * 2 ^ (c % 64) % 2 ^ 64)))) end) x
    ≡ (has (numbers_below (bit_of words) end) x && not (x == c))
has-remove words end c x inside =
    rw (has-numbers (bit_of (set words (c / 64) (bit_and (get_or words (c / 64) 0) (2 ^ 64 - 1 - 1 * 2 ^ (c % 64) % 2 ^ 64)))) end x, bit_of-remove words c x inside, has-numbers (bit_of words) end x)
    (and_assoc (nat_lt x end) (bit_of words x) (not (x == c)))

-- without a number that passes there is no member
pub numbers-none : (p : ℕ → Bool) (n : ℕ) → ((c : ℕ) → p c ≡ false) → numbers_below p n ≡ []
unfolding numbers_below
numbers-none p zero none = refl
numbers-none p (suc n) none = rw (none n) (numbers-none p n none)

-- numbers below an end rise
rising-push : (start : ℕ) (xs : List ℕ) (end : ℕ) → Rising start xs end → Rising start (xs ++ end ∷ []) (end + 1)
rising-push start [] end up = (up, omega arith)
rising-push start (x ∷ xs) end up = (up.0, rising-push (x + 1) xs end up.1)

rising-up : (start : ℕ) (xs : List ℕ) (end : ℕ) → Rising start xs end → Rising start xs (end + 1)
rising-up start [] end up = omega (arith, up)
rising-up start (x ∷ xs) end up = (up.0, rising-up (x + 1) xs end up.1)

pub numbers-rise : (p : ℕ → Bool) (n : ℕ) → AreMembers n (numbers_below p n)
unfolding numbers_below
numbers-rise p zero = omega arith
numbers-rise p (suc n) =
    let e : n + 1 ≡ suc n = omega arith in
    elim (cases_Bool (p n)) [
      | inl so ↦ rw (so, ← e) (rising-push 0 (numbers_below p n) n (numbers-rise p n))
      | inr not ↦ rw (not, ← e) (rising-up 0 (numbers_below p n) n (numbers-rise p n))
    ]

-- a word of zeros has no bit, also behind the last word
zero_word : (k i : ℕ) → ◌≡◌ {A = ℕ} (get_or (replicate k 0) i 0) 0
zero_word k i = elim (cases_lt i k) [
  | inl inside ↦ get_or-replicate k i 0 0 inside
  | inr past ↦ get_or_past (replicate k 0) i 0 (omega (arith, length-replicate {A = ℕ} k 0))
]

pub no_bits : (k c : ℕ) → bit_of (replicate k 0) c ≡ false
no_bits k c = rw (zero_word k (c / 64), bit_at-zero (c % 64)) refl

-- so many of a word's lowest bits are set
count-bits : (p : ℕ → Bool) (base word k : ℕ) → ((j : ℕ) → j < k → p (base + j) ≡ (bit_at word j == 1))
    → length (numbers_below p (base + k)) ≡ length (numbers_below p base) + ones (word % 2 ^ k)
unfolding numbers_below ones
count-bits p base word zero bits =
    let e : base + 0 ≡ base = omega arith in
    let m : word % 2 ^ 0 ≡ 0 = omega arith in
    rw (e, m) (omega arith)
count-bits p base word (suc k) bits =
    let e : base + suc k ≡ suc (base + k) = omega arith in
    let one_more : 1 + k ≡ suc k = omega arith in
    let m : word % 2 ^ suc k ≡ bit_at word k * 2 ^ k + word % 2 ^ k = rw one_more at (mod-pow-add word 1 k) in
    let before = count-bits p base word k (λ j low. bits j (omega (arith, low))) in
    let split = ones_cat k (bit_at word k) (word % 2 ^ k) (mod-lt word {m = 2 ^ k} (pow_pos k)) in
    rw (e, m, split, bits k (omega arith)) (elim (cases_eq (bit_at word k) 1) [
      | inl so ↦ rw so (omega (arith, before, length-append (numbers_below p (base + k)) ((base + k) ∷ [])))
      | inr not ↦ let none : bit_at word k ≡ 0 = omega (arith, not, bit_at-lt word k) in rw none (omega (arith, before))
    ])

-- the members of one word more
pub count-word : (words : List ℕ) (i : ℕ) → get_or words i 0 < 2 ^ 64
    → length (numbers_below (bit_of words) (64 * (i + 1))) ≡ length (numbers_below (bit_of words) (64 * i)) + ones (get_or words i 0)
count-word words i small =
    let e : 64 * i + 64 ≡ 64 * (i + 1) = omega arith in
    let m : get_or words i 0 % 2 ^ 64 ≡ get_or words i 0 = mod-eq_of_lt small in
    rw (← e) (rw m at (count-bits (bit_of words) (64 * i) (get_or words i 0) 64 (λ (j : ℕ) (low : j < 64).
    (let q : (64 * i + j) / 64 ≡ i = omega arith in
    let r : (64 * i + j) % 64 ≡ j = omega arith in
    rw (q, r) refl))))

-- the members that one word gives
count-first : (p : ℕ → Bool) (word k : ℕ) → ((j : ℕ) → j < k → p j ≡ (bit_at word j == 1)) → length (numbers_below p k) ≡ ones (word % 2 ^ k)
unfolding numbers_below
count-first p word k bits =
    let at : (j : ℕ) → 0 + j ≡ j = λ j. omega arith in
    let counted = count-bits p 0 word k (λ j low. ap p (at j) ∙ bits j low) in
    omega (arith, rw (at k) at counted)

pub count-column : (words : List ℕ) → length (numbers_below (bit_of words) 16) ≡ ones (get_or words 0 0 % 65536)
count-column words = count-first (bit_of words) (get_or words 0 0) 16 (λ (j : ℕ) (low : j < 16).
    (let q : j / 64 ≡ 0 = omega arith in
    let r : j % 64 ≡ j = omega arith in
    rw (q, r) refl))

-- the bits of a shifted word
shifted : (word k j : ℕ) → bit_at (word / 2 ^ k) j ≡ bit_at word (k + j)
shifted word k j = rw (shr-shr word k j) refl

-- a word that is 0 after a shift has no bit from there on
pub none-left : (words : List ℕ) (from x : ℕ) → get_or words (from / 64) 0 / 2 ^ (from % 64) ≡ 0 → from ≤ x → x < (from / 64 + 1) * 64 → bit_of words x ≡ false
none-left words from x zero_left after before =
    let q : x / 64 ≡ from / 64 = omega (arith, after, before) in
    let r : x % 64 ≡ from % 64 + (x - from) = omega (arith, after, before) in
    rw (q, r, ← shifted (get_or words (from / 64) 0) (from % 64) (x - from), zero_left, bit_at-zero (x - from)) refl

-- the lowest bit after a shift
pub first-left : (words : List ℕ) (from : ℕ) → get_or words (from / 64) 0 < 2 ^ 64 → 0 < get_or words (from / 64) 0 / 2 ^ (from % 64)
    → (let place = trailing_zeros w64 (get_or words (from / 64) 0 / 2 ^ (from % 64)) in
    (from + place < (from / 64 + 1) * 64) × (bit_of words (from + place) ≡ true) × ((x : ℕ) → from ≤ x → x < from + place → bit_of words x ≡ false))
first-left words from small some =
    let word = get_or words (from / 64) 0 in
    let rest = word / 2 ^ (from % 64) in
    let t = trailing_zeros w64 rest in
    let found = bit_at-trailing_zeros w64 rest some (omega (arith, shr_le word (from % 64), small)) in
    let in_word : from % 64 + t < 64 = elim (cases_lt (from % 64 + t) 64) [
      | inl less ↦ less
      | inr past ↦ (let e : bit_at word (from % 64 + t) ≡ 0 = bit_at_above word 64 (from % 64 + t) small past in
          absurd (omega (arith, e, found.1, shifted word (from % 64) t)))
    ] in
    let q : (from + t) / 64 ≡ from / 64 = omega (arith, in_word) in
    let r : (from + t) % 64 ≡ from % 64 + t = omega (arith, in_word) in (
      omega (arith, in_word),
      rw (q, r, ← shifted word (from % 64) t, found.1) refl,
      λ x after before.
          (let qx : x / 64 ≡ from / 64 = omega (arith, after, before, in_word) in
          let rx : x % 64 ≡ from % 64 + (x - from) = omega (arith, after, before, in_word) in
          rw (qx, rx, ← shifted word (from % 64) (x - from), found.2 (x - from) (omega (arith, after, before))) refl),
    )

-- no number from a start up to the end has its bit set, so there is no member
pub none-from : (words : List ℕ) (start end x : ℕ) → ((y : ℕ) → start ≤ y → y < end → bit_of words y ≡ false) → start ≤ x → has (numbers_below (bit_of words) end) x ≡ false
none-from words start end x none after = rw (has-numbers (bit_of words) end x) (elim (cases_lt x end) [
  | inl below ↦ rw (none x after below) (and_false (nat_lt x end))
  | inr past ↦ rw (le-ltb x end past) refl
])

pub least-from : (words : List ℕ) (start end m : ℕ) → start ≤ m → m < end → bit_of words m ≡ true → ((x : ℕ) → start ≤ x → x < m → bit_of words x ≡ false)
    → IsLeastFrom (numbers_below (bit_of words) end) start m
least-from words start end m after below here none = record {
  from = after;
  there = rw (has-numbers (bit_of words) end m, lt-ltb m end below) here;
  least = λ x low high. rw (has-numbers (bit_of words) end x, none x low high) (and_false (nat_lt x end));
}
