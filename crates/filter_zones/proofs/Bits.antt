-- Words whose bits are those of chunks.
use Rattle.std.proofs.Common.{◌≡◌, ◌<◌, ◌+◌, ◌-◌, ◌==◌, ◌^◌, ◌*◌, ◌%◌, ◌/◌, ℕ, zero, suc, Bool, true, false, bit_and, bit_or, refl, sym, ap, ◌∙◌, arith, inl, inr}
use Rattle.std.specs.Prelude.{◌&&◌, ◌||◌, if◌then◌else◌, nat_lt, not, min, max}
use Rattle.std.specs.Int.{bit_at, bit_not, w64}
use Rattle.std.proofs.lemmas.Bool.{cases_eq, cases_order, and_parts, eq-eqb, ne_eqb, lt-ltb, le-ltb}
use Rattle.std.proofs.lemmas.Nat.Bits.{bit_at_and, bit_at_or, bit_at-lt, bit_at-zero, bit_at_lowest, bit_at_above, bit_at_cat_low, bit_at_cat_high, bit_at_not, bit_at_set_same, bit_at_set_other}
use Rattle.filter_zones.specs.declared.masks.Masks.{Masks}
use Rattle.filter_zones.specs.declared.truth.Truth.TheVariants as truth
use Rattle.filter_zones.specs.declared.truth_set.TruthSet.{TruthSet}
use Rattle.filter_zones.specs.Truth.{greatest, least}
use Rattle.filter_zones.specs.Possible.{is_pair, opposites, pairs}
use Rattle.filter_zones.specs.Masks.{is_set, truths_at, no_truths}

pub and_set : (a b k : ℕ) → is_set (bit_and a b) k ≡ (is_set a k && is_set b k)
and_set a b k = rw (bit_at_and a b k) (by (bit_at a k) (bit_at b k) (bit_at-lt a k) (bit_at-lt b k)) where
  by : (x y : ℕ) → x < 2 → y < 2 → (min x y == 1) ≡ ((x == 1) && (y == 1))
  by zero zero l m = refl
  by zero (suc zero) l m = refl
  by zero (suc (suc y)) l m = absurd (omega (arith, m))
  by (suc zero) zero l m = refl
  by (suc zero) (suc zero) l m = refl
  by (suc zero) (suc (suc y)) l m = absurd (omega (arith, m))
  by (suc (suc x)) y l m = absurd (omega (arith, l))

pub or_set : (a b k : ℕ) → is_set (bit_or a b) k ≡ (is_set a k || is_set b k)
or_set a b k = rw (bit_at_or a b k) (by (bit_at a k) (bit_at b k) (bit_at-lt a k) (bit_at-lt b k)) where
  by : (x y : ℕ) → x < 2 → y < 2 → (max x y == 1) ≡ ((x == 1) || (y == 1))
  by zero zero l m = refl
  by zero (suc zero) l m = refl
  by zero (suc (suc y)) l m = absurd (omega (arith, m))
  by (suc zero) zero l m = refl
  by (suc zero) (suc zero) l m = refl
  by (suc zero) (suc (suc y)) l m = absurd (omega (arith, m))
  by (suc (suc x)) y l m = absurd (omega (arith, l))

pub put_set : (word k j : ℕ) → k < 64 → is_set (bit_or word (1 * 2 ^ k % 2 ^ 64)) j ≡ (if j == k then true else is_set word j)
put_set word k j low = elim (cases_eq j k) [
  | inl here ↦ rw (here, bit_at_set_same w64 word k low, eq-eqb k k refl) refl
  | inr apart ↦ rw (bit_at_set_other w64 word k low j apart, ne_eqb j k apart) refl
]

or_false : (a : Bool) → (a || false) ≡ a
or_false true = refl
or_false false = refl

pub not_put : (word k j : ℕ) → is_set word k ≡ false → is_set (bit_or word (0 * 2 ^ k % 2 ^ 64)) j ≡ (if j == k then false else is_set word j)
not_put word k j clear =
    let nothing : 0 * 2 ^ k % 2 ^ 64 ≡ 0 = omega arith in
    rw (nothing, or_set word 0 j, bit_at-zero j, or_false (is_set word j)) (elim (cases_eq j k) [
      | inl here ↦ rw (here, eq-eqb k k refl, clear) refl
      | inr apart ↦ rw (ne_eqb j k apart) refl
    ])

-- ---- the least of a truth of each set, by tests on both sets

abbrev each : (Bool → Bool) → Bool
each f = f false && f true

in_each : (f : Bool → Bool) (b : Bool) → each f ≡ true → f b ≡ true
in_each f false e = (and_parts (f false) (f true) e).0
in_each f true e = (and_parts (f false) (f true) e).1

abbrev each_set : (TruthSet → Bool) → Bool
each_set f = each (λ x. each (λ y. each (λ z. f (record { can_false = x; can_unknown = y; can_true = z }))))

in_set : (f : TruthSet → Bool) (s : TruthSet) → each_set f ≡ true → f s ≡ true
in_set f s e =
    let x = in_each (λ x. each (λ y. each (λ z. f (record { can_false = x; can_unknown = y; can_true = z })))) s.can_false e in
    let y = in_each (λ y. each (λ z. f (record { can_false = s.can_false; can_unknown = y; can_true = z }))) s.can_unknown x in
    in_each (λ z. f (record { can_false = s.can_false; can_unknown = s.can_unknown; can_true = z })) s.can_true y

abbrev pub alike : Bool → Bool → Bool
alike false false = true
alike true true = true
alike _ _ = false

pub alike_is : (a b : Bool) → alike a b ≡ true → a ≡ b
alike_is false false e = refl
alike_is true true e = refl
alike_is false true e = e
alike_is true false e = sym e

module _ (test : TruthSet → TruthSet → Bool) (t : TruthSet → TruthSet → Bool) where
  by_cases : each_set (λ a. each_set (λ b. alike (test a b) (t a b))) ≡ true → (a b : TruthSet) → test a b ≡ t a b
  by_cases all a b = alike_is (test a b) (t a b) (in_set (λ c. alike (test a c) (t a c)) b (in_set (λ d. each_set (λ c. alike (test d c) (t d c))) a all))

pub least_false : (a b : TruthSet) → ((a.can_false && (b.can_false || b.can_unknown || b.can_true)) || (b.can_false && (a.can_unknown || a.can_true))) ≡ is_pair least a b truth.False
least_false = by_cases (λ a b. (a.can_false && (b.can_false || b.can_unknown || b.can_true)) || (b.can_false && (a.can_unknown || a.can_true))) (λ a b. is_pair least a b truth.False) refl

pub least_unknown : (a b : TruthSet) → ((a.can_unknown && (b.can_unknown || b.can_true)) || (a.can_true && b.can_unknown)) ≡ is_pair least a b truth.Unknown
least_unknown = by_cases (λ a b. (a.can_unknown && (b.can_unknown || b.can_true)) || (a.can_true && b.can_unknown)) (λ a b. is_pair least a b truth.Unknown) refl

pub least_true : (a b : TruthSet) → (a.can_true && b.can_true) ≡ is_pair least a b truth.True
least_true = by_cases (λ a b. a.can_true && b.can_true) (λ a b. is_pair least a b truth.True) refl

least_false_bits : (a b : Masks) (k : ℕ) → is_set (bit_or (bit_and a.can_false (bit_or (bit_or b.can_false b.can_unknown) b.can_true)) (bit_and b.can_false (bit_or a.can_unknown a.can_true))) k
    ≡ is_pair least (truths_at a k) (truths_at b k) truth.False
least_false_bits a b k =
    let some = bit_or b.can_false b.can_unknown in
    let any = bit_or some b.can_true in
    let other = bit_or a.can_unknown a.can_true in
    rw (or_set (bit_and a.can_false any) (bit_and b.can_false other) k, and_set a.can_false any k, and_set b.can_false other k, or_set some b.can_true k, or_set b.can_false b.can_unknown k, or_set a.can_unknown a.can_true k)
    (least_false (truths_at a k) (truths_at b k))

least_unknown_bits : (a b : Masks) (k : ℕ) → is_set (bit_or (bit_and a.can_unknown (bit_or b.can_unknown b.can_true)) (bit_and a.can_true b.can_unknown)) k
    ≡ is_pair least (truths_at a k) (truths_at b k) truth.Unknown
least_unknown_bits a b k =
    let some = bit_or b.can_unknown b.can_true in
    rw (or_set (bit_and a.can_unknown some) (bit_and a.can_true b.can_unknown) k, and_set a.can_unknown some k, and_set a.can_true b.can_unknown k, or_set b.can_unknown b.can_true k)
    (least_unknown (truths_at a k) (truths_at b k))

least_true_bits : (a b : Masks) (k : ℕ) → is_set (bit_and a.can_true b.can_true) k ≡ is_pair least (truths_at a k) (truths_at b k) truth.True
least_true_bits a b k = and_set a.can_true b.can_true k ∙ least_true (truths_at a k) (truths_at b k)

pub least_bits : (a b c : Masks) (k : ℕ)
    → c.can_false ≡ bit_or (bit_and a.can_false (bit_or (bit_or b.can_false b.can_unknown) b.can_true)) (bit_and b.can_false (bit_or a.can_unknown a.can_true))
    → c.can_unknown ≡ bit_or (bit_and a.can_unknown (bit_or b.can_unknown b.can_true)) (bit_and a.can_true b.can_unknown) → c.can_true ≡ bit_and a.can_true b.can_true
    → truths_at c k ≡ pairs least (truths_at a k) (truths_at b k)
least_bits a b c k f u t = rw (f, u, t, least_false_bits a b k, least_unknown_bits a b k, least_true_bits a b k) refl

-- ---- the greatest of a truth of each set: the opposite of the least of the opposites

greatest_false : (a b : TruthSet) → is_pair least (opposites a) (opposites b) truth.True ≡ is_pair greatest a b truth.False
greatest_false = by_cases (λ a b. is_pair least (opposites a) (opposites b) truth.True) (λ a b. is_pair greatest a b truth.False) refl

greatest_unknown : (a b : TruthSet) → is_pair least (opposites a) (opposites b) truth.Unknown ≡ is_pair greatest a b truth.Unknown
greatest_unknown = by_cases (λ a b. is_pair least (opposites a) (opposites b) truth.Unknown) (λ a b. is_pair greatest a b truth.Unknown) refl

greatest_true : (a b : TruthSet) → is_pair least (opposites a) (opposites b) truth.False ≡ is_pair greatest a b truth.True
greatest_true = by_cases (λ a b. is_pair least (opposites a) (opposites b) truth.False) (λ a b. is_pair greatest a b truth.True) refl

pub opposite_least : (a b : TruthSet) → opposites (pairs least (opposites a) (opposites b)) ≡ pairs greatest a b
opposite_least a b = λ i. record { can_false = greatest_false a b i; can_unknown = greatest_unknown a b i; can_true = greatest_true a b i }

-- the truths of one more chunk
pub one_more : (truths : ℕ → TruthSet) (k : ℕ) (old new : ℕ → TruthSet) → ((j : ℕ) → old j ≡ (if nat_lt j k then truths j else no_truths)) → ((j : ℕ) → new j ≡ (if j == k then truths k else old j))
    → (j : ℕ) → new j ≡ (if nat_lt j (k + 1) then truths j else no_truths)
one_more truths k old new was step j = elim (cases_order j k) [
  | inl here ↦ rw (step j, here, eq-eqb k k refl, lt-ltb k (k + 1) (omega arith)) refl
  | inr (inl before) ↦ rw (step j, ne_eqb j k (λ e. omega (arith, e)), was j, lt-ltb j k before, lt-ltb j (k + 1) (omega (arith, before))) refl
  | inr (inr past) ↦ rw (step j, ne_eqb j k (λ e. omega (arith, e)), was j, le-ltb j k (omega (arith, past)), le-ltb j (k + 1) (omega (arith, past))) refl
]

pub none_at : (j : ℕ) → truths_at (record { can_false = 0; can_unknown = 0; can_true = 0 }) j ≡ no_truths
none_at j = rw (bit_at-zero j) refl

-- ---- a word moved up by one bit, with a bit put in below

moved_from : (x j : ℕ) → j < 64 → bit_at (x % 2 ^ 64) j ≡ bit_at x j
moved_from x j low = sym (bit_at_cat_low (x / 2 ^ 64) 64 (x % 2 ^ 64) j low) ∙ ap (λ y. bit_at y j) (omega arith)

pub pushed_first : (word b : ℕ) → b < 2 → bit_at (bit_or (word * 2 ^ 1 % 2 ^ 64) b) 0 ≡ b
pushed_first word b small =
    let low : bit_at (word * 2 ^ 1 % 2 ^ 64) 0 ≡ bit_at (word * 2 ^ 1 + 0) 0 = moved_from (word * 2 ^ 1) 0 (omega arith) ∙ ap (λ x. bit_at x 0) (omega arith) in
    omega (arith, bit_at_or (word * 2 ^ 1 % 2 ^ 64) b 0, low, bit_at_cat_low word 1 0 0 (omega arith), bit_at-zero 0, bit_at_lowest b)

pub pushed_rest : (word b j : ℕ) → b < 2 → j < 63 → bit_at (bit_or (word * 2 ^ 1 % 2 ^ 64) b) (j + 1) ≡ bit_at word j
pushed_rest word b j small low =
    let same : bit_at (word * 2 ^ 1 % 2 ^ 64) (j + 1) ≡ bit_at (word * 2 ^ 1 + 0) (j + 1) = moved_from (word * 2 ^ 1) (j + 1) (omega arith) ∙ ap (λ x. bit_at x (j + 1)) (omega arith) in
    let up : bit_at (word * 2 ^ 1 + 0) (j + 1) ≡ bit_at word j = bit_at_cat_high word 1 0 (j + 1) (omega arith) (omega arith) ∙ ap (bit_at word) (omega arith) in
    omega (arith, bit_at_or (word * 2 ^ 1 % 2 ^ 64) b (j + 1), same, up, bit_at_above b 1 (j + 1) (omega arith) (omega arith))

pub pushed_bit : (word : ℕ) (b : ℕ) → b < 2 → is_set (bit_or (word * 2 ^ 1 % 2 ^ 64) b) 0 ≡ (b == 1)
pushed_bit word b small = ap (λ x. x == 1) (pushed_first word b small)

pub pushed_others : (word b j : ℕ) → b < 2 → j < 63 → is_set (bit_or (word * 2 ^ 1 % 2 ^ 64) b) (j + 1) ≡ is_set word j
pushed_others word b j small low = ap (λ x. x == 1) (pushed_rest word b j small low)

-- ---- the bits that a word lacks

pub not_set : (word k : ℕ) → word < 2 ^ 64 → k < 64 → is_set (bit_not w64 word) k ≡ not (is_set word k)
not_set word k fits low = ap (λ x. x == 1) (bit_at_not w64 word k fits low) ∙ by (bit_at word k) (bit_at-lt word k) where
  by : (x : ℕ) → x < 2 → (1 - x == 1) ≡ not (x == 1)
  by zero l = refl
  by (suc zero) l = refl
  by (suc (suc x)) l = absurd (omega (arith, l))

pub without_set : (a b k : ℕ) → b < 2 ^ 64 → k < 64 → is_set (bit_and a (bit_not w64 b)) k ≡ (is_set a k && not (is_set b k))
without_set a b k fits low = and_set a (bit_not w64 b) k ∙ ap (λ x. is_set a k && x) (not_set b k fits low)

-- ---- the bits of a word that another has all of

and_true : (a : Bool) → (a && true) ≡ a
and_true true = refl
and_true false = refl

pub kept_set : (a every k : ℕ) → bit_at every k ≡ 1 → is_set (bit_and a every) k ≡ is_set a k
kept_set a every k one = and_set a every k ∙ ap (λ x. is_set a k && (x == 1)) one ∙ and_true (is_set a k)
