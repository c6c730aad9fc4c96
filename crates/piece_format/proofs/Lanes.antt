-- Four lanes, and what stands in each.
use Rattle.std.proofs.Common.{◌≡◌, ◌∙◌, ◌+◌, ◌-◌, ◌*◌, ◌/◌, ◌%◌, ◌^◌, ◌<◌, ◌≤◌, ◌==◌, ℕ, zero, suc, Bool, true, false, cond, not, eqb, ltb, List, [], ◌∷◌, length, map, drop, replicate, get_or, if◌then◌else◌, arith, refl, sym, ap, w64}
use Rattle.std.proofs.lemmas.Bool.{eqb-true, ltb-false, ne_eqb}
use Rattle.std.proofs.lemmas.List.{drop-drop, get_or-map, length-map, length-replicate}
use Rattle.std.proofs.lemmas.Nat.{le_or_l, le_or_r, pow-add, pow_pos}
use Rattle.std.proofs.lemmas.Nat.Bits.{and_pow, bit_at-lt, bit_at-zero, bit_at_and}
use Rattle.std.proofs.lemmas.Simd.{get_or-sel_l, length-sel_l, get_or-zip2, get_or-replicate, length-zip2, tops_compared, bitmask_splat, bit_mask_l}
use Rattle.std.proofs.Math.Nat.{div-div-eq-div-mul}
use Rattle.std.specs.Int.{bit_at}
use lib.Bits.{bit_and, bit_or}
use lib.Lanes.{fold_l, mask_l, sel_l, top, zip2}
use Rattle.byteorder.specs.Endian.{little_number}
use Rattle.piece_format.specs.Bytes.{word_of}
use Rattle.piece_format.specs.Checking.{IsClear, limit_of}

-- each of four lanes is what it is to be
pub four_lanes : (a b c d : ℕ) (f : ℕ → ℕ) → a ≡ f 0 → b ≡ f 1 → c ≡ f 2 → d ≡ f 3 → (l : ℕ) → l < 4 → get_or (a ∷ b ∷ c ∷ d ∷ []) l 0 ≡ f l
four_lanes a b c d f e0 e1 e2 e3 zero low = e0
four_lanes a b c d f e0 e1 e2 e3 (suc zero) low = e1
four_lanes a b c d f e0 e1 e2 e3 (suc (suc zero)) low = e2
four_lanes a b c d f e0 e1 e2 e3 (suc (suc (suc zero))) low = e3
four_lanes a b c d f e0 e1 e2 e3 (suc (suc (suc (suc l)))) low = absurd (omega arith)

-- each of eight lanes is what it is to be
pub eight_lanes : (a b c d e g h i : ℕ) (f : ℕ → ℕ) → a ≡ f 0 → b ≡ f 1 → c ≡ f 2 → d ≡ f 3 → e ≡ f 4 → g ≡ f 5 → h ≡ f 6 → i ≡ f 7
    → (l : ℕ) → l < 8 → get_or (a ∷ b ∷ c ∷ d ∷ e ∷ g ∷ h ∷ i ∷ []) l 0 ≡ f l
eight_lanes a b c d e g h i f e0 e1 e2 e3 e4 e5 e6 e7 zero low = e0
eight_lanes a b c d e g h i f e0 e1 e2 e3 e4 e5 e6 e7 (suc zero) low = e1
eight_lanes a b c d e g h i f e0 e1 e2 e3 e4 e5 e6 e7 (suc (suc zero)) low = e2
eight_lanes a b c d e g h i f e0 e1 e2 e3 e4 e5 e6 e7 (suc (suc (suc zero))) low = e3
eight_lanes a b c d e g h i f e0 e1 e2 e3 e4 e5 e6 e7 (suc (suc (suc (suc l)))) low = four_lanes e g h i (λ n. f (suc (suc (suc (suc n))))) e4 e5 e6 e7 l (omega arith)

-- the words from one on
pub word_of-drop : (bytes : List ℕ) (from l : ℕ) → word_of (drop (8 * from) bytes) l ≡ word_of bytes (from + l)
unfolding word_of
word_of-drop bytes from l =
    let e : 8 * from + 8 * l ≡ 8 * (from + l) = omega arith in
    ap (little_number 8) (drop-drop (8 * l) (8 * from) bytes ∙ ap (λ n. drop n bytes) e)

-- what one of two lists of lanes has, the lanes of both together have
clear_parts : (xs ys : List ℕ) (n l : ℕ) → length xs ≡ n → length ys ≡ n → l < n → IsClear (zip2 bit_or xs ys) l → IsClear xs l × IsClear ys l
clear_parts xs ys n l many same low clear =
    let e : bit_or (get_or xs l 0) (get_or ys l 0) ≡ 0 = sym (get_or-zip2 bit_or xs ys l 0 0 0 (omega (arith, many)) (omega (arith, same))) ∙ clear in
    (omega (arith, e, le_or_l (get_or xs l 0) (get_or ys l 0)), omega (arith, e, le_or_r (get_or xs l 0) (get_or ys l 0)))

fold_start : (xs : List ℕ) (a : ℕ) → fold_l bit_or a xs ≡ 0 → a ≡ 0
fold_start [] a e = e
fold_start (x ∷ xs) a e = omega (arith, fold_start xs (bit_or a x) e, le_or_l a x)

-- lanes that are 0 together are 0 each
pub fold_clear : (xs : List ℕ) (a l : ℕ) → fold_l bit_or a xs ≡ 0 → IsClear xs l
fold_clear [] a l e = refl
fold_clear (x ∷ xs) a zero e = omega (arith, fold_start xs (bit_or a x) e, le_or_r a x)
fold_clear (x ∷ xs) a (suc l) e = fold_clear xs (bit_or a x) l e

-- one of two values in each lane, by a test of two lists of lanes
chosen : (t : ℕ → ℕ → Bool) (xs ys us vs : List ℕ) (n l : ℕ) → length xs ≡ n → length ys ≡ n → length us ≡ n → length vs ≡ n → l < n
    → get_or (sel_l (map (top 63) (zip2 (λ a b. cond (t a b) (2 ^ 64 - 1) 0) xs ys)) us vs) l 0 ≡ cond (t (get_or xs l 0) (get_or ys l 0)) (get_or us l 0) (get_or vs l 0)
chosen t xs ys us vs n l lx ly la lb low =
    let tested = zip2 t xs ys in
    let many : length tested ≡ n = length-zip2 t xs ys (lx ∙ sym ly) ∙ lx in
    ap (λ ms. get_or (sel_l ms us vs) l 0) (tops_compared w64 t xs ys)
    ∙ get_or-sel_l tested us vs l 0 (omega (arith, many)) (omega (arith, la)) (omega (arith, lb))
    ∙ ap (λ m. cond m (get_or us l 0) (get_or vs l 0)) (get_or-zip2 t xs ys l 0 0 false (omega (arith, lx)) (omega (arith, ly)))

is_false : (b : Bool) → cond b (2 ^ 64 - 1) 0 ≡ 0 → b ≡ false
is_false false e = refl
is_false true e = absurd (omega (arith, e))

-- a lane that isn't marked goes no further than it may, and wasn't marked before
pub unmarked : (found limits words : List ℕ) (n l : ℕ) → length found ≡ n → length limits ≡ n → length words ≡ n → l < n
    → let marks = sel_l (map (top 63) (zip2 (λ a b. cond (ltb a b) (2 ^ 64 - 1) 0) limits words)) (replicate n (2 ^ 64 - 1)) (replicate n 0) in
    IsClear (zip2 bit_or found marks) l → IsClear found l × (get_or words l 0 ≤ get_or limits l 0)
unmarked found limits words n l lf ll lw low clear =
    let ones = replicate n (2 ^ 64 - 1) in
    let zeros = replicate n 0 in
    let lo : length ones ≡ n = length-replicate n (2 ^ 64 - 1) in
    let lz : length zeros ≡ n = length-replicate n 0 in
    let over = ltb (get_or limits l 0) (get_or words l 0) in
    let tests = map (top 63) (zip2 (λ a b. cond (ltb a b) (2 ^ 64 - 1) 0) limits words) in
    let many : length tests ≡ n = length-map (zip2 (λ a b. cond (ltb a b) (2 ^ 64 - 1) 0) limits words) (top 63) ∙ length-zip2 (λ a b. cond (ltb a b) (2 ^ 64 - 1) 0) limits words (ll ∙ sym lw) ∙ ll in
    let parts = clear_parts found (sel_l tests ones zeros) n l lf (length-sel_l tests ones zeros (many ∙ sym lo) (many ∙ sym lz) ∙ many) low clear in
    let lane : get_or (sel_l tests ones zeros) l 0 ≡ cond over (2 ^ 64 - 1) 0 =
    chosen ltb limits words ones zeros n l ll lw lo lz low
    ∙ ap (λ a. cond over a (get_or zeros l 0)) (get_or-replicate n l (2 ^ 64 - 1) 0 low)
    ∙ ap (cond over (2 ^ 64 - 1)) (get_or-replicate n l 0 0 low) in
    (parts.0, ltb-false (get_or limits l 0) (get_or words l 0) (is_false over (sym lane ∙ parts.1)))

-- the test of one bit
bit_test : (w k most : ℕ) → cond (eqb (bit_and w (2 ^ k)) 0) most 0 ≡ limit_of w k most
bit_test w k most = rw (and_pow w k) (by_bit (bit_at w k) (bit_at-lt w k)) where
  by_bit : (b : ℕ) → b < 2 → cond (eqb (b * 2 ^ k) 0) most 0 ≡ (if b == 1 then 0 else most)
  by_bit zero low = let none : 0 * 2 ^ k ≡ 0 = omega arith in rw none refl
  by_bit (suc zero) low = let some : 0 < 2 ^ k = pow_pos k in rw (ne_eqb (1 * 2 ^ k) 0 (λ z. omega (arith, z, some))) refl
  by_bit (suc (suc b)) low = absurd (omega arith)

-- how far words may go whose null bits are four that stand side by side
pub limit_lane : (four tops : List ℕ) (w b l : ℕ) → length four ≡ 4 → length tops ≡ 4 → l < 4 → get_or four l 0 ≡ 2 ^ b
    → get_or (sel_l (map (top 63) (zip2 (λ a b. cond (eqb a b) (2 ^ 64 - 1) 0) (zip2 bit_and (replicate 4 w) four) (replicate 4 0))) tops (replicate 4 0)) l 0 ≡ limit_of w b (get_or tops l 0)
limit_lane four tops w b l lf lt low bit =
    let most = get_or tops l 0 in
    let anded : get_or (zip2 bit_and (replicate 4 w) four) l 0 ≡ bit_and w (2 ^ b) =
    get_or-zip2 bit_and (replicate 4 w) four l 0 0 0 low (omega (arith, lf)) ∙ ap (λ n. bit_and n (get_or four l 0)) (get_or-replicate 4 l w 0 low) ∙ ap (bit_and w) bit in
    chosen eqb (zip2 bit_and (replicate 4 w) four) (replicate 4 0) tops (replicate 4 0) 4 l (length-zip2 bit_and (replicate 4 w) four (sym lf)) refl lt refl low
    ∙ ap (λ n. cond (eqb n (get_or (replicate 4 0) l 0)) most (get_or (replicate 4 0) l 0)) anded
    ∙ ap (λ n. cond (eqb (bit_and w (2 ^ b)) n) most n) (get_or-replicate 4 l 0 0 low)
    ∙ bit_test w b most

abbrev one_if : Bool → ℕ
one_if b = cond b 1 0

-- the bits of those lanes that aren't 0
pub value_bit : (words : List ℕ) (n l : ℕ) → length words ≡ n → n ≤ 64 → l < n
    → bit_at (mask_l (map (top 63) (zip2 (λ a b. cond (not (eqb a b)) (2 ^ 64 - 1) 0) words (replicate n 0))) % 2 ^ 64) l ≡ 0 → get_or words l 0 ≡ 0
value_bit words n l lw few low clear =
    let differs = λ (x : ℕ). not (eqb x 0) in
    let bit : one_if (differs (get_or words l 0)) ≡ 0 =
    sym (ap (λ m. bit_at m l) (bitmask_splat w64 (λ a b. not (eqb a b)) words n 0 lw few) ∙ bit_mask_l (map differs words) l
    ∙ ap one_if (get_or-map differs words l 0 false (omega (arith, lw)))) ∙ clear in
    eqb-true (get_or words l 0) 0 (is_equal (eqb (get_or words l 0) 0) bit) where
      is_equal : (b : Bool) → one_if (not b) ≡ 0 → b ≡ true
      is_equal true e = refl
      is_equal false e = absurd (omega (arith, e))

-- a bit of a shifted word
pub shifted_bit : (w k l : ℕ) → bit_at (w / 2 ^ k) l ≡ bit_at w (k + l)
shifted_bit w k l = ap (λ n. n % 2) (div-div-eq-div-mul w (2 ^ k) (2 ^ l) ∙ ap (λ n. w / n) (sym (pow-add 2 k l)))

-- nothing is found, so nothing was found before, and no word under a set bit has a value
pub not_hidden : (found values nulls k : ℕ) → bit_or found (bit_and values (nulls / 2 ^ k)) ≡ 0 → (found ≡ 0) × ((l : ℕ) → bit_at nulls (k + l) ≡ 1 → bit_at values l ≡ 0)
not_hidden found values nulls k none =
    let apart : bit_and values (nulls / 2 ^ k) ≡ 0 = omega (arith, none, le_or_r found (bit_and values (nulls / 2 ^ k))) in
    let both = λ (l : ℕ). sym (bit_at_and values (nulls / 2 ^ k) l) ∙ ap (λ n. bit_at n l) apart ∙ bit_at-zero l in
    (omega (arith, none, le_or_l found (bit_and values (nulls / 2 ^ k))), λ l set. omega (arith, both l, shifted_bit nulls k l, set))

-- a word that goes no further than the top, and is 0 under a set bit, goes no further than it may
pub within_limit : (w nulls b most : ℕ) → w ≤ most → (bit_at nulls b ≡ 1 → w ≡ 0) → w ≤ limit_of nulls b most
within_limit w nulls b most low none = by_bit (bit_at nulls b) (bit_at-lt nulls b) none where
  by_bit : (d : ℕ) → d < 2 → (d ≡ 1 → w ≡ 0) → w ≤ (if d == 1 then 0 else most)
  by_bit zero _ _ = low
  by_bit (suc zero) _ none = omega (arith, none refl)
  by_bit (suc (suc d)) small _ = absurd (omega (arith, small))
