-- Texts stand as their fronts do, where these differ.
use Rattle.std.proofs.Common.{◌≡◌, ◌+◌, ◌-◌, ◌^◌, ◌<◌, ◌≤◌, ℕ, zero, suc, List, [], ◌∷◌, arith, refl, sym, get_or, inl, inr, false}
use Rattle.std.proofs.Math.Nat.{pow-le-pow_right}
use Rattle.std.proofs.lemmas.Bool.{cases_lt, cases_eq}
use Rattle.std.specs.Ordering.{nat_cmp, is_gt, is_lt}
use Rattle.std.specs.declared.cmp.Ordering.TheVariants.{Less}
use Rattle.csv_load.specs.Fronts.{IsFront, front_number}
use Rattle.csv_load.specs.Ranks.{Key, key_cmp}
use Rattle.table_core.specs.Dict.{text_cmp}
use Rattle.table_core.proofs.Rising.{not_above}

-- the bytes of a text from a place on are bytes
abbrev AreBytes : List ℕ → ℕ → ℕ → Type 0
AreBytes text from count = (k : ℕ) → k < count → get_or text (from + k) 0 < 256

-- texts have the same bytes up to a place
abbrev AreSame : List ℕ → List ℕ → ℕ → Type 0
AreSame s t count = (k : ℕ) → k < count → get_or s k 0 ≡ get_or t k 0

-- texts of one number have the same bytes there
same-bytes : (from : ℕ) (s t : List ℕ) (count : ℕ) → AreBytes s from count → AreBytes t from count → front_number from s count ≡ front_number from t count
    → AreSame s t from → AreSame s t (from + count)
same-bytes from s t zero bs bt e before k low = before k (omega (arith, low))
same-bytes from s t (suc count) bs bt e before k low =
    let last_s = bs count (omega arith) in
    let last_t = bt count (omega arith) in
    elim (cases_eq k (from + count)) [
      | inl here ↦ rw here (omega (arith, last_s, last_t, e))
      | inr other ↦ same-bytes from s t count (λ i below. bs i (omega (arith, below))) (λ i below. bt i (omega (arith, below))) (omega (arith, last_s, last_t, e)) before k
          (omega (arith, low, other))
    ]

-- texts that are the same up to a place stand as their bytes there
byte-less : (s t : List ℕ) (k : ℕ) → AreSame s t k → get_or s k 0 < get_or t k 0 → text_cmp s t ≡ Less
byte-less [] [] k same less = absurd (omega (arith, less))
byte-less [] (d ∷ ds) k same less = refl
byte-less (c ∷ cs) [] k same less = absurd (omega (arith, less))
byte-less (c ∷ cs) (d ∷ ds) zero same less = grind (arith, less)
byte-less (c ∷ cs) (d ∷ ds) (suc k) same less =
    let first : c ≡ d = same 0 (omega arith) in
    let more = byte-less cs ds k (λ i low. same (suc i) (omega (arith, low))) less in
    grind (arith, first, more)

-- of texts that are the same before, the smaller number is that of the smaller text
front-less : (from : ℕ) (s t : List ℕ) (count : ℕ) → AreBytes s from count → AreBytes t from count → AreSame s t from → front_number from s count < front_number from t count
    → text_cmp s t ≡ Less
front-less from s t zero bs bt before less = absurd (omega (arith, less))
front-less from s t (suc count) bs bt before less =
    let last_s = bs count (omega arith) in
    let last_t = bt count (omega arith) in
    let below_s = λ (i : ℕ) (low : i < count). bs i (omega (arith, low)) in
    let below_t = λ (i : ℕ) (low : i < count). bt i (omega (arith, low)) in
    elim (cases_lt (front_number from s count) (front_number from t count)) [
      | inl smaller ↦ front-less from s t count below_s below_t before smaller
      | inr not ↦
          let e : front_number from s count ≡ front_number from t count = omega (arith, not, last_s, last_t, less) in
          byte-less s t (from + count) (same-bytes from s t count below_s below_t e before) (omega (arith, less, e))
    ]

-- the halves of a front are numbers of bytes
first-bytes : (text : List ℕ) (front : ℕ × ℕ) → IsFront text front → AreBytes text 0 16
first-bytes text front is k low = let e : 0 + k ≡ k = omega arith in rw e (is.bytes k (omega (arith, low)))

second-bytes : (text : List ℕ) (front : ℕ × ℕ) → IsFront text front → AreBytes text 16 16
second-bytes text front is k low = is.bytes (16 + k) (omega (arith, low))

first-less : (s t : List ℕ) (f g : ℕ × ℕ) → IsFront s f → IsFront t g → f.0 < g.0 → text_cmp s t ≡ Less
first-less s t f g is_s is_t less =
    front-less 0 s t 16 (first-bytes s f is_s) (first-bytes t g is_t) (λ k low. absurd (omega (arith, low))) (omega (arith, less, is_s.first, is_t.first))

second-less : (s t : List ℕ) (f g : ℕ × ℕ) → IsFront s f → IsFront t g → f.0 ≡ g.0 → f.1 < g.1 → text_cmp s t ≡ Less
second-less s t f g is_s is_t same less =
    let before = same-bytes 0 s t 16 (first-bytes s f is_s) (first-bytes t g is_t) (omega (arith, same, is_s.first, is_t.first)) (λ k low. absurd (omega (arith, low))) in
    front-less 16 s t 16 (second-bytes s f is_s) (second-bytes t g is_t) before (omega (arith, less, is_s.second, is_t.second))

-- what a sort by front, text and place says of neighbours
pub not-above : (p q : Key) → IsFront p.1.now p.0 → IsFront q.1.now q.0 → is_lt (key_cmp q p) ≡ false → is_gt (text_cmp p.1.now q.1.now) ≡ false
not-above p q front_p front_q h = elim (cases_lt p.0.0 q.0.0) [
  | inl less ↦ rw (first-less p.1.now q.1.now p.0 q.0 front_p front_q less) refl
  | inr not ↦ elim (cases_eq q.0.0 p.0.0) [
    | inl same ↦ elim (cases_lt p.0.1 q.0.1) [
      | inl less ↦ rw (second-less p.1.now q.1.now p.0 q.0 front_p front_q (sym same) less) refl
      | inr more ↦ elim (cases_eq q.0.1 p.0.1) [
        | inl both ↦ not_above p.1.now q.1.now (nat_cmp q.2 p.2) (grind (arith, same, both, h))
        | inr other ↦ let below : q.0.1 < p.0.1 = omega (arith, more, other) in absurd (grind (arith, same, below, h))
      ]
    ]
    | inr other ↦ let below : q.0.0 < p.0.0 = omega (arith, not, other) in absurd (grind (arith, below, h))
  ]
]

-- both numbers are of bytes
pub all-bytes : (text : List ℕ) → AreBytes text 0 16 → AreBytes text 16 16 → (k : ℕ) → k < 32 → get_or text k 0 < 256
all-bytes text first second k low = elim (cases_lt k 16) [
  | inl less ↦ let e : 0 + k ≡ k = omega arith in rw e at (first k less)
  | inr past ↦ let e : 16 + (k - 16) ≡ k = omega (arith, past) in rw e at (second (k - 16) (omega (arith, low, past)))
]

-- a front that has room for a byte more
pub front-room : (number place : ℕ) → number < 256 ^ place → place < 16 → number < 256 ^ 15
front-room number place small inside =
    let low : place ≤ 15 = omega (arith, inside) in
    let more : 256 ^ place ≤ 256 ^ 15 = pow-le-pow_right (omega arith) low in
    omega (arith, small, more)

-- one byte more
pub bytes-more : (text : List ℕ) (from place byte : ℕ) → byte ≡ get_or text (from + place) 0 → byte < 256 → AreBytes text from place → AreBytes text from (place + 1)
bytes-more text from place byte e small is k low = elim (cases_eq k place) [
  | inl last ↦ rw (last, ← e) small
  | inr other ↦ is k (omega (arith, low, other))
]
