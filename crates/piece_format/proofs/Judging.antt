-- Words that go no further than they may break no rule.
use Rattle.std.proofs.Common.{◌≡◌, ◌∙◌, ◌+◌, ◌-◌, ◌*◌, ◌/◌, ◌^◌, ◌<◌, ◌≤◌, ◌==◌, ℕ, zero, suc, List, Bool, true, false, not, if◌then◌else◌, min, length, get_or, drop, nat_le, arith, refl, sym, ap, subst, inl, inr}
use Rattle.std.proofs.Math.Nat.{add-mul}
use Rattle.std.proofs.lemmas.Bool.{cases_eq, cases_lt, le-leb, lt-leb}
use Rattle.std.proofs.lemmas.List.{get_or-drop}
use Rattle.std.specs.Int.{bit_at}
use Rattle.byteorder.specs.Numbers.{little_from-lt}
use Rattle.piece_format.specs.declared.layout.Layout.TheVariants as layouts
use Rattle.piece_format.specs.declared.pieces.Piece.{Piece}
use Rattle.piece_format.specs.Broken.{NoneBroken, is_broken, is_broken_slot, is_broken_value}
use Rattle.piece_format.specs.Bytes.{word_of}
use Rattle.piece_format.specs.Cells.{dict_len_at, kind_at}
use Rattle.piece_format.specs.Checking.{AreTops, IsTop, limit_of}
use Rattle.piece_format.specs.Reading.{null_bit_in, null_in, null_place_in}
use Rattle.piece_format.specs.Shape.{TableShape}
use Rattle.piece_format.specs.Words.{slot_at, value}
use Rattle.piece_format.proofs.Places.{mask_slot, row_value_slot, null_slot}

-- a word of bytes has 64 bits
pub word_of-small : (bytes : List ℕ) → ((k : ℕ) → get_or bytes k 0 < 256) → (i : ℕ) → word_of bytes i < 2 ^ 64
unfolding word_of
word_of-small bytes small i = little_from-lt 0 8 (drop (8 * i) bytes) (λ k. rw (get_or-drop (8 * i) bytes k 0) (small (8 * i + k)))

not_broken : (broken : Bool) → not broken ≡ true → broken ≡ false
not_broken false e = refl
not_broken true e = sym e

module _ (s : TableShape) (q : Piece) (word : ℕ → ℕ) (small : (i : ℕ) → word i < 2 ^ 64) where
  -- a value word that goes no further than its column lets it breaks no rule
  value_sound : (i row x : ℕ) (null : Bool) (top : ℕ) → slot_at q i ≡ value row x → null_in q word row x ≡ null → IsTop (kind_at s x) (dict_len_at s x) top
      → nat_le (word i) (if null then 0 else top) ≡ true → is_broken s q word i ≡ false
  value_sound i row x null top slot is top_is within =
      ap (λ slot. is_broken_slot s q word slot (word i)) slot
      ∙ ap (λ n. is_broken_value (kind_at s x) (dict_len_at s x) n (word i)) is
      ∙ not_broken (is_broken_value (kind_at s x) (dict_len_at s x) null (word i)) (sym (top_is null (word i) (small i)) ∙ within)

  row_sound : (tops : List ℕ) (row : ℕ) → q.layout ≡ layouts.Row → q.columns ≡ length s.kinds → AreTops s tops
      → word (row * (q.columns + 1)) < 2 ^ q.columns
      → ((x : ℕ) → x < q.columns → word (row * (q.columns + 1) + 1 + x) ≤ limit_of (word (row * (q.columns + 1))) x (get_or tops x 0))
      → NoneBroken s q word (row * (q.columns + 1)) → NoneBroken s q word ((row + 1) * (q.columns + 1))
  row_sound tops row here columns are mask within before i low =
      let start = row * (q.columns + 1) in
      let e : (row + 1) * (q.columns + 1) ≡ start + (q.columns + 1) = omega (arith, add-mul row 1 (q.columns + 1)) in
      elim (cases_lt i start) [
        | inl earlier ↦ before i earlier
        | inr here_on ↦ elim (cases_eq i start) [
          | inl at ↦ subst (λ j. is_broken s q word j ≡ false) (sym at) (ap (λ slot. is_broken_slot s q word slot (word start)) (mask_slot q row here) ∙ lt-leb (2 ^ q.columns) (word start) mask)
          | inr ne ↦
              let x = i - start - 1 in
              let below : x < q.columns = omega (arith, low, e, ne) in
              let place : start + 1 + x ≡ i = omega (arith, ne) in
              let null : null_in q word row x ≡ (bit_at (word start) x == 1) = ap (λ l. bit_at (word (null_place_in l q row)) (null_bit_in l row x) == 1) here in
              subst (λ j. is_broken s q word j ≡ false) place
              (value_sound (start + 1 + x) row x (bit_at (word start) x == 1) (get_or tops x 0) (row_value_slot q row x here below) null (are x (omega (arith, below, columns)))
              (le-leb (word (start + 1 + x)) (limit_of (word start) x (get_or tops x 0)) (within x below)))
        ]
      ]

  -- rows whose mask words name columns alone and whose value words go no further than they may
  pub rows_sound : (tops : List ℕ) → q.layout ≡ layouts.Row → q.columns ≡ length s.kinds → AreTops s tops → (rows : ℕ)
      → ((row : ℕ) → row < rows → word (row * (q.columns + 1)) < 2 ^ q.columns)
      → ((row x : ℕ) → row < rows → x < q.columns → word (row * (q.columns + 1) + 1 + x) ≤ limit_of (word (row * (q.columns + 1))) x (get_or tops x 0))
      → NoneBroken s q word (rows * (q.columns + 1))
  rows_sound tops here columns are zero masks within = λ i low. absurd (omega arith)
  rows_sound tops here columns are (suc n) masks within =
      let e : n + 1 ≡ suc n = omega arith in
      subst (λ m. NoneBroken s q word (m * (q.columns + 1))) e
      (row_sound tops n here columns are (masks n (omega arith)) (λ x low. within n x (omega arith) low)
      (rows_sound tops here columns are n (λ row low. masks row (omega arith)) (λ row x low below. within row x (omega arith) below)))

  -- each bit of the null word of 64 rows names a row
  pub whole_nulls : q.layout ≡ layouts.Column → NoneBroken s q word q.rows → NoneBroken s q word (q.rows + q.rows / 64)
  whole_nulls here before i low = elim (cases_lt i q.rows) [
    | inl earlier ↦ before i earlier
    | inr null ↦
        let k = i - q.rows in
        let place : q.rows + k ≡ i = omega arith in
        let whole : min 64 (q.rows - 64 * k) ≡ 64 = omega (arith, low, place) in
        subst (λ j. is_broken s q word j ≡ false) place
        (ap (λ slot. is_broken_slot s q word slot (word (q.rows + k))) (null_slot q k here) ∙ ap (λ n. nat_le (2 ^ n) (word (q.rows + k))) whole ∙ lt-leb (2 ^ 64) (word (q.rows + k)) (small (q.rows + k)))
  ]
