-- Rows of words that are filled a cell at a time.
use Rattle.std.proofs.Common.{◌≡◌, ◌≢◌, ◌∙◌, ◌+◌, ◌-◌, ◌*◌, ◌/◌, ◌%◌, ◌^◌, ◌<◌, ◌≤◌, ℕ, List, Bool, if◌then◌else◌, length, get_or, map, set, arith, sym, ap, subst, inl, inr, length-set, get_or-set_same, get_or-set_other, ext_get_or, div-add-mod', div-lt_iff_lt-mul, mod-lt}
use Rattle.std.proofs.lemmas.Bool.{cases_eq, false≢true}
use Rattle.std.proofs.lemmas.List.FromFn.{get_or-map-range_with_len, length-map-range_with_len}
use Rattle.std.proofs.lemmas.Nat.{div-mul-add}
use Rattle.std.specs.List.{range_with_len}
use Rattle.table_core.specs.declared.cell.Cell.{Cell}
use Rattle.piece_format.specs.declared.layout.Layout.TheVariants as layouts
use Rattle.piece_format.specs.declared.pieces.Piece.{Piece}
use Rattle.piece_format.specs.Cells.{is_null, value_word}
use Rattle.piece_format.specs.Encoding.{AreFilled, AreFirst, IsKept}
use Rattle.piece_format.specs.Words.{bits, slot_at, slot_word, value}
use Rattle.piece_format.proofs.Back.{one_row}
use Rattle.piece_format.proofs.Bits.{bits-lt, bits-more}
use Rattle.piece_format.proofs.Places.{mask_slot, row_value_slot}
use Rattle.piece_format.proofs.Putting.{column_of, is_value, row_of}

-- places of different rows differ
rows_apart : (w r s i j : ℕ) → i < w → j < w → r ≢ s → r * w + i ≢ s * w + j
rows_apart w r s i j low small differ = λ e. differ (sym (div-mul-add r w i low) ∙ ap (λ n. n / w) e ∙ div-mul-add s w j small)

-- what holds at the place of each mask word and each value word holds at each place of so many rows
each_place : (rows columns : ℕ) (P : ℕ → Type 0) → ((row : ℕ) → row < rows → P (row * (columns + 1))) → ((row x : ℕ) → row < rows → x < columns → P (row * (columns + 1) + 1 + x))
    → (i : ℕ) → i < rows * (columns + 1) → P i
each_place rows columns P mask_place value_place i low =
    let width = columns + 1 in
    let row = i / width in
    let whole = div-add-mod' i width in
    let there : row < rows = (div-lt_iff_lt-mul {k = width} {x = i} {y = rows} (omega arith)).1 low in
    elim (cases_eq (i % width) 0) [
      | inl none ↦
          let at : row * width ≡ i = omega (arith, whole, none) in
          subst P at (mask_place row there)
      | inr some ↦
          let x = i % width - 1 in
          let at : row * width + 1 + x ≡ i = omega (arith, whole, some) in
          let small : i % width < width = mod-lt i (omega arith) in
          subst P at (value_place row x there (omega (arith, small, some)))
    ]

module _ (q : Piece) (cell : ℕ → ℕ → Cell) where
  abbrev mask_of : ℕ → ℕ → ℕ
  mask_of row count = bits (λ x. is_null (cell row x)) count

  -- no cells are put where each word is 0
  pub filled-none : (words : List ℕ) → length words ≡ q.rows * (q.columns + 1) → ((i : ℕ) → get_or words i 0 ≡ 0) → AreFilled q cell (λ _. 0) words
  unfolding bits
  filled-none words long zeros = record {
    room = long;
    few = λ row low. omega arith;
    masks = λ row low. zeros (row * (q.columns + 1));
    values = λ row x low put. absurd (omega (arith, put));
    kept = λ row x low put. absurd (omega (arith, put));
  }

  -- rows in which as many cells are put
  pub filled-same : (done other : ℕ → ℕ) (words : List ℕ) → ((row : ℕ) → row < q.rows → done row ≡ other row) → AreFilled q cell done words → AreFilled q cell other words
  filled-same done other words same filled = record {
    room = filled.room;
    few = λ row low. omega (arith, filled.few row low, same row low);
    masks = λ row low. filled.masks row low ∙ ap (mask_of row) (same row low);
    values = λ row x low put. filled.values row x low (omega (arith, put, same row low));
    kept = λ row x low put. filled.kept row x low (omega (arith, put, same row low));
  }

  pub mask-lt : (done : ℕ → ℕ) (words : List ℕ) → AreFilled q cell done words → (row : ℕ) → row < q.rows → get_or words (row * (q.columns + 1)) 0 < 2 ^ done row
  mask-lt done words filled row low = subst (λ n. n < 2 ^ done row) (sym (filled.masks row low)) (bits-lt (λ x. is_null (cell row x)) (done row))

  -- one cell more of a row
  module _ (done more : ℕ → ℕ) (words : List ℕ) (filled : AreFilled q cell done words) (row column : ℕ) (there : row < q.rows) (few : column < q.columns) (before : done row ≡ column) (after : more row ≡ column + 1)
      (rest : (other : ℕ) → other ≢ row → more other ≡ done other) (null : Bool) (word : ℕ) (is : null ≡ is_null (cell row column)) (value_is : word ≡ value_word (cell row column)) (keeps : IsKept (cell row column)) where
    abbrev width : ℕ
    width = q.columns + 1

    abbrev mask : ℕ
    mask = get_or words (row * width) 0 + (if null then 2 ^ column else 0)

    abbrev marked : List ℕ
    marked = set words (row * width) mask

    abbrev place : ℕ
    place = row * width + 1 + column

    abbrev put : List ℕ
    put = set marked place word

    long : length put ≡ length words
    long = length-set marked place word ∙ length-set words (row * width) mask

    inside : place < length words
    inside = omega (arith, filled.room, few, one_row q.rows row q.columns there)

    -- a place at which nothing is put
    left : (i : ℕ) → i ≢ row * width → i ≢ place → get_or put i 0 ≡ get_or words i 0
    left i ne apart = get_or-set_other marked place i word 0 apart ∙ get_or-set_other words (row * width) i mask 0 ne

    masks : (other : ℕ) → other < q.rows → get_or put (other * width) 0 ≡ mask_of other (more other)
    masks other low = elim (cases_eq other row) [
      | inl e ↦
          rw (e, after)
          (get_or-set_other marked place (row * width) word 0 (λ z. omega (arith, z)) ∙ get_or-set_same words (row * width) mask 0 (omega (arith, inside))
          ∙ ap (λ n. n + (if null then 2 ^ column else 0)) (filled.masks row there ∙ ap (mask_of row) before) ∙ ap (λ t. mask_of row (column) + (if t then 2 ^ column else 0)) is
          ∙ sym (bits-more (λ x. is_null (cell row x)) (column)))
      | inr ne ↦
          rw (rest other ne)
          (left (other * width) (λ z. rows_apart width other row 0 0 (omega arith) (omega arith) ne (omega (arith, z)))
          (λ z. rows_apart width other row 0 (1 + column) (omega arith) (omega (arith, few)) ne (omega (arith, z))) ∙ filled.masks other low)
    ]

    most : (other : ℕ) → other < q.rows → more other ≤ q.columns
    most other low = elim (cases_eq other row) [
      | inl e ↦ omega (arith, after, few, ap more e)
      | inr ne ↦ omega (arith, rest other ne, filled.few other low)
    ]

    values : (other x : ℕ) → other < q.rows → x < more other → get_or put (other * width + 1 + x) 0 ≡ value_word (cell other x)
    values other x low small = elim (cases_eq other row) [
      | inl e ↦ elim (cases_eq x (column)) [
        | inl last ↦ rw (e, last) (get_or-set_same marked place word 0 (omega (arith, inside, length-set words (row * width) mask)) ∙ value_is)
        | inr ne ↦
            left (other * width + 1 + x) (λ z. omega (arith, z, ap (λ n. n * width) e)) (λ z. ne (omega (arith, z, ap (λ n. n * width) e)))
            ∙ filled.values other x low (omega (arith, small, after, before, ap more e, ap done e, ne))
      ]
      | inr ne ↦
          left (other * width + 1 + x) (λ z. rows_apart width other row (1 + x) 0 (omega (arith, small, most other low)) (omega arith) ne (omega (arith, z)))
          (λ z. rows_apart width other row (1 + x) (1 + column) (omega (arith, small, most other low)) (omega (arith, few)) ne (omega (arith, z)))
          ∙ filled.values other x low (omega (arith, small, rest other ne))
    ]

    kept : (other x : ℕ) → other < q.rows → x < more other → IsKept (cell other x)
    kept other x low small = elim (cases_eq other row) [
      | inl e ↦ elim (cases_eq x (column)) [
        | inl last ↦ rw (e, last) keeps
        | inr ne ↦ filled.kept other x low (omega (arith, small, after, before, ap more e, ap done e, ne))
      ]
      | inr ne ↦ filled.kept other x low (omega (arith, small, rest other ne))
    ]

    pub filled-more : AreFilled q cell more put
    filled-more = record { room = long ∙ filled.room; few = most; masks = masks; values = values; kept = kept }

  -- all cells are put
  module _ (here : q.layout ≡ layouts.Row) (words : List ℕ) (filled : AreFilled q cell (λ _. q.columns) words) where
    abbrev all_words : ℕ
    all_words = q.rows * (q.columns + 1)

    abbrev word_of : ℕ → ℕ
    word_of i = slot_word cell (slot_at q i)

    word_is : (i : ℕ) → i < all_words → get_or words i 0 ≡ word_of i
    word_is = each_place q.rows q.columns (λ i. get_or words i 0 ≡ word_of i) (λ row there. filled.masks row there ∙ sym (ap (slot_word cell) (mask_slot q row here)))
        (λ row x there low. filled.values row x there low ∙ sym (ap (slot_word cell) (row_value_slot q row x here low)))

    kept_at : (row x i : ℕ) → i < all_words → slot_at q i ≡ value row x → IsKept (cell row x)
    kept_at row x = each_place q.rows q.columns (λ i. slot_at q i ≡ value row x → IsKept (cell row x)) (λ r there slot. absurd (false≢true (ap is_value (sym (mask_slot q r here) ∙ slot))))
        (λ r y there low slot.
        let same = sym (row_value_slot q r y here low) ∙ slot in
        subst (λ m. IsKept (cell m x)) (ap row_of same) (subst (λ m. IsKept (cell r m)) (ap column_of same) (filled.kept r y there low)))

    pub filled-first : AreFirst q cell all_words words
    filled-first = record {
      are =
          ext_get_or 0 words (map word_of (range_with_len 0 all_words)) (filled.room ∙ sym (length-map-range_with_len word_of 0 all_words))
          (λ i low.
          let there : i < all_words = omega (arith, low, filled.room) in
          word_is i there ∙ sym (get_or-map-range_with_len word_of 0 all_words i i 0 there (omega arith)));
      kept = λ i row x low slot. kept_at row x i low slot;
    }
