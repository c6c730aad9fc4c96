-- One more word of a piece.
use Rattle.std.proofs.Common.{◌≡◌, ◌∙◌, ◌+◌, ◌-◌, ◌*◌, ◌<◌, ◌++◌, ◌∷◌, [], ℕ, List, Bool, true, false, min, get_or, drop, arith, refl, sym, ap, subst, inl, inr}
use Rattle.std.proofs.lemmas.Bool.{cases_lt, false≢true}
use Rattle.std.proofs.lemmas.List.{get_or-take, get_or-drop}
use Rattle.std.proofs.lemmas.List.FromFn.{map-range_with_len_more}
use Rattle.table_core.specs.Table.{TableRows}
use Rattle.table_core.specs.declared.cell.Cell.{Cell}
use Rattle.table_core.specs.declared.cell.Cell.TheVariants.{Null}
use Rattle.piece_format.specs.declared.layout.Layout.TheVariants as layouts
use Rattle.piece_format.specs.declared.pieces.Piece.{Piece}
use Rattle.piece_format.specs.Cells.{cell_at, is_null, value_word}
use Rattle.piece_format.specs.Encoding.{AreFirst, IsKept, held_cell}
use Rattle.piece_format.specs.Shape.{IsPiece, groups_in}
use Rattle.piece_format.specs.Words.{Slot, bits, first_words, nulls, slot_at, slot_word, value}
use Rattle.piece_format.proofs.Bits.{bits-same}
use Rattle.piece_format.proofs.Places.{column_value_slot, null_slot}

abbrev pub is_value : Slot → Bool
is_value (value row x) = true
is_value (nulls count row x) = false

abbrev pub row_of : Slot → ℕ
row_of (value row x) = row
row_of (nulls count row x) = 0

abbrev pub column_of : Slot → ℕ
column_of (value row x) = x
column_of (nulls count row x) = 0

module _ (q : Piece) (cell : ℕ → ℕ → Cell) where
  pub first_none : AreFirst q cell 0 []
  first_none = record { are = refl; kept = λ i row x low. absurd (omega arith) }

  -- the words and one more
  words_more : (n : ℕ) (words : List ℕ) (w : ℕ) → words ≡ first_words q cell n → w ≡ slot_word cell (slot_at q n) → words ++ w ∷ [] ≡ first_words q cell (n + 1)
  words_more n words w first is =
      rw (first, is) (sym (map-range_with_len_more (λ i. slot_word cell (slot_at q i)) 0 n n (omega arith)))

  pub value_more : (n row x : ℕ) (words : List ℕ) (w : ℕ) → AreFirst q cell n words → slot_at q n ≡ value row x → w ≡ value_word (cell row x) → IsKept (cell row x)
      → AreFirst q cell (n + 1) (words ++ w ∷ [])
  value_more n row x words w first here is kept = record {
    are = words_more n words w first.are (is ∙ sym (ap (slot_word cell) here));
    kept = λ i r y low slot. elim (cases_lt i n) [
      | inl before ↦ first.kept i r y before slot
      | inr late ↦
          let e : n ≡ i = omega arith in
          let same : value row x ≡ value r y = sym here ∙ ap (slot_at q) e ∙ slot in
          subst (λ m. IsKept (cell m y)) (ap row_of same) (subst (λ m. IsKept (cell row m)) (ap column_of same) kept)
    ];
  }

  pub nulls_more : (n count : ℕ) (row x : ℕ → ℕ) (words : List ℕ) (w : ℕ) → AreFirst q cell n words → slot_at q n ≡ nulls count row x → w ≡ slot_word cell (nulls count row x)
      → AreFirst q cell (n + 1) (words ++ w ∷ [])
  nulls_more n count row x words w first here is = record {
    are = words_more n words w first.are (is ∙ sym (ap (slot_word cell) here));
    kept = λ i r y low slot. elim (cases_lt i n) [
      | inl before ↦ first.kept i r y before slot
      | inr late ↦
          let e : n ≡ i = omega arith in
          absurd (false≢true (ap is_value (sym here ∙ ap (slot_at q) e ∙ slot)))
    ];
  }

-- in the column layout the group is a column
pub group_below : (q : Piece) → IsPiece q → q.layout ≡ layouts.Column → q.group < q.columns
group_below q small here = subst (λ l. q.group < groups_in l q.columns) here small.group_in

-- ---- one more word from the rows of a table

module _ (q : Piece) (table : TableRows) (from : ℕ) where
  abbrev cell : ℕ → ℕ → Cell
  cell = held_cell q table from

  -- a cell of the chunk is one of the table
  pub held : (row x : ℕ) → row < q.rows → cell_at table.rows (from + row) x ≡ cell row x
  held row x there = sym (ap (λ (r : List Cell). get_or r x Null) (get_or-take q.rows (drop from table.rows) row [] there ∙ get_or-drop from table.rows row []))

  pub column_value_more : (row : ℕ) (words : List ℕ) (w : ℕ) → q.layout ≡ layouts.Column → row < q.rows → AreFirst q cell row words
      → w ≡ value_word (cell_at table.rows (from + row) q.group) → IsKept (cell_at table.rows (from + row) q.group) → AreFirst q cell (row + 1) (words ++ w ∷ [])
  column_value_more row words w here there first is kept =
      value_more q cell row row q.group words w first (column_value_slot q row here there) (is ∙ ap value_word (held row q.group there)) (subst IsKept (held row q.group there) kept)

  pub null_word_more : (k count : ℕ) (words : List ℕ) (w : ℕ) → q.layout ≡ layouts.Column → count ≡ min 64 (q.rows - 64 * k) → AreFirst q cell (q.rows + k) words
      → w ≡ bits (λ b. is_null (cell_at table.rows (from + 64 * k + b) q.group)) count → AreFirst q cell (q.rows + (k + 1)) (words ++ w ∷ [])
  null_word_more k count words w here so_many first is =
      let start = 64 * k in
      let e : q.rows + k + 1 ≡ q.rows + (k + 1) = omega arith in
      let slot : slot_at q (q.rows + k) ≡ nulls count (λ bit. start + bit) (λ _. q.group) = null_slot q k here ∙ sym (ap (λ n. nulls n (λ bit. start + bit) (λ _. q.group)) so_many) in
      subst (λ n. AreFirst q cell n (words ++ w ∷ [])) e
      (nulls_more q cell (q.rows + k) count (λ bit. start + bit) (λ _. q.group) words w first slot
      (is ∙ bits-same (λ b. is_null (cell_at table.rows (from + start + b) q.group)) (λ b. is_null (cell (start + b) q.group)) count (λ b below.
      let at : from + start + b ≡ from + (start + b) = omega arith in
      ap is_null (ap (λ i. cell_at table.rows i q.group) at ∙ held (start + b) q.group (omega (arith, below, so_many))))))
