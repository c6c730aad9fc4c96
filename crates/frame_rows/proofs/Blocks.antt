-- Rows that are read as a block, column by column.
use Rattle.std.proofs.Common.{◌≡◌, ◌==◌, ◌<◌, ◌+◌, ◌-◌, ◌*◌, ◌%◌, ◌^◌, ◌∙◌, if◌then◌else◌, ℕ, Bool, true, false, nat_le, max, List, [], ◌∷◌, length, get_or, arith, refl, sym, ap, subst, inl, inr, eq-eqb, ne_eqb, Some}
use Rattle.std.proofs.lemmas.Bool.{cases_eq, cases_lt, le-leb, lt-leb, lt-ltb, le-ltb, false≢true}
use Rattle.std.specs.Int.{bit_at, cast_signed, w64}
use Rattle.table_core.specs.Chunk.{chunk}
use Rattle.table_sets.specs.Sets.{has}
use Rattle.table_core.specs.declared.cell.Cell.{Cell}
use Rattle.table_core.specs.declared.cell.Cell.TheVariants.{Null, Int, Code}
use Rattle.table_core.specs.declared.schema.Kind.{Kind}
use Rattle.table_core.specs.declared.schema.Kind.TheVariants as kinds
use Rattle.row_blocks.specs.declared.lane.Lane.{Lane}
use Rattle.row_blocks.specs.Lanes.{lane_cell}
use Rattle.row_blocks.specs.Blocks.{BlockView, lane_at, row_at}
use Rattle.row_blocks.proofs.Rows.{cell-row, length-row}
use Rattle.piece_format.specs.Broken.{is_text}
use Rattle.piece_format.specs.Cells.{FitsKind, cell_at, cell_of, dict_len_at, kind_at}
use Rattle.piece_format.specs.Reading.{HasColumn, null_bit, null_bit_in, null_place, null_place_in, value_place, value_place_in}
use Rattle.piece_format.specs.Shape.{TableShape, chunk_of, piece_at, pieces, words_in}
use Rattle.piece_format.specs.Words.{bits}
use Rattle.piece_format.specs.declared.layout.Layout.{Layout}
use Rattle.piece_format.specs.declared.layout.Layout.TheVariants as layouts
use Rattle.piece_format.specs.declared.pieces.Piece.{Piece}
use Rattle.piece_format.proofs.Back.{null_place-lt, value_place-lt}
use Rattle.piece_format.proofs.Bits.{bit_at-bits}
use Rattle.frame_pool.specs.declared.view.Pin.{Pin}
use Rattle.frame_pool.specs.Frames.{Told}
use Rattle.frame_pool.specs.Steps.{AreWordsOf, IsWordOf}
use Rattle.frame_pool.specs.Views.{pinned}
use Rattle.story_laws.proofs.Bools.{not_both}
use Rattle.frame_rows.specs.declared.span.Span.{Span}
use Rattle.frame_rows.specs.Blocks.{EachRow, HasNullBits, HasRead, HasReadAll, IsLaneOf, IsSpan, row_step, row_step_in}
use Rattle.frame_rows.specs.Rows.{IsForPlace, OthersAreNull, in_place}
use Rattle.frame_rows.proofs.Tables.{cell_read}

-- Places

-- the value words of a column stand a step apart
value_place_in-more : (l : Layout) (q : Piece) (row i x : ℕ) → value_place_in l q (row + i) x ≡ value_place_in l q row x + i * row_step_in l q.columns
value_place_in-more layouts.Row q row i x = omega arith
value_place_in-more layouts.Column q row i x = omega arith

pub value_place-more : (q : Piece) (row i x : ℕ) → value_place q (row + i) x ≡ value_place q row x + i * row_step q
value_place-more q row i x = value_place_in-more q.layout q row i x

-- and in the row layout so do the words with the null bits
pub null_place-more : (q : Piece) (row i : ℕ) → q.layout ≡ layouts.Row → null_place q (row + i) ≡ null_place q row + i * row_step q
null_place-more q row i e = subst (λ (l : Layout). null_place_in l q (row + i) ≡ null_place_in l q row + i * row_step_in l q.columns) (sym e) (let split : (row + i) * (q.columns + 1) ≡ row * (q.columns + 1) + i * (q.columns + 1) = omega arith in split)

-- in the column layout 64 rows share the word with their null bits, and each has the bit of its place
pub null_place-shared : (q : Piece) (row i : ℕ) → q.layout ≡ layouts.Column → row % 64 ≡ 0 → i < 64 → null_place q (row + i) ≡ null_place q row
null_place-shared q row i e whole low = subst (λ (l : Layout). null_place_in l q (row + i) ≡ null_place_in l q row) (sym e) (omega (arith, whole, low))

pub null_bit-own : (q : Piece) (row i x : ℕ) → q.layout ≡ layouts.Column → row % 64 ≡ 0 → i < 64 → null_bit q (row + i) x ≡ i
null_bit-own q row i x e whole low = subst (λ (l : Layout). null_bit_in l (row + i) x ≡ i) (sym e) (omega (arith, whole, low))

pub null_bit-row : (q : Piece) (row x : ℕ) → q.layout ≡ layouts.Row → null_bit q row x ≡ x
null_bit-row q row x e = ap (λ (l : Layout). null_bit_in l row x) e

-- Cells

-- the cell of a null bit and a word may stand in its column
pub cell_of-fits : (kind : Kind) (len : ℕ) (null : Bool) (word : ℕ) → FitsKind kind len (cell_of kind len null word)
cell_of-fits kind len true word = tt
cell_of-fits kinds.Int len false word = λ e. false≢true (ap is_text e)
cell_of-fits kinds.Text len false word = elim (cases_lt word len) [
  | inl low ↦ rw (lt-ltb word len low) (refl, low)
  | inr high ↦ rw (le-ltb word len high) tt
]
cell_of-fits (kinds.Dec places) len false word = λ e. false≢true (ap is_text e)

-- a lane of numbers has their cells
pub number_lane : (places len word : ℕ) (null : Bool) → let cell : Cell = if null then Null else Int (cast_signed w64 word) in (cell ≡ cell_of kinds.Int len null word) × (cell ≡ cell_of (kinds.Dec places) len null word)
number_lane places len word true = (refl, refl)
number_lane places len word false = (refl, refl)

-- a lane of codes in which each word that is no code is marked NULL has the cells of texts; a is the null bit that was read, b the bit of a word that is no code
pub text_lane : (len word a b : ℕ) → len < 2 ^ 32 → a < 2 → b < 2 → (b == 1) ≡ nat_le len word → (if max a b == 1 then Null else Code (word % 2 ^ 32)) ≡ cell_of kinds.Text len (a == 1) word
text_lane len word a b small one two is = elim (cases_eq a 1) [
  | inl e ↦ let m : max a b ≡ 1 = omega (arith, e, two) in rw (eq-eqb a 1 e, eq-eqb (max a b) 1 m) refl
  | inr n ↦
      let m : max a b ≡ b = omega (arith, one, n) in
      rw (ne_eqb a 1 n, m, is) (elim (cases_lt word len) [
        | inl low ↦ let same : word % 2 ^ 32 ≡ word = omega (arith, low, small) in rw (lt-leb len word low, lt-ltb word len low, same) refl
        | inr high ↦ rw (le-leb len word high, le-ltb word len high) refl
      ])
]

-- the last of a column's words is one of the piece, and in the row layout so is the last word with null bits
pub last_value : (q : Piece) (s : Span) (x : ℕ) → IsSpan q.rows s → HasColumn q x → value_place q s.first x + (s.count - 1) * row_step q < words_in q
last_value q s x span has =
    let there = value_place-lt q (s.first + (s.count - 1)) x (omega (arith, span.1, span.3)) has in
    subst (λ (n : ℕ). n < words_in q) (value_place-more q s.first (s.count - 1) x) there

pub last_null : (q : Piece) (s : Span) → q.layout ≡ layouts.Row → IsSpan q.rows s → null_place q s.first + (s.count - 1) * row_step q < words_in q
last_null q s e span =
    let there = null_place-lt q (s.first + (s.count - 1)) (omega (arith, span.1, span.3)) in
    subst (λ (n : ℕ). n < words_in q) (null_place-more q s.first (s.count - 1) e) there

-- the bits that the mask words have at a column are its null bits
pub mask_bits : (told : Told) (pins : List Pin) (f : ℕ) (q : Piece) (s : Span) (x : ℕ) (masks : List ℕ) → q.layout ≡ layouts.Row → length masks ≡ s.count
    → ((i : ℕ) → i < s.count → IsWordOf told pins f (null_place q (s.first + i)) (get_or masks i 0)) → HasNullBits told pins f q s x (bits (λ i. bit_at (get_or masks i 0) x == 1) (length masks))
mask_bits told pins f q s x masks e len are i low =
    (get_or masks i 0, are i low, bit_at-bits (λ j. bit_at (get_or masks j 0) x == 1) (length masks) i (omega (arith, low, len)) ∙ ap (λ (b : ℕ). bit_at (get_or masks i 0) b == 1) (sym (null_bit-row q (s.first + i) x e)))

-- in the column layout the null bits of rows from a multiple of 64 on are those of one word
pub shared_bits : (told : Told) (pins : List Pin) (f : ℕ) (q : Piece) (s : Span) (x word : ℕ) → q.layout ≡ layouts.Column → IsSpan q.rows s → IsWordOf told pins f (null_place q s.first) word
    → HasNullBits told pins f q s x word
shared_bits told pins f q s x word e span is i low =
    let near : i < 64 = omega (arith, low, span.2) in
    (word, subst (λ (n : ℕ). IsWordOf told pins f n word) (sym (null_place-shared q s.first i e span.0 near)) is, ap (λ (b : ℕ). bit_at word b == 1) (sym (null_bit-own q s.first i x e span.0 near)))

-- Lanes

read_at : (told : Told) (z : TableShape) (pins : List Pin) (p f : ℕ) (s : Span) (x nulls : ℕ) (words : List ℕ) (lane : Lane) → let q = piece_at z p in p < pieces z → pinned f pins ≡ Some p → length words ≡ s.count
    → ((i : ℕ) → i < s.count → lane_cell lane i ≡ cell_of (kind_at z x) (dict_len_at z x) (bit_at nulls i == 1) (get_or words i 0))
    → IsSpan q.rows s → HasColumn q x → HasNullBits told pins f q s x nulls → AreWordsOf told pins f (value_place q s.first x) (row_step q) words → IsLaneOf told z (chunk_of z p) s x lane
read_at told z pins p f s x nulls words lane there is len cells span has bits are = record {
  fits = λ i low. subst (λ (cell : Cell). FitsKind (kind_at z x) (dict_len_at z x) cell) (sym (cells i low)) (cell_of-fits (kind_at z x) (dict_len_at z x) (bit_at nulls i == 1) (get_or words i 0));
  is = λ held rows table i low.
      let q = piece_at z p in
      let null = bits i low in
      let word = subst (λ (n : ℕ). IsWordOf told pins f n (get_or words i 0)) (sym (value_place-more q s.first i x)) (are i (omega (arith, low, len))) in
      cells i low
      ∙ (ap (λ (b : Bool). cell_of (kind_at z x) (dict_len_at z x) b (get_or words i 0)) null.2
      ∙ cell_read held told z rows pins p f (s.first + i) x null.0 (get_or words i 0) table there is (omega (arith, low, span.3)) has null.1 word);
}

-- the cells of words that were read under a pin are the column's
pub lane_read : (told : Told) (z : TableShape) (pins : List Pin) (p f : ℕ) (q : Piece) (s : Span) (x nulls : ℕ) (words : List ℕ) (lane : Lane) → q ≡ piece_at z p → p < pieces z → pinned f pins ≡ Some p → length words ≡ s.count
    → ((i : ℕ) → i < s.count → lane_cell lane i ≡ cell_of (kind_at z x) (dict_len_at z x) (bit_at nulls i == 1) (get_or words i 0))
    → IsSpan q.rows s → HasColumn q x → HasNullBits told pins f q s x nulls → AreWordsOf told pins f (value_place q s.first x) (row_step q) words → IsLaneOf told z (chunk_of z p) s x lane
lane_read told z pins p f q s x nulls words lane e there is len cells =
    subst (λ (r : Piece). IsSpan r.rows s → HasColumn r x → HasNullBits told pins f r s x nulls → AreWordsOf told pins f (value_place r s.first x) (row_step r) words → IsLaneOf told z (chunk_of z p) s x lane) (sym e)
    (read_at told z pins p f s x nulls words lane there is len cells)

-- Blocks

module _ (told : Told) (z : TableShape) (c first : ℕ) (columns : List ℕ) where
  -- what is read of a lane comes into the places of its column
  pub lane_place : (s : Span) (x i : ℕ) (lane : Lane) → s.first ≡ first → IsLaneOf told z c s x lane → has columns x ≡ true → i < s.count → IsForPlace told z c (first + i) columns x (lane_cell lane i)
  lane_place s x i lane e is named low = record {
    fits = λ _. is.fits i low;
    other = λ absent. absurd (not_both (has columns x) named absent);
    is = λ held rows table _. subst (λ (n : ℕ). lane_cell lane i ≡ cell_at (chunk rows z.per c) (n + i) x) e (is.is held rows table i low);
  }

  -- the cell of a column after a lane was put into the block
  after : (b b' : BlockView) (x i y : ℕ) (lane : Lane) → b'.width ≡ b.width → y < b.width → lane_at b' y ≡ (if y == x then lane else lane_at b y) → in_place (row_at b' i) y ≡ lane_cell (if y == x then lane else lane_at b y) i
  after b b' x i y lane width low is = cell-row b' i y (omega (arith, width, low)) ∙ ap (λ (l : Lane). lane_cell l i) is

  -- and of another column
  other_place : (b b' : BlockView) (x i y : ℕ) (lane : Lane) → b'.width ≡ b.width → ((y : ℕ) → y < b.width → lane_at b' y ≡ (if y == x then lane else lane_at b y)) → (y ≡ x → ⊥) → y < b.width
      → in_place (row_at b' i) y ≡ in_place (row_at b i) y
  other_place b b' x i y lane width lanes ne low =
      after b b' x i y lane width low (lanes y low)
      ∙ (ap (λ (t : Bool). lane_cell (if t then lane else lane_at b y) i) (ne_eqb y x ne) ∙ sym (cell-row b i y low))

  -- one column more was read
  pub one_lane_more : (b b' : BlockView) (x : ℕ) (lane : Lane) (read read' : ℕ → Type 0) → has columns x ≡ true → b'.count ≡ b.count → b'.width ≡ b.width
      → ((y : ℕ) → y < b.width → lane_at b' y ≡ (if y == x then lane else lane_at b y))
      → ((i : ℕ) → i < b.count → IsForPlace told z c (first + i) columns x (lane_cell lane i))
      → ((y : ℕ) → read' y → (y < b.width) × ((y ≡ x → ⊥) → read y))
      → HasRead told z c first columns read b → HasRead told z c first columns read' b'
  one_lane_more b b' x lane read read' named count width lanes here more before = record {
    places = λ i y low is. let at = more y is in let low' : i < b.count = omega (arith, low, count) in
        elim (cases_eq y x) [
          | inl e ↦ subst (λ (cell : Cell). IsForPlace told z c (first + i) columns y cell) (sym (after b b' x i y lane width at.0 (lanes y at.0) ∙ ap (λ (t : Bool). lane_cell (if t then lane else lane_at b y) i) (eq-eqb y x e)))
              (subst (λ (n : ℕ). IsForPlace told z c (first + i) columns n (lane_cell lane i)) (sym e) (here i low'))
          | inr ne ↦ subst (λ (cell : Cell). IsForPlace told z c (first + i) columns y cell) (sym (other_place b b' x i y lane width lanes ne at.0)) (before.places i y low' (at.1 ne))
        ];
    others = λ i low y inside absent.
        let low' : i < b.count = omega (arith, low, count) in
        let near : y < b.width = (let n = length-row b' i in omega (arith, inside, n, width)) in
        let ne : y ≡ x → ⊥ = λ e. not_both (has columns y) (ap (has columns) e ∙ named) absent in
        other_place b b' x i y lane width lanes ne near ∙ before.others i low' y (let n = length-row b i in omega (arith, near, n)) absent;
  }

  -- a column that isn't asked for was passed over
  pub one_other_more : (b : BlockView) (x : ℕ) (read read' : ℕ → Type 0) → has columns x ≡ false
      → ((y : ℕ) → read' y → (y < b.width) × ((y ≡ x → ⊥) → read y))
      → HasRead told z c first columns read b → HasRead told z c first columns read' b
  one_other_more b x read read' absent more before = record {
    places = λ i y low is. let at = more y is in
        elim (cases_eq y x) [
          | inl e ↦ record {
            fits = λ named. absurd (not_both (has columns y) named (ap (has columns) e ∙ absent));
            other = λ not. before.others i low y (let n = length-row b i in omega (arith, at.0, n)) not;
            is = λ held rows table named. absurd (not_both (has columns y) named (ap (has columns) e ∙ absent));
          }
          | inr ne ↦ before.places i y low (at.1 ne)
        ];
    others = before.others;
  }

  -- each column of a block that was begun is NULL
  pub begun_null : (b : BlockView) (count width : ℕ) → b.count ≡ count → b.width ≡ width → ((i x : ℕ) → i < count → x < width → lane_cell (lane_at b x) i ≡ Null) → EachRow (λ i cells. OthersAreNull columns cells) b
  begun_null b count width counts wide null i low x inside absent =
      let near : x < b.width = (let n = length-row b i in omega (arith, inside, n)) in
      cell-row b i x near ∙ null i x (omega (arith, low, counts)) (omega (arith, near, wide))

  -- a block whose other columns are NULL has read none
  pub none_read : (b : BlockView) (read : ℕ → Type 0) → ((x : ℕ) → read x → ⊥) → EachRow (λ i cells. OthersAreNull columns cells) b → HasRead told z c first columns read b
  none_read b read none others = record { places = λ i x low is. absurd (none x is); others = others }

no_members : (columns : List ℕ) (x : ℕ) → length columns ≡ 0 → has columns x ≡ false
no_members [] x e = refl
no_members (y ∷ ys) x e = absurd (omega (arith, e))

-- where no column is asked for, nothing is left to read
pub none_asked : (told : Told) (z : TableShape) (c first : ℕ) (columns : List ℕ) (b : BlockView) → length columns ≡ 0 → EachRow (λ i cells. OthersAreNull columns cells) b → HasReadAll told z c first columns b
none_asked told z c first columns b none others = record {
  places = λ i x low inside. record {
    fits = λ named. absurd (not_both (has columns x) named (no_members columns x none));
    other = λ absent. others i low x (let n = length-row b i in omega (arith, inside, n)) absent;
    is = λ held rows table named. absurd (not_both (has columns x) named (no_members columns x none));
  };
  others = others;
}
