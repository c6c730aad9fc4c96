-- What words of a piece give back: each cell, and no word that breaks the rules.
use Rattle.std.proofs.Common.{◌≡◌, ◌≢◌, ◌∙◌, ◌+◌, ◌-◌, ◌*◌, ◌/◌, ◌%◌, ◌^◌, ◌<◌, ◌≤◌, ◌==◌, ◌⊎◌, ℕ, List, [], Bool, true, false, min, Result, Ok, Err, IsOk, IfErr, length, get_or, drop, arith, refl, sym, ap, subst, inl, inr}
use Rattle.std.proofs.lemmas.Bool.{cases_eq, cases_lt, lt-ltb, le-ltb, lt-leb, leb-false, ne_eqb, false≢true}
use Rattle.std.proofs.Math.Nat.{add-mul, div-lt_iff_lt-mul, mod-eq_of_lt, mod-le, mod-lt, mul-le-mul_right, pow-le-pow_right}
use Rattle.std.proofs.lemmas.List.{get_or-take, get_or-drop}
use Rattle.std.proofs.lemmas.List.FromFn.{get_or-map-range_with_len, length-map-range_with_len}
use Rattle.std.specs.Int.{bit_at}
use Rattle.table_core.specs.Chunk.{chunk_end}
use Rattle.table_core.specs.declared.cell.Cell.{Cell}
use Rattle.table_core.specs.declared.cell.Cell.TheVariants.{Null, Int, Code}
use Rattle.table_core.specs.declared.schema.Kind.{Kind}
use Rattle.table_core.specs.declared.schema.Kind.TheVariants as kinds
use Rattle.piece_format.specs.declared.layout.Layout.{Layout}
use Rattle.piece_format.specs.declared.layout.Layout.TheVariants as layouts
use Rattle.piece_format.specs.declared.pieces.Piece.{Piece}
use Rattle.piece_format.specs.Broken.{AreSoundCells, IsLeastBroken, NoneBroken, is_broken_slot, is_broken_value, is_text}
use Rattle.piece_format.specs.Bytes.{bytes_of, word_of}
use Rattle.piece_format.specs.Cells.{AreRowsOf, FitsKind, cell_at, cell_of, dict_len_at, is_null, kind_at, piece_rows, value_word}
use Rattle.piece_format.specs.Encoding.{AreFirst, IsKept}
use Rattle.piece_format.specs.Reading.{GivesBack, HasColumn, HasColumnIn, cell_in, null_bit_in, null_in, null_place, null_place_in, value_place, value_place_in}
use Rattle.piece_format.specs.Shape.{IsPiece, TableShape, chunk_of, groups_in, piece_at, word_count, words_in}
use Rattle.piece_format.specs.Words.{Slot, first_words, nulls, piece_words, slot_at, slot_in, slot_word, value}
use Rattle.piece_format.specs.declared.checking.Damage.{Damage}
use Rattle.piece_format.proofs.Bytes.{word_of-bytes}
use Rattle.piece_format.proofs.Bits.{bit_at-bits, bits-lt}
use Rattle.piece_format.proofs.Places.{mask_slot, row_value_slot, column_value_slot, null_slot}

-- ---- where the words of a cell stand

pub one_row : (rows row columns : ℕ) → row < rows → row * (columns + 1) + (columns + 1) ≤ rows * (columns + 1)
one_row rows row columns low =
    let e : (row + 1) * (columns + 1) ≡ row * (columns + 1) + (columns + 1) = omega (arith, add-mul row 1 (columns + 1)) in
    let fits : (row + 1) * (columns + 1) ≤ rows * (columns + 1) = mul-le-mul_right (columns + 1) (omega arith) in
    omega (arith, e, fits)

null_place_in-lt : (l : Layout) (q : Piece) (row : ℕ) → row < q.rows → null_place_in l q row < word_count l q.columns q.rows
null_place_in-lt layouts.Row q row low = omega (arith, one_row q.rows row q.columns low)
null_place_in-lt layouts.Column q row low = omega arith

pub null_place-lt : (q : Piece) (row : ℕ) → row < q.rows → null_place q row < words_in q
null_place-lt q row low = null_place_in-lt q.layout q row low

value_place_in-lt : (l : Layout) (q : Piece) (row x : ℕ) → row < q.rows → HasColumnIn l q x → value_place_in l q row x < word_count l q.columns q.rows
value_place_in-lt layouts.Row q row x low has = omega (arith, has, one_row q.rows row q.columns low)
value_place_in-lt layouts.Column q row x low has = omega arith

pub value_place-lt : (q : Piece) (row x : ℕ) → row < q.rows → HasColumn q x → value_place q row x < words_in q
value_place-lt q row x low has = value_place_in-lt q.layout q row x low has

-- a column of the piece is one of the table
has_column-lt : (l : Layout) (q : Piece) (x : ℕ) → q.group < groups_in l q.columns → HasColumnIn l q x → x < q.columns
has_column-lt layouts.Row q x group has = has
has_column-lt layouts.Column q x group has = omega (arith, group, has)

pub column-lt : (q : Piece) (x : ℕ) → IsPiece q → HasColumn q x → x < q.columns
column-lt q x small has = has_column-lt q.layout q x small.group_in has

-- what stands at the place of a cell's value word
pub value_slot : (q : Piece) (row x : ℕ) → row < q.rows → HasColumn q x → slot_at q (value_place q row x) ≡ value row x
value_slot q row x low has = by q.layout refl has where
  by : (l : Layout) → q.layout ≡ l → HasColumnIn l q x → slot_at q (value_place_in l q row x) ≡ value row x
  by layouts.Row here has = row_value_slot q row x here has
  by layouts.Column here has = column_value_slot q row here low ∙ ap (value row) (sym has)

-- ---- what stands at each place

pub record IsValue (q : Piece) (i : ℕ) : Type 0 where
  pub row : ℕ
  pub x : ℕ
  pub low : row < q.rows
  pub has : HasColumn q x
  pub slot : slot_at q i ≡ value row x

pub record IsNulls (q : Piece) (i : ℕ) : Type 0 where
  pub count : ℕ
  pub row : ℕ → ℕ
  pub x : ℕ → ℕ
  pub slot : slot_at q i ≡ nulls count row x

slot_in-cases : (l : Layout) (q : Piece) (i : ℕ) → q.layout ≡ l → i < word_count l q.columns q.rows → IsValue q i ⊎ IsNulls q i
slot_in-cases layouts.Row q i here low =
    let width = q.columns + 1 in
    elim (cases_eq (i % width) 0) [
      | inl mask ↦ inr (record { count = q.columns; row = λ _. i / width; x = λ bit. bit; slot = rw (here, mask) refl })
      | inr ne ↦ inl (record {
        row = i / width;
        x = i % width - 1;
        low = (div-lt_iff_lt-mul {k = width} {x = i} {y = q.rows} (omega arith)).1 low;
        has = rw here (let small : i % width < width = mod-lt i (omega arith) in omega (arith, ne, small));
        slot = rw (here, ne_eqb (i % width) 0 ne) refl;
      })
    ]
slot_in-cases layouts.Column q i here low = elim (cases_lt i q.rows) [
  | inl before ↦ inl (record { row = i; x = q.group; low = before; has = rw here refl; slot = rw (here, lt-ltb i q.rows before) refl })
  | inr late ↦
      let from = 64 * (i - q.rows) in
      inr (record { count = min 64 (q.rows - from); row = λ bit. from + bit; x = λ _. q.group; slot = rw (here, le-ltb i q.rows late) refl })
]

pub slot_cases : (q : Piece) (i : ℕ) → i < words_in q → IsValue q i ⊎ IsNulls q i
slot_cases q i low = slot_in-cases q.layout q i refl low

-- ---- words that are those of cells

-- the null words are those of the cells, and the value words aren't greater
pub record Copies (q : Piece) (cell : ℕ → ℕ → Cell) (word : ℕ → ℕ) : Type 0 where
  pub null_words : (i count : ℕ) (row x : ℕ → ℕ) → i < words_in q → slot_at q i ≡ nulls count row x → word i ≡ slot_word cell (nulls count row x)
  pub value_words : (i row x : ℕ) → i < words_in q → slot_at q i ≡ value row x → word i ≤ value_word (cell row x)

pub null_bit-is : (q : Piece) (cell : ℕ → ℕ → Cell) (word : ℕ → ℕ) → Copies q cell word → (row x : ℕ) → row < q.rows → HasColumn q x → null_in q word row x ≡ is_null (cell row x)
null_bit-is q cell word copies row x low has = by q.layout refl has where
  by : (l : Layout) → q.layout ≡ l → HasColumnIn l q x → (bit_at (word (null_place_in l q row)) (null_bit_in l row x) == 1) ≡ is_null (cell row x)
  by layouts.Row here has =
      let there : row * (q.columns + 1) < words_in q = subst (λ l. null_place_in l q row < words_in q) here (null_place-lt q row low) in
      let is = copies.null_words (row * (q.columns + 1)) q.columns (λ _. row) (λ bit. bit) there (mask_slot q row here) in
      ap (λ w. bit_at w x == 1) is ∙ bit_at-bits (λ b. is_null (cell row b)) q.columns x has
  by layouts.Column here has =
      let k = row / 64 in
      let count = min 64 (q.rows - 64 * k) in
      let there : q.rows + k < words_in q = subst (λ l. null_place_in l q row < words_in q) here (null_place-lt q row low) in
      let is = copies.null_words (q.rows + k) count (λ bit. 64 * k + bit) (λ _. q.group) there (null_slot q k here) in
      let e : 64 * k + row % 64 ≡ row = omega arith in
      ap (λ w. bit_at w (row % 64) == 1) is
      ∙ bit_at-bits (λ b. is_null (cell (64 * k + b) q.group)) count (row % 64) (omega arith)
      ∙ ap (λ r. is_null (cell r q.group)) e
      ∙ ap (λ y. is_null (cell row y)) (sym has)

not_text : (kind : Kind) → kind ≢ kinds.Text → is_text kind ≡ false
not_text kinds.Int ne = refl
not_text kinds.Text ne = absurd (ne refl)
not_text (kinds.Dec places) ne = refl

sound_value : (kind : Kind) (len : ℕ) (cell : Cell) (w : ℕ) → FitsKind kind len cell → w ≤ value_word cell → is_broken_value kind len (is_null cell) w ≡ false
sound_value kind len Null w fits low = let zero_word : w ≡ 0 = omega (arith, low) in rw zero_word refl
sound_value kind len (Int n) w fits low = rw (not_text kind fits) refl
sound_value kind len (Code c) w fits low = rw (fits.0, lt-leb len w (omega (arith, fits.1, low))) refl

-- none of them breaks the rules
pub none_broken : (s : TableShape) (q : Piece) (cell : ℕ → ℕ → Cell) (word : ℕ → ℕ) → Copies q cell word
    → ((row x : ℕ) → row < q.rows → HasColumn q x → FitsKind (kind_at s x) (dict_len_at s x) (cell row x)) → NoneBroken s q word (words_in q)
none_broken s q cell word copies fits i low = elim (slot_cases q i low) [
  | inl v ↦
      ap (λ slot. is_broken_slot s q word slot (word i)) v.slot
      ∙ ap (λ null. is_broken_value (kind_at s v.x) (dict_len_at s v.x) null (word i)) (null_bit-is q cell word copies v.row v.x v.low v.has)
      ∙ sound_value (kind_at s v.x) (dict_len_at s v.x) (cell v.row v.x) (word i) (fits v.row v.x v.low v.has) (copies.value_words i v.row v.x low v.slot)
  | inr n ↦
      ap (λ slot. is_broken_slot s q word slot (word i)) n.slot
      ∙ lt-leb (2 ^ n.count) (word i) (rw (copies.null_words i n.count n.row n.x low n.slot) (bits-lt (λ b. is_null (cell (n.row b) (n.x b))) n.count))
]

-- they give the cells back
pub cells_back : (s : TableShape) (q : Piece) (cell : ℕ → ℕ → Cell) (word : ℕ → ℕ) → ((i : ℕ) → i < words_in q → word i ≡ slot_word cell (slot_at q i)) → Copies q cell word
    → ((i row x : ℕ) → i < words_in q → slot_at q i ≡ value row x → IsKept (cell row x))
    → (row x : ℕ) → row < q.rows → HasColumn q x → FitsKind (kind_at s x) (dict_len_at s x) (cell row x) → cell_in s q word row x ≡ cell row x
cells_back s q cell word exact copies kept row x low has fits =
    let place = value_place q row x in
    let slot = value_slot q row x low has in
    let there = value_place-lt q row x low has in
    let is : word place ≡ value_word (cell row x) = exact place there ∙ ap (slot_word cell) slot in
    ap (λ null. cell_of (kind_at s x) (dict_len_at s x) null (word place)) (null_bit-is q cell word copies row x low has)
    ∙ ap (cell_of (kind_at s x) (dict_len_at s x) (is_null (cell row x))) is
    ∙ kept place row x there slot (kind_at s x) (dict_len_at s x) fits

-- ---- the words of a table

-- the word at a place of those that were put
pub word_is : (q : Piece) (cell : ℕ → ℕ → Cell) (count : ℕ) (words : List ℕ) → words ≡ first_words q cell count → (i : ℕ) → i < count → get_or words i 0 ≡ slot_word cell (slot_at q i)
word_is q cell count words are i low = ap (λ ws. get_or ws i 0) are ∙ get_or-map-range_with_len (λ j. slot_word cell (slot_at q j)) 0 count i i 0 low (omega arith)

pub copies_exact : (q : Piece) (cell : ℕ → ℕ → Cell) (word : ℕ → ℕ) → ((i : ℕ) → i < words_in q → word i ≡ slot_word cell (slot_at q i)) → Copies q cell word
copies_exact q cell word exact = record {
  null_words = λ i count row x low slot. exact i low ∙ ap (slot_word cell) slot;
  value_words = λ i row x low slot. let e = exact i low ∙ ap (slot_word cell) slot in omega (arith, e);
}

-- each cell of a chunk of rows that fit the shape fits its column
pub chunk_fits : (s : TableShape) (rows : List (List Cell)) (p : ℕ) → AreRowsOf s rows → (row x : ℕ) → row < (piece_at s p).rows → x < length s.kinds
    → FitsKind (kind_at s x) (dict_len_at s x) (cell_at (piece_rows s rows p) row x)
chunk_fits s rows p are row x low there =
    let c = chunk_of s p in
    let from = c * s.per in
    let e : cell_at (piece_rows s rows p) row x ≡ cell_at rows (from + row) x =
    ap (λ (r : List Cell). get_or r x Null) (get_or-take (chunk_end (length rows) s.per c - from) (drop from rows) row [] (rw are.count low) ∙ get_or-drop from rows row []) in
    rw e (are.fits (from + row) x (omega (arith, low)) there)

-- all words of a piece of a table's rows
abbrev pub AreAll : TableShape → List (List Cell) → ℕ → List ℕ → Type 0
AreAll s rows p words = AreFirst (piece_at s p) (cell_at (piece_rows s rows p)) (words_in (piece_at s p)) words

-- the words that were put from the rows as a table gives them
pub all_put : (s : TableShape) (rows : List (List Cell)) (p : ℕ) (q : Piece) (part : List (List Cell)) (words : List ℕ) → q ≡ piece_at s p → part ≡ piece_rows s rows p
    → AreFirst q (cell_at part) (words_in q) words → AreAll s rows p words
all_put s rows p q part words is rows_are first =
    subst (λ (r : Piece). AreFirst r (cell_at (piece_rows s rows p)) (words_in r) words) is (subst (λ (t : List (List Cell)). AreFirst q (cell_at t) (words_in q) words) rows_are first)

pub all_words : (s : TableShape) (rows : List (List Cell)) (p : ℕ) (words : List ℕ) → AreAll s rows p words → words ≡ piece_words s rows p
unfolding piece_words
all_words s rows p words first = first.are

pub all_back : (s : TableShape) (rows : List (List Cell)) (p : ℕ) (words : List ℕ) (word : ℕ → ℕ) → IsPiece (piece_at s p) → AreRowsOf s rows → AreAll s rows p words
    → ((i : ℕ) → i < words_in (piece_at s p) → word i ≡ get_or words i 0) → GivesBack s rows p word
all_back s rows p words word small are first same row x low has =
    let q = piece_at s p in
    let cell = cell_at (piece_rows s rows p) in
    let exact : (i : ℕ) → i < words_in q → word i ≡ slot_word cell (slot_at q i) = λ i there. same i there ∙ word_is q cell (words_in q) words first.are i there in
    cells_back s q cell word exact (copies_exact q cell word exact) first.kept row x low has (chunk_fits s rows p are row x low (column-lt q x small has))

pub all_sound : (s : TableShape) (rows : List (List Cell)) (p : ℕ) (words : List ℕ) → IsPiece (piece_at s p) → AreRowsOf s rows → AreAll s rows p words
    → NoneBroken s (piece_at s p) (λ i. get_or words i 0) (words_in (piece_at s p))
all_sound s rows p words small are first =
    let q = piece_at s p in
    let cell = cell_at (piece_rows s rows p) in
    none_broken s q cell (λ i. get_or words i 0) (copies_exact q cell (λ i. get_or words i 0) (word_is q cell (words_in q) words first.are))
    (λ row x low has. chunk_fits s rows p are row x low (column-lt q x small has))

pub length-all : (s : TableShape) (rows : List (List Cell)) (p : ℕ) (words : List ℕ) → AreAll s rows p words → length words ≡ words_in (piece_at s p)
length-all s rows p words first =
    ap length first.are ∙ length-map-range_with_len (λ i. slot_word (cell_at (piece_rows s rows p)) (slot_at (piece_at s p) i)) 0 (words_in (piece_at s p))

-- ---- cells of words that break no rule

cell_of-fits : (kind : Kind) (len : ℕ) (null : Bool) (w : ℕ) → FitsKind kind len (cell_of kind len null w)
cell_of-fits kind len true w = tt
cell_of-fits kinds.Int len false w = λ e. false≢true (ap is_text e)
cell_of-fits kinds.Text len false w = elim (cases_lt w len) [
  | inl low ↦ rw (lt-ltb w len low) (refl, low)
  | inr high ↦ rw (le-ltb w len high) tt
]
cell_of-fits (kinds.Dec places) len false w = λ e. false≢true (ap is_text e)

cell_of-marked : (kind : Kind) (len : ℕ) (null : Bool) (w : ℕ) → is_broken_value kind len null w ≡ false → is_null (cell_of kind len null w) ≡ null
cell_of-marked kind len true w sound = refl
cell_of-marked kinds.Int len false w sound = refl
cell_of-marked kinds.Text len false w sound = rw (lt-ltb w len (leb-false len w sound)) refl
cell_of-marked (kinds.Dec places) len false w sound = refl

pub sound_cells : (s : TableShape) (q : Piece) (word : ℕ → ℕ) → NoneBroken s q word (words_in q) → AreSoundCells s q word
sound_cells s q word none row x low has =
    let place = value_place q row x in
    let sound : is_broken_value (kind_at s x) (dict_len_at s x) (null_in q word row x) (word place) ≡ false =
    sym (ap (λ slot. is_broken_slot s q word slot (word place)) (value_slot q row x low has)) ∙ none place (value_place-lt q row x low has) in
    record {
      fits = cell_of-fits (kind_at s x) (dict_len_at s x) (null_in q word row x) (word place);
      marked = cell_of-marked (kind_at s x) (dict_len_at s x) (null_in q word row x) (word place) sound;
    }

-- ---- bytes of the words of a table

abbrev null_count : Slot → ℕ
null_count (value row x) = 0
null_count (nulls count row x) = count

few_in : (l : Layout) (q : Piece) (i : ℕ) → q.columns ≤ 16 → null_count (slot_in l q i) ≤ 64
few_in layouts.Row q i few = elim (cases_eq (i % (q.columns + 1)) 0) [
  | inl mask ↦ rw mask (omega arith)
  | inr ne ↦ rw (ne_eqb (i % (q.columns + 1)) 0 ne) (omega arith)
]
few_in layouts.Column q i few = elim (cases_lt i q.rows) [
  | inl before ↦ rw (lt-ltb i q.rows before) (omega arith)
  | inr late ↦ rw (le-ltb i q.rows late) (omega arith)
]

pub encoded_sound : (s : TableShape) (rows : List (List Cell)) (p : ℕ) (bytes : List ℕ) → IsPiece (piece_at s p) → AreRowsOf s rows → bytes ≡ bytes_of (piece_words s rows p)
    → NoneBroken s (piece_at s p) (word_of bytes) (words_in (piece_at s p))
unfolding piece_words
encoded_sound s rows p bytes small are is =
    let q = piece_at s p in
    let cell = cell_at (piece_rows s rows p) in
    let words = piece_words s rows p in
    let long : length words ≡ words_in q = length-map-range_with_len (λ i. slot_word cell (slot_at q i)) 0 (words_in q) in
    let word : (i : ℕ) → i < words_in q → word_of bytes i ≡ slot_word cell (slot_at q i) % 2 ^ 64 =
    λ i low. ap (λ b. word_of b i) is ∙ word_of-bytes words i (omega (arith, low, long)) ∙ ap (λ w. w % 2 ^ 64) (word_is q cell (words_in q) words refl i low) in
    let copies : Copies q cell (word_of bytes) = record {
      null_words = λ i count row x low slot.
          let few : count ≤ 64 = subst (λ t. null_count t ≤ 64) slot (few_in q.layout q i small.few_columns) in
          let below : slot_word cell (nulls count row x) < 2 ^ 64 = omega (arith, bits-lt (λ b. is_null (cell (row b) (x b))) count, pow-le-pow_right {n = 2} (omega arith) {i = count} {j = 64} few) in
          word i low ∙ ap (λ t. slot_word cell t % 2 ^ 64) slot ∙ mod-eq_of_lt below;
      value_words = λ i row x low slot. omega (arith, word i low, ap (slot_word cell) slot, mod-le (slot_word cell (slot_at q i)) (2 ^ 64));
    } in
    none_broken s q cell (word_of bytes) copies (λ row x low has. chunk_fits s rows p are row x low (column-lt q x small has))

-- where no word breaks the rules there is none to be named
pub is_ok : (s : TableShape) (q : Piece) (word : ℕ → ℕ) (r : Result (Unit {0}) Damage) → IfErr r (λ d. IsLeastBroken s q word d.word) → NoneBroken s q word (words_in q) → IsOk r
is_ok s q word (Ok v) least none = refl
is_ok s q word (Err d) least none = absurd (false≢true (sym (none d.word least.inside) ∙ least.broken))
