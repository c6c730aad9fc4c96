-- Words that break the rules, and the first of them.
use Rattle.std.specs.Prelude.{◌≡◌, ◌<◌, ◌^◌, ◌==◌, ◌&&◌, ℕ, Bool, true, false, not, nat_le}
use Rattle.table_core.specs.declared.schema.Kind.{Kind}
use Rattle.table_core.specs.declared.schema.Kind.TheVariants as kinds
use Rattle.piece_format.specs.declared.pieces.Piece.{Piece}
use Rattle.piece_format.specs.Cells.{FitsKind, dict_len_at, is_null, kind_at}
use Rattle.piece_format.specs.Reading.{HasColumn, cell_in, null_in}
use Rattle.piece_format.specs.Shape.{TableShape, words_in}
use Rattle.piece_format.specs.Words.{Slot, nulls, slot_at, value}

abbrev pub is_text : Kind → Bool
is_text kinds.Int = false
is_text kinds.Text = true
is_text (kinds.Dec places) = false

-- a value word breaks the rules where it isn't 0 though there is no value, or where it is no code of a column of texts
abbrev pub is_broken_value : Kind → ℕ → Bool → ℕ → Bool
is_broken_value kind len true word = not (word == 0)
is_broken_value kind len false word = is_text kind && nat_le len word

-- a word of null bits breaks the rules where a bit is set that names no cell
abbrev pub is_broken_slot : TableShape → Piece → (ℕ → ℕ) → Slot → ℕ → Bool
is_broken_slot s q word (value row x) w = is_broken_value (kind_at s x) (dict_len_at s x) (null_in q word row x) w
is_broken_slot s q word (nulls count row x) w = nat_le (2 ^ count) w

-- the word at a place breaks the rules
abbrev pub is_broken : TableShape → Piece → (ℕ → ℕ) → ℕ → Bool
is_broken s q word i = is_broken_slot s q word (slot_at q i) (word i)

-- no word before a place breaks the rules
abbrev pub NoneBroken : TableShape → Piece → (ℕ → ℕ) → ℕ → Type 0
NoneBroken s q word end = (i : ℕ) → i < end → is_broken s q word i ≡ false

-- the first word that breaks the rules
pub record IsLeastBroken (s : TableShape) (q : Piece) (word : ℕ → ℕ) (i : ℕ) : Type 0 where
  pub inside : i < words_in q
  pub broken : is_broken s q word i ≡ true
  pub least : NoneBroken s q word i

-- each cell fits its column, and has no value exactly where its null bit is set
pub record IsSoundCell (s : TableShape) (q : Piece) (word : ℕ → ℕ) (row x : ℕ) : Type 0 where
  pub fits : FitsKind (kind_at s x) (dict_len_at s x) (cell_in s q word row x)
  pub marked : is_null (cell_in s q word row x) ≡ null_in q word row x

abbrev pub AreSoundCells : TableShape → Piece → (ℕ → ℕ) → Type 0
AreSoundCells s q word = (row x : ℕ) → row < q.rows → HasColumn q x → IsSoundCell s q word row x
