-- What the check goes by: how far value words may go, and what stands at a place as code tells it.
use Rattle.std.specs.Prelude.{◌≡◌, ◌<◌, ◌≤◌, ◌^◌, ◌==◌, ℕ, Bool, not, nat_le, if◌then◌else◌, List, length, slice_index}
use Rattle.std.specs.Int.{bit_at}
use Rattle.table_core.specs.declared.schema.Kind.{Kind}
use Rattle.table_core.specs.declared.schema.Kind.TheVariants as kinds
use Rattle.piece_format.specs.declared.pieces.Piece.{Piece}
use Rattle.piece_format.specs.declared.pieces.Stands.{Stands}
use Rattle.piece_format.specs.declared.pieces.Stands.TheVariants as stands
use Rattle.piece_format.specs.Broken.{is_broken_value}
use Rattle.piece_format.specs.Cells.{dict_len_at, kind_at}
use Rattle.piece_format.specs.Reading.{HasColumn}
use Rattle.piece_format.specs.Shape.{TableShape}
use Rattle.piece_format.specs.Words.{Slot, nulls, value}

-- so far a value word may go where its null bit isn't set
abbrev pub IsTop : Kind → ℕ → ℕ → Type 0
IsTop kind len top = (null : Bool) (w : ℕ) → w < 2 ^ 64
    → nat_le w (if null then 0 else top) ≡ not (is_broken_value kind len null w)

-- the same for each column of a shape
abbrev pub AreTops : TableShape → List ℕ → Type 0
AreTops s tops = (x : ℕ) → x < length s.kinds → IsTop (kind_at s x) (dict_len_at s x) (slice_index tops x)

-- how far a value word may go: to 0 where its null bit is set
abbrev pub limit_of : ℕ → ℕ → ℕ → ℕ
limit_of null_word b top = if bit_at null_word b == 1 then 0 else top

-- no dictionary has a word for a column of texts, so each value word under a clear bit breaks the rules
abbrev pub HasNoCodes : TableShape → ℕ → Type 0
HasNoCodes s x = (kind_at s x ≡ kinds.Text) × (dict_len_at s x ≡ 0)

-- what stands at a place, as code tells it
abbrev pub IsSlot : Stands → Slot → Type 0
IsSlot (stands.Value row x) (value r y) = (row ≡ r) × (x ≡ y)
IsSlot (stands.Nulls count) (nulls n row x) = count ≡ n
IsSlot _ _ = ⊥

-- what stands there names a cell of the piece, or at most 64 of them
abbrev pub IsInside : Piece → Stands → Type 0
IsInside q (stands.Value row x) = (row < q.rows) × HasColumn q x
IsInside q (stands.Nulls count) = count ≤ 64

-- each place has the word with this bit alone
abbrev pub AreBits : List ℕ → Type 0
AreBits bits = (b : ℕ) → b < 64 → slice_index bits b ≡ 2 ^ b

-- nothing was found in a lane
abbrev pub IsClear : List ℕ → ℕ → Type 0
IsClear found l = slice_index found l ≡ 0
