-- Slots whose frames are pinned with their pieces.
use Rattle.std.proofs.Common.{◌≡◌, ◌<◌, ◌%◌, ◌∙◌, ℕ, List, Some, length, arith, sym, ap, subst}
use Rattle.std.proofs.Math.Nat.{div-lt_iff_lt-mul}
use Rattle.frame_pool.specs.Berths.{BerthView, PoolView}
use Rattle.frame_pool.specs.Views.{pinned}
use Rattle.piece_format.specs.Reading.{HasColumn, HasColumnIn}
use Rattle.piece_format.specs.Shape.{IsPiece, TableShape, chunk_of, chunks, frame_words, groups, groups_in, piece_at, pieces}
use Rattle.piece_format.specs.declared.layout.Layout.{Layout}
use Rattle.piece_format.specs.declared.layout.Layout.TheVariants as layouts
use Rattle.piece_format.specs.declared.pieces.Piece.{Piece}
use Rattle.frame_rows.specs.declared.framed.Framed.{Framed}
use Rattle.frame_rows.specs.Framed.{ArePinned, IsFramed}
use Rattle.frame_rows.specs.Pins.{slot_at}
use Rattle.frame_rows.specs.Rows.{AreOfColumns}
use Rattle.frame_rows.proofs.Rows.{column_groups, slot_chunk}

-- in the row layout a chunk has one piece
pub row_groups : (z : TableShape) → z.layout ≡ layouts.Row → groups z ≡ 1
row_groups z e = ap (λ (l : Layout). groups_in l (length z.kinds)) e

-- which stands first among the pieces of its chunk
pub row_group : (z : TableShape) (p : ℕ) → z.layout ≡ layouts.Row → p % groups z ≡ 0
row_group z p e = ap (λ (m : ℕ). p % m) (row_groups z e) ∙ omega arith

-- a piece of one of the table's chunks is one of the table's pieces
pub piece_there : (z : TableShape) (p c : ℕ) → 0 < groups z → chunk_of z p ≡ c → c < chunks z → p < pieces z
piece_there z p c some is low = (div-lt_iff_lt-mul {k = groups z} {x = p} {y = chunks z} some).0 (subst (λ (n : ℕ). n < chunks z) (sym is) low)

-- in the row layout
pub row_there : (z : TableShape) (p c : ℕ) → z.layout ≡ layouts.Row → chunk_of z p ≡ c → c < chunks z → p < pieces z
row_there z p c e = piece_there z p c (let one = row_groups z e in omega (arith, one))

-- in the column layout the piece of each slot is one of the table's
pub slot_there : (z : TableShape) (c : ℕ) (slots : List (ℕ × ℕ)) (k : ℕ) → z.layout ≡ layouts.Column → AreOfColumns z c slots → c < chunks z → k < length slots → (slot_at slots k).1 < pieces z
slot_there z c slots k e are there low =
    let wide = column_groups z e in
    let column = (are k low).1 in
    piece_there z (slot_at slots k).1 c (omega (arith, wide, column)) (slot_chunk z c slots k e are low) there

-- the piece of a slot is framed
pub framed_slot : (z : TableShape) (pool : PoolView) (b : BerthView) (slots : List (ℕ × ℕ)) (i : ℕ) (slot : ℕ × ℕ) (p : Framed) → ArePinned pool b slots → i < length slots → slot ≡ slot_at slots i
    → pool.shape.words ≡ frame_words z → slot.1 < pieces z → p.frame ≡ slot.0 → p.number ≡ slot.1 → p.piece ≡ piece_at z slot.1 → IsPiece p.piece → IsFramed z pool b p
framed_slot z pool b slots i slot p are low is room there frame number piece small =
    let a = are i low in
    let f : p.frame ≡ (slot_at slots i).0 = frame ∙ ap (λ (x : ℕ × ℕ). x.0) is in
    let n : p.number ≡ (slot_at slots i).1 = number ∙ ap (λ (x : ℕ × ℕ). x.1) is in
    record {
      at = (a.0.0, subst (λ (x : ℕ). x < pool.shape.frames) (sym f) a.0.1);
      room = room;
      pinned = ap (λ (x : ℕ). pinned x b.pins) f ∙ (a.1 ∙ ap Some (sym n));
      there = subst (λ (x : ℕ). x < pieces z) (sym number) there;
      piece = piece ∙ ap (piece_at z) (sym number);
      small = small;
    }

-- in the column layout a piece has the column of its place in its chunk
pub has_column : (z : TableShape) (p x : ℕ) (q : Piece) → z.layout ≡ layouts.Column → q ≡ piece_at z p → x ≡ p % groups z → HasColumn q x
has_column z p x q e is here = subst (λ (l : Layout). HasColumnIn l q x) (sym (ap (λ (r : Piece). r.layout) is ∙ e)) (here ∙ sym (ap (λ (r : Piece). r.group) is))

-- in the row layout a piece has each column of the table
pub has_each : (z : TableShape) (p x : ℕ) (q : Piece) → z.layout ≡ layouts.Row → q ≡ piece_at z p → x < length z.kinds → HasColumn q x
has_each z p x q e is low = subst (λ (l : Layout). HasColumnIn l q x) (sym (ap (λ (r : Piece). r.layout) is ∙ e)) (subst (λ (n : ℕ). x < n) (sym (ap (λ (r : Piece). r.columns) is)) low)
