use Rattle.std.proofs.Common.{◌≡◌, ◌<◌, ◌+◌, ◌-◌, ◌*◌, ◌%◌, ◌∙◌, ℕ, true, length, refl, sym, ap, subst, arith, inl, inr}
use Rattle.std.proofs.lemmas.Bool.{cases_eq}
use Rattle.frame_pool.specs.Berths.{BerthView}
use Rattle.piece_format.specs.Shape.{chunk_of, groups, pieces, rows_in}
use Rattle.piece_format.specs.declared.layout.Layout.TheVariants as layouts
use Rattle.piece_format.specs.declared.pieces.Piece.{Piece}
use Rattle.row_blocks.specs.Blocks.{BlockView}
use Rattle.table_sets.specs.Sets.{has}
use Rattle.frame_rows.specs.Blocks.{HasNullBits, HasReadSlots, IsLaneOf, IsReadSlot, IsSpan}
use Rattle.frame_rows.specs.Framed.{IsFramed}
use Rattle.frame_rows.specs.Pins.{slot_at}
use Rattle.frame_rows.specs.Rows.{column_in}
use Rattle.frame_rows.proofs.Blocks.{lane_place, none_read, one_lane_more, one_other_more, shared_bits}
use Rattle.frame_rows.proofs.Rows.{slot_chunk, slot_group}
use Rattle.frame_rows.proofs.Slots.{framed_slot, has_column, slot_there}
use Rattle.frame_rows.proofs.block_rows.put_slots.Goals as goal
use Rattle.frame_rows.proofs.block_rows.put_slots.Goals.{After-at-slot, After-of-framed, then-has, else-has}

pub loop-k-init : goal.loop-k-init
loop-k-init g c = record {
  same = refl;
  count = refl;
  width = refl;
  read = none_read g.C.Content.pieces c.args.shape.now c.args.given.now.chunk c.args.span.first c.args.columns.now c.args.block.now (IsReadSlot c.args.shape.now c.args.given.now.chunk c.args.given.now.slots 0)
      (λ x is. omega (arith, is.1)) c.requires.null;
}

-- the slot's place
low : (g : _) (c : After-at-slot g) → c.loop-k.k < length c.args.given.now.slots
low g c = omega (arith, c.loop-k-test.true, c.loop-k.auto.k-end, c.len-k-end.ensures.len)

-- the piece is one of the chunk, that of the column
chunk_is : (g : _) (c : After-at-slot g) → chunk_of c.args.shape.now c.at-slot.result.1 ≡ c.args.given.now.chunk
chunk_is g c =
    let z = c.args.shape.now in
    ap (λ (b : ℕ × ℕ). chunk_of z b.1) c.at-slot.ensures ∙ slot_chunk z c.args.given.now.chunk c.args.given.now.slots c.loop-k.k c.requires.layout c.requires.columns (low g c)

column_is : (g : _) (c : After-at-slot g) → c.at-slot.result.1 - c.args.given.now.chunk * c.width.result ≡ column_in c.args.shape.now c.args.given.now.chunk c.args.given.now.slots c.loop-k.k
column_is g c =
    ap (λ (b : ℕ × ℕ). b.1 - c.args.given.now.chunk * c.width.result) c.at-slot.ensures ∙ ap (λ (n : ℕ). (slot_at c.args.given.now.slots c.loop-k.k).1 - c.args.given.now.chunk * n) (c.width.ensures.width ∙ c.requires.width)

pub of-framed-requires-clause-rows : goal.of-framed-requires-clause-rows
of-framed-requires-clause-rows g c = let is = chunk_is g (goal.at.of-framed-requires-clause-rows g c).After-at-slot in c.requires.rows ∙ ap (rows_in c.args.shape.now) (sym is)

-- the column is the piece's place in its chunk
group_is : (g : _) (c : After-at-slot g) → c.at-slot.result.1 - c.args.given.now.chunk * c.width.result ≡ c.at-slot.result.1 % groups c.args.shape.now
group_is g c =
    let z = c.args.shape.now in
    column_is g c ∙ (sym (slot_group z c.args.given.now.chunk c.args.given.now.slots c.loop-k.k c.requires.layout c.requires.columns (low g c)) ∙ ap (λ (b : ℕ × ℕ). b.1 % groups z) (sym c.at-slot.ensures))

-- the piece is one of the table's
is_there : (g : _) (c : After-at-slot g) → c.at-slot.result.1 < pieces c.args.shape.now
is_there g c =
    let z = c.args.shape.now in
    subst (λ (b : ℕ × ℕ). b.1 < pieces z) (sym c.at-slot.ensures) (slot_there z c.args.given.now.chunk c.args.given.now.slots c.loop-k.k c.requires.layout c.requires.columns c.requires.chunk (low g c))

pub of-framed-requires-clause-shape : goal.of-framed-requires-clause-shape
of-framed-requires-clause-shape g c = c.requires.shape

pub of-framed-requires-clause-there : goal.of-framed-requires-clause-there
of-framed-requires-clause-there g c = is_there g (goal.at.of-framed-requires-clause-there g c).After-at-slot

pub of-framed-requires-clause-group : goal.of-framed-requires-clause-group
of-framed-requires-clause-group g c = group_is g (goal.at.of-framed-requires-clause-group g c).After-at-slot

-- the piece is framed
framed : (g : _) (c : After-of-framed g) → IsFramed c.args.shape.now c.args.pool.now c.loop-k.berth c.of-framed.result
framed g c =
    let z = c.args.shape.now in
    let at = (goal.at.After-of-framed g c).After-at-slot in
    let f = c.of-framed.ensures in
    subst (λ (b : BerthView). IsFramed z c.args.pool.now b c.of-framed.result) (sym c.loop-k.invariant.same)
    (framed_slot z c.args.pool.now c.args.berth.now c.args.given.now.slots c.loop-k.k c.at-slot.result c.of-framed.result c.requires.pinned (low g at) c.at-slot.ensures c.requires.room (is_there g at) f.frame f.number f.piece f.small)

-- the framed piece has the chunk's rows
rows_are : (g : _) (c : After-of-framed g) → c.of-framed.result.piece.rows ≡ c.args.given.now.rows
rows_are g c =
    let z = c.args.shape.now in
    let is = chunk_is g (goal.at.After-of-framed g c).After-at-slot in
    let rows : c.of-framed.result.piece.rows ≡ rows_in z c.args.given.now.chunk = ap (λ (p : Piece). p.rows) c.of-framed.ensures.piece ∙ ap (rows_in z) is in
    rows ∙ sym c.requires.rows

pub nulls_of-nulls-requires-clause-row : goal.nulls_of-nulls-requires-clause-row
nulls_of-nulls-requires-clause-row g c =
    let rows = rows_are g (goal.at.nulls_of-nulls-requires-clause-row g c).After-of-framed in
    omega (arith, rows, c.requires.span.1, c.requires.span.3)

pub nulls_of-nulls-requires-clause-framed : goal.nulls_of-nulls-requires-clause-framed
nulls_of-nulls-requires-clause-framed g c = framed g (goal.at.nulls_of-nulls-requires-clause-framed g c).After-of-framed

pub read_lane-requires-clause-shape : goal.read_lane-requires-clause-shape
read_lane-requires-clause-shape g c = c.requires.shape

pub read_lane-requires-clause-framed : goal.read_lane-requires-clause-framed
read_lane-requires-clause-framed g c =
    subst (λ (b : BerthView). IsFramed c.args.shape.now c.args.pool.now b c.of-framed.result) (sym c.nulls_of-nulls.ensures.same) (framed g (goal.at.read_lane-requires-clause-framed g c).After-of-framed)

pub read_lane-requires-clause-column : goal.read_lane-requires-clause-column
read_lane-requires-clause-column g c =
    has_column c.args.shape.now c.at-slot.result.1 (c.at-slot.result.1 - c.args.given.now.chunk * c.width.result) c.of-framed.result.piece c.requires.layout c.of-framed.ensures.piece (group_is g (goal.at.read_lane-requires-clause-column g c).After-at-slot)

pub read_lane-requires-clause-span : goal.read_lane-requires-clause-span
read_lane-requires-clause-span g c =
    subst (λ (n : ℕ). IsSpan n c.args.span) (sym (rows_are g (goal.at.read_lane-requires-clause-span g c).After-of-framed)) c.requires.span

pub read_lane-requires-clause-nulls : goal.read_lane-requires-clause-nulls
read_lane-requires-clause-nulls g c =
    let told = g.C.Content.pieces in
    let f : ℕ = c.of-framed.result.frame in
    let q = c.of-framed.result.piece in
    let x : ℕ = c.at-slot.result.1 - c.args.given.now.chunk * c.width.result in
    let layout : q.layout ≡ layouts.Column = ap (λ (r : Piece). r.layout) c.of-framed.ensures.piece ∙ c.requires.layout in
    let span = subst (λ (n : ℕ). IsSpan n c.args.span) (sym (rows_are g (goal.at.read_lane-requires-clause-nulls g c).After-of-framed)) c.requires.span in
    subst (λ (b : BerthView). HasNullBits told b.pins f q c.args.span x c.nulls_of-nulls.result) (sym c.nulls_of-nulls.ensures.same)
    (shared_bits told c.loop-k.berth.pins f q c.args.span x c.nulls_of-nulls.result layout span c.nulls_of-nulls.ensures.word)

pub put-requires : goal.put-requires
put-requires g c =
    let at = (goal.at.put-requires g c).After-at-slot in
    let column = column_is g at in
    let below = (c.requires.columns c.loop-k.k (low g at)).1 in
    omega (arith, column, below, c.loop-k.invariant.width, c.requires.width)

pub loop-k-preserved : goal.loop-k-preserved
loop-k-preserved g c =
    let told = g.C.Content.pieces in
    let z = c.args.shape.now in
    let chunk : ℕ = c.args.given.now.chunk in
    let slots = c.args.given.now.slots in
    let first : ℕ = c.args.span.first in
    let columns = c.args.columns.now in
    let k : ℕ = c.loop-k.k in
    let b = c.loop-k.block in
    let before = c.loop-k.invariant in
    let at = (goal.at.loop-k-preserved g c).After-at-slot in
    let x : ℕ = c.at-slot.result.1 - chunk * c.width.result in
    let column : x ≡ column_in z chunk slots k = column_is g at in
    let more : (y : ℕ) → IsReadSlot z chunk slots (k + 1) y → (y < b.width) × ((y ≡ x → ⊥) → IsReadSlot z chunk slots k y) = λ y is. (
      (let near = low g at in let below = (c.requires.columns is.0 (omega (arith, is.1, near))).1 in omega (arith, below, is.2, before.width, c.requires.width)),
      λ other. (is.0, elim (cases_eq is.0 k) [ inl e ↦ absurd (other (is.2 ∙ ap (column_in z chunk slots) e ∙ sym column)) | inr ne ↦ omega (arith, is.1, ne) ], is.2),
    ) in
    elim c.if-has.branch [
      | then-has w ↦
          let named : has columns x ≡ true = sym c.has.ensures ∙ w.if-has.true in
          let lane = w.read_lane.new.lane in
          let put = w.put.ensures in
          let is = ap (chunk_of z) w.of-framed.ensures.number ∙ chunk_is g at in
          let read = subst (λ (n : ℕ). IsLaneOf told z n c.args.span x lane) is w.read_lane.ensures.lane in
          record {
            same = w.berth-is ∙ (w.read_lane.ensures.same ∙ (w.nulls_of-nulls.ensures.same ∙ before.same));
            count = ap (λ (v : BlockView). v.count) w.block-is ∙ (put.count ∙ before.count);
            width = ap (λ (v : BlockView). v.width) w.block-is ∙ (put.width ∙ before.width);
            read = subst (λ (v : BlockView). HasReadSlots told z chunk first columns slots (k + 1) v) (sym w.block-is)
                (one_lane_more told z chunk first columns b w.put.new.self x lane (IsReadSlot z chunk slots k) (IsReadSlot z chunk slots (k + 1)) named put.count put.width put.lanes
                (λ i low. lane_place told z chunk first columns c.args.span x i lane refl read named (omega (arith, low, before.count, c.requires.count))) more before.read);
          }
      | else-has w ↦ record {
        same = w.berth-is ∙ before.same;
        count = ap (λ (v : BlockView). v.count) w.block-is ∙ before.count;
        width = ap (λ (v : BlockView). v.width) w.block-is ∙ before.width;
        read = subst (λ (v : BlockView). HasReadSlots told z chunk first columns slots (k + 1) v) (sym w.block-is)
            (one_other_more told z chunk first columns b x (IsReadSlot z chunk slots k) (IsReadSlot z chunk slots (k + 1)) (sym c.has.ensures ∙ w.if-has.false) more before.read);
      }
    ]

pub returns-clause-read : goal.returns-clause-read
returns-clause-read g c =
    let slots = c.args.given.now.slots in
    let all : c.loop-k.k ≡ length slots = omega (arith, c.loop-k-test.false, c.loop-k.auto.k-end, c.len-k-end.ensures.len) in
    subst (λ (n : ℕ). HasReadSlots g.C.Content.pieces c.args.shape.now c.args.given.now.chunk c.args.span.first c.args.columns.now slots n c.loop-k.block) all c.loop-k.invariant.read
