use Rattle.std.proofs.Common.{◌≡◌, ◌∙◌, ◌<◌, ◌+◌, ◌-◌, ◌*◌, ◌%◌, ℕ, length, slice_set, arith, ap, subst, sym}
use Rattle.std.proofs.lemmas.List.{length-set}
use Rattle.frame_pool.specs.Berths.{BerthView}
use Rattle.frame_pool.specs.Steps.{IsWordOf}
use Rattle.piece_format.specs.Reading.{null_place}
use Rattle.piece_format.specs.Shape.{chunk_of, groups, pieces, rows_in}
use Rattle.piece_format.specs.declared.pieces.Piece.{Piece}
use Rattle.frame_rows.specs.Framed.{IsFramed}
use Rattle.frame_rows.specs.Pins.{slot_at}
use Rattle.frame_rows.specs.Rows.{AreForSlots, IsForPlace, column_in}
use Rattle.frame_rows.proofs.Rows.{one_slot_more, slot_chunk, slot_group}
use Rattle.frame_rows.proofs.Slots.{framed_slot, has_column, slot_there}
use Rattle.frame_rows.proofs.row_cells.read_slots.Goals as goal
use Rattle.frame_rows.proofs.row_cells.read_slots.Goals.{After-at-slot, After-of-framed}

-- the slot's place
low : (g : _) (c : After-at-slot g) → c.loop-i.i < length c.args.given.now.slots
low g c = omega (arith, c.loop-i-test.true, c.loop-i.auto.i-end, c.len-i-end.ensures.len)

-- the piece is one of the chunk, that of the column
chunk_is : (g : _) (c : After-at-slot g) → chunk_of c.args.shape.now c.at-slot.result.1 ≡ c.args.given.now.chunk
chunk_is g c =
    let z = c.args.shape.now in
    ap (λ (b : ℕ × ℕ). chunk_of z b.1) c.at-slot.ensures ∙ slot_chunk z c.args.given.now.chunk c.args.given.now.slots c.loop-i.i c.requires.layout c.requires.columns (low g c)

column_is : (g : _) (c : After-at-slot g) → c.at-slot.result.1 - c.args.given.now.chunk * length c.args.cells.now ≡ column_in c.args.shape.now c.args.given.now.chunk c.args.given.now.slots c.loop-i.i
column_is g c =
    ap (λ (b : ℕ × ℕ). b.1 - c.args.given.now.chunk * length c.args.cells.now) c.at-slot.ensures ∙ ap (λ (n : ℕ). (slot_at c.args.given.now.slots c.loop-i.i).1 - c.args.given.now.chunk * n) c.requires.width

pub of-framed-requires-clause-rows : goal.of-framed-requires-clause-rows
of-framed-requires-clause-rows g c = let is = chunk_is g (goal.at.of-framed-requires-clause-rows g c).After-at-slot in c.requires.rows ∙ ap (rows_in c.args.shape.now) (sym is)

-- the column is the piece's place in its chunk
group_is : (g : _) (c : After-at-slot g) → c.at-slot.result.1 - c.args.given.now.chunk * length c.args.cells.now ≡ c.at-slot.result.1 % groups c.args.shape.now
group_is g c =
    let z = c.args.shape.now in
    column_is g c ∙ (sym (slot_group z c.args.given.now.chunk c.args.given.now.slots c.loop-i.i c.requires.layout c.requires.columns (low g c)) ∙ ap (λ (b : ℕ × ℕ). b.1 % groups z) (sym c.at-slot.ensures))

-- the piece is one of the table's
is_there : (g : _) (c : After-at-slot g) → c.at-slot.result.1 < pieces c.args.shape.now
is_there g c =
    let z = c.args.shape.now in
    subst (λ (b : ℕ × ℕ). b.1 < pieces z) (sym c.at-slot.ensures) (slot_there z c.args.given.now.chunk c.args.given.now.slots c.loop-i.i c.requires.layout c.requires.columns c.requires.chunk (low g c))

pub of-framed-requires-clause-shape : goal.of-framed-requires-clause-shape
of-framed-requires-clause-shape g c = c.requires.shape

pub of-framed-requires-clause-there : goal.of-framed-requires-clause-there
of-framed-requires-clause-there g c = is_there g (goal.at.of-framed-requires-clause-there g c).After-at-slot

pub of-framed-requires-clause-group : goal.of-framed-requires-clause-group
of-framed-requires-clause-group g c = group_is g (goal.at.of-framed-requires-clause-group g c).After-at-slot

-- the piece is framed
framed : (g : _) (c : After-of-framed g) → IsFramed c.args.shape.now c.args.pool.now c.loop-i.berth c.of-framed.result
framed g c =
    let z = c.args.shape.now in
    let at = (goal.at.After-of-framed g c).After-at-slot in
    let f = c.of-framed.ensures in
    subst (λ (b : BerthView). IsFramed z c.args.pool.now b c.of-framed.result) (sym c.loop-i.invariant.same)
    (framed_slot z c.args.pool.now c.args.berth.now c.args.given.now.slots c.loop-i.i c.at-slot.result c.of-framed.result c.requires.pinned (low g at) c.at-slot.ensures c.requires.room (is_there g at) f.frame f.number f.piece f.small)

-- the framed piece has the chunk's rows
rows_are : (g : _) (c : After-of-framed g) → c.args.row < c.of-framed.result.piece.rows
rows_are g c =
    let z = c.args.shape.now in
    let is = chunk_is g (goal.at.After-of-framed g c).After-at-slot in
    let rows : c.of-framed.result.piece.rows ≡ rows_in z c.args.given.now.chunk = ap (λ (p : Piece). p.rows) c.of-framed.ensures.piece ∙ ap (rows_in z) is in
    omega (arith, c.requires.row, c.requires.rows, rows)

pub nulls_of-nulls-requires-clause-row : goal.nulls_of-nulls-requires-clause-row
nulls_of-nulls-requires-clause-row g c = rows_are g (goal.at.nulls_of-nulls-requires-clause-row g c).After-of-framed

pub nulls_of-nulls-requires-clause-framed : goal.nulls_of-nulls-requires-clause-framed
nulls_of-nulls-requires-clause-framed g c = framed g (goal.at.nulls_of-nulls-requires-clause-framed g c).After-of-framed

pub cell_for-requires-clause-shape : goal.cell_for-requires-clause-shape
cell_for-requires-clause-shape g c = c.requires.shape

pub cell_for-requires-clause-framed : goal.cell_for-requires-clause-framed
cell_for-requires-clause-framed g c =
    subst (λ (b : BerthView). IsFramed c.args.shape.now c.args.pool.now b c.of-framed.result) (sym c.nulls_of-nulls.ensures.same) (framed g (goal.at.cell_for-requires-clause-framed g c).After-of-framed)

pub cell_for-requires-clause-nulls : goal.cell_for-requires-clause-nulls
cell_for-requires-clause-nulls g c =
    let f = c.of-framed.result in
    subst (λ (b : BerthView). IsWordOf g.C.Content.pieces b.pins f.frame (null_place f.piece c.args.row) c.nulls_of-nulls.result) (sym c.nulls_of-nulls.ensures.same) c.nulls_of-nulls.ensures.word

pub cell_for-requires-clause-column : goal.cell_for-requires-clause-column
cell_for-requires-clause-column g c =
    has_column c.args.shape.now c.at-slot.result.1 (c.at-slot.result.1 - c.args.given.now.chunk * length c.args.cells.now) c.of-framed.result.piece c.requires.layout c.of-framed.ensures.piece (group_is g (goal.at.cell_for-requires-clause-column g c).After-at-slot)

pub cell_for-requires-clause-row : goal.cell_for-requires-clause-row
cell_for-requires-clause-row g c = rows_are g (goal.at.cell_for-requires-clause-row g c).After-of-framed

pub loop-i-preserved : goal.loop-i-preserved
loop-i-preserved g c =
    let z = c.args.shape.now in
    let told = g.C.Content.pieces in
    let chunk : ℕ = c.args.given.now.chunk in
    let slots = c.args.given.now.slots in
    let cells = c.loop-i.cells in
    let before = c.loop-i.invariant in
    let row : ℕ = c.args.row in
    let columns = c.args.columns.now in
    let i : ℕ = c.loop-i.i in
    let cell = c.cell_for.result in
    let at = (goal.at.loop-i-preserved g c).After-at-slot in
    let column = column_is g at in
    let is = ap (chunk_of z) c.of-framed.ensures.number ∙ chunk_is g at in
    let below = (c.requires.columns i (low g at)).1 in
    let there : column_in z chunk slots i < length cells = omega (arith, below, before.width, c.requires.width) in
    let here = subst (λ (x : ℕ). IsForPlace told z chunk row columns x cell) column (subst (λ (n : ℕ). IsForPlace told z n row columns (c.at-slot.result.1 - chunk * length c.args.cells.now) cell) is c.cell_for.ensures.cell) in
    record {
      same = c.cell_for.ensures.same ∙ (c.nulls_of-nulls.ensures.same ∙ before.same);
      width = length-set cells (c.at-slot.result.1 - chunk * length c.args.cells.now) cell ∙ before.width;
      read = subst (λ (x : ℕ). AreForSlots told z chunk row columns slots (i + 1) (slice_set cells x cell)) (sym column) (one_slot_more told z chunk row columns slots i cells cell there before.read here);
    }
