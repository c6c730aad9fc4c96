use Rattle.std.proofs.Common.{◌≡◌, ◌<◌, ◌≤◌, ◌+◌, ◌∙◌, ℕ, true, refl, sym, ap, subst, arith}
use Rattle.std.proofs.lemmas.List.{length-take-le}
use Rattle.frame_pool.specs.Berths.{BerthView}
use Rattle.piece_format.specs.Shape.{chunk_of}
use Rattle.piece_format.specs.declared.layout.Layout.TheVariants as layouts
use Rattle.piece_format.specs.declared.pieces.Piece.{Piece}
use Rattle.row_blocks.specs.Blocks.{BlockView}
use Rattle.table_sets.specs.Sets.{has}
use Rattle.frame_rows.specs.Blocks.{HasNullBits, HasRead}
use Rattle.frame_rows.specs.Framed.{IsFramed}
use Rattle.frame_rows.proofs.Blocks.{lane_place, mask_bits, none_asked, none_read, one_lane_more, one_other_more}
use Rattle.frame_rows.proofs.Slots.{has_each}
use Rattle.frame_rows.proofs.block_rows.put_columns.Goals as goal
use Rattle.frame_rows.proofs.block_rows.put_columns.Goals.{then-has, else-has}

pub returns-then-len-eq0-clause-read : goal.returns-then-len-eq0-clause-read
returns-then-len-eq0-clause-read g c =
    none_asked g.C.Content.pieces c.args.shape.now (chunk_of c.args.shape.now c.args.framed.number) c.args.span.first c.args.columns.now c.args.block.now (omega (arith, c.len.ensures.len, c.if-len-eq0.true)) c.requires.null

pub read_masks-requires-clause-shape : goal.read_masks-requires-clause-shape
read_masks-requires-clause-shape g c = c.requires.shape

pub read_masks-requires-clause-layout : goal.read_masks-requires-clause-layout
read_masks-requires-clause-layout g c = c.requires.layout

pub read_masks-requires-clause-framed : goal.read_masks-requires-clause-framed
read_masks-requires-clause-framed g c = c.requires.framed

pub read_masks-requires-clause-span : goal.read_masks-requires-clause-span
read_masks-requires-clause-span g c = c.requires.span

pub read_masks-requires-clause-count : goal.read_masks-requires-clause-count
read_masks-requires-clause-count g c = length-take-le c.args.span.count _ c.requires.span.2

pub loop-x-init : goal.loop-x-init
loop-x-init g c = record {
  same = c.read_masks.ensures.same;
  count = refl;
  width = refl;
  read = none_read g.C.Content.pieces c.args.shape.now (chunk_of c.args.shape.now c.args.framed.number) c.args.span.first c.args.columns.now c.args.block.now (λ y. y < 0) (λ y low. omega (arith, low)) c.requires.null;
}

pub column_bits-nulls-requires-clause-few : goal.column_bits-nulls-requires-clause-few
column_bits-nulls-requires-clause-few g c = subst (λ (n : ℕ). n ≤ 64) (sym (c.read_masks.ensures.count ∙ length-take-le c.args.span.count _ c.requires.span.2)) c.requires.span.2

pub read_lane-requires-clause-shape : goal.read_lane-requires-clause-shape
read_lane-requires-clause-shape g c = c.requires.shape

pub read_lane-requires-clause-framed : goal.read_lane-requires-clause-framed
read_lane-requires-clause-framed g c = subst (λ (b : BerthView). IsFramed c.args.shape.now c.args.pool.now b c.args.framed) (sym c.loop-x.invariant.same) c.requires.framed

pub read_lane-requires-clause-span : goal.read_lane-requires-clause-span
read_lane-requires-clause-span g c = c.requires.span

pub read_lane-requires-clause-column : goal.read_lane-requires-clause-column
read_lane-requires-clause-column g c =
    has_each c.args.shape.now c.args.framed.number c.loop-x.x c.args.framed.piece c.requires.layout c.requires.framed.piece (omega (arith, c.loop-x-test.true, c.width-x-end.ensures.width, c.requires.width))

pub put-requires : goal.put-requires
put-requires g c = omega (arith, c.loop-x-test.true, c.width-x-end.ensures.width, c.loop-x.invariant.width)

pub read_lane-requires-clause-nulls : goal.read_lane-requires-clause-nulls
read_lane-requires-clause-nulls g c =
    let told = g.C.Content.pieces in
    let f : ℕ = c.args.framed.frame in
    let q = c.args.framed.piece in
    let x : ℕ = c.loop-x.x in
    let pins = c.args.berth.now.pins in
    let layout : q.layout ≡ layouts.Row = ap (λ (r : Piece). r.layout) c.requires.framed.piece ∙ c.requires.layout in
    let masks = c.read_masks.new.masks in
    subst (λ (b : BerthView). HasNullBits told b.pins f q c.args.span x c.column_bits-nulls.result) (sym c.loop-x.invariant.same)
    (subst (λ (n : ℕ). HasNullBits told pins f q c.args.span x n) (sym c.column_bits-nulls.ensures) (mask_bits told pins f q c.args.span x masks layout (c.read_masks.ensures.count ∙ length-take-le c.args.span.count _ c.requires.span.2) c.read_masks.ensures.masks))

pub loop-x-preserved : goal.loop-x-preserved
loop-x-preserved g c =
    let told = g.C.Content.pieces in
    let z = c.args.shape.now in
    let chunk : ℕ = chunk_of z c.args.framed.number in
    let first : ℕ = c.args.span.first in
    let columns = c.args.columns.now in
    let x : ℕ = c.loop-x.x in
    let b = c.loop-x.block in
    let before = c.loop-x.invariant in
    let there : x < b.width = omega (arith, c.loop-x-test.true, c.width-x-end.ensures.width, before.width) in
    let more : (y : ℕ) → y < x + 1 → (y < b.width) × ((y ≡ x → ⊥) → y < x) = λ y low. (omega (arith, low, there), λ other. omega (arith, low, other)) in
    elim c.if-has.branch [
      | then-has w ↦
          let named : has columns x ≡ true = sym c.has.ensures ∙ w.if-has.true in
          let lane = w.read_lane.new.lane in
          let put = w.put.ensures in
          record {
            same = w.berth-is ∙ (w.read_lane.ensures.same ∙ before.same);
            count = ap (λ (v : BlockView). v.count) w.block-is ∙ (put.count ∙ before.count);
            width = ap (λ (v : BlockView). v.width) w.block-is ∙ (put.width ∙ before.width);
            read = subst (λ (v : BlockView). HasRead told z chunk first columns (λ y. y < x + 1) v) (sym w.block-is)
                (one_lane_more told z chunk first columns b w.put.new.self x lane (λ y. y < x) (λ y. y < x + 1) named put.count put.width put.lanes
                (λ i low. lane_place told z chunk first columns c.args.span x i lane refl w.read_lane.ensures.lane named (omega (arith, low, before.count, c.requires.count))) more before.read);
          }
      | else-has w ↦ record {
        same = w.berth-is ∙ before.same;
        count = ap (λ (v : BlockView). v.count) w.block-is ∙ before.count;
        width = ap (λ (v : BlockView). v.width) w.block-is ∙ before.width;
        read = subst (λ (v : BlockView). HasRead told z chunk first columns (λ y. y < x + 1) v) (sym w.block-is)
            (one_other_more told z chunk first columns b x (λ y. y < x) (λ y. y < x + 1) (sym c.has.ensures ∙ w.if-has.false) more before.read);
      }
    ]

pub returns-clause-read : goal.returns-clause-read
returns-clause-read g c =
    let z = c.args.shape.now in
    let b = c.loop-x.block in
    let all : c.loop-x.x ≡ b.width = omega (arith, c.loop-x-test.false, c.loop-x.auto.x-end, c.width-x-end.ensures.width, c.loop-x.invariant.width) in
    subst (λ (n : ℕ). HasRead g.C.Content.pieces z (chunk_of z c.args.framed.number) c.args.span.first c.args.columns.now (λ y. y < n) b) all c.loop-x.invariant.read
