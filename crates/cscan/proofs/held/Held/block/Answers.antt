use Rattle.std.proofs.Common.{◌≡◌, ◌∙◌, ◌<◌, ◌+◌, ℕ, true, Option, length, arith, ap, sym}
use Rattle.scan_story.specs.Views.{past}
use Rattle.table_core.specs.Chunk.{chunk as chunk_rows}
use Rattle.table_sets.specs.Sets.{has}
use Rattle.piece_format.specs.Cells.{cell_at}
use Rattle.piece_format.specs.Shape.{chunk_of, pieces, rows_in}
use Rattle.piece_format.specs.declared.layout.Layout.TheVariants as layouts
use Rattle.piece_format.specs.declared.pieces.Piece.{Piece}
use Rattle.frame_rows.specs.Blocks.{HasReadAll}
use Rattle.frame_rows.specs.declared.given.Given.{Given}
use Rattle.frame_rows.specs.Framed.{ArePinned}
use Rattle.frame_rows.specs.Pins.{pins_of, slot_at}
use Rattle.cscan.specs.Scans.{IsGiven, slots_out}
use Rattle.frame_rows.proofs.Blocks.{begun_null}
use Rattle.cscan.proofs.Out.{all_columns, of_columns, row_slot, slots_pinned}
use Rattle.cscan.proofs.Scanning.{given_out}
use Rattle.frame_rows.proofs.Slots.{framed_slot, row_group, row_there}
use Rattle.cscan.proofs.held.Held.block.Goals as goal
use Rattle.cscan.proofs.held.Held.block.Goals.{After-at, After-begin, After-put_slots, In-Row, Start}

-- what is out
out : (g : _) (c : Start g) → IsGiven g.S.Origin.origin.setting c.args.scan.now.shape.now (past c.args.scan.now.station.now.pass.seen) c.args.scan.now.query c.args.self.now.given
out g c = given_out g.S.Origin.origin g.C.Content.pieces c.args.scan.now c.args.self.now.given c.requires.scan c.requires.out

-- the block has a column for each of the table's
wide : (g : _) (c : After-begin g) → c.begin.new.self.width ≡ length c.args.scan.now.shape.now.kinds
wide g c = omega (arith, c.begin.ensures.width, c.len.ensures, ap (λ z. length z.kinds) c.shape.view_is)

-- the frames of its slots are pinned
are_pinned : (g : _) (c : Start g) → ArePinned c.args.scan.now.pool.now c.args.scan.now.station.now.berth c.args.self.now.given.slots
are_pinned g c =
    let scan = c.args.scan.now in
    let r = c.requires.scan in
    let pins = r.seated.1.1 ∙ ap (λ (x : Option Given). pins_of (slots_out x)) c.requires.out in
    slots_pinned g.S.Origin.origin.setting scan.shape.now (past scan.station.now.pass.seen) scan.query c.args.self.now.given scan.pool.now scan.station.now.berth (out g c) r.fits.frames r.seated.1.0 pins

-- the row layout
by_rows : (g : _) (c : In-Row g) → c.args.scan.now.shape.now.layout ≡ layouts.Row
by_rows g c = sym (ap (λ z. z.layout) c.shape.view_is) ∙ c.in-Row.is

-- the one slot of the row layout
only_slot : (g : _) (c : In-Row g) → (0 < length c.args.self.now.given.slots) × (chunk_of c.args.scan.now.shape.now (slot_at c.args.self.now.given.slots 0).1 ≡ c.args.self.now.given.chunk)
only_slot g c =
    let scan = c.args.scan.now in
    row_slot g.S.Origin.origin.setting scan.shape.now (past scan.station.now.pass.seen) scan.query c.args.self.now.given (by_rows g c) c.requires.scan.fits.groups (out g (goal.at.In-Row g c).Start)

-- its piece is the chunk's
chunk_is : (g : _) (c : After-at g) → chunk_of c.args.scan.now.shape.now c.at.result.1 ≡ c.args.self.now.given.chunk
chunk_is g c = ap (λ (b : ℕ × ℕ). chunk_of c.args.scan.now.shape.now b.1) c.at.ensures ∙ (only_slot g (goal.at.After-at g c).In-Row).1

-- one of the table's
slot_there : (g : _) (c : After-at g) → c.at.result.1 < pieces c.args.scan.now.shape.now
slot_there g c =
    let at = goal.at.After-at g c in row_there c.args.scan.now.shape.now c.at.result.1 c.args.self.now.given.chunk (by_rows g at.In-Row) (chunk_is g c) (out g at.Start).chunk

pub at-requires : goal.at-requires
at-requires g c = (only_slot g c).0

pub of-framed-requires-clause-shape : goal.of-framed-requires-clause-shape
of-framed-requires-clause-shape g c = c.requires.scan.fits.shape

pub of-framed-requires-clause-there : goal.of-framed-requires-clause-there
of-framed-requires-clause-there g c = slot_there g c

pub of-framed-requires-clause-rows : goal.of-framed-requires-clause-rows
of-framed-requires-clause-rows g c = (out g (goal.at.of-framed-requires-clause-rows g c).Start).rows ∙ ap (rows_in c.args.scan.now.shape.now) (sym (chunk_is g c))

pub of-framed-requires-clause-group : goal.of-framed-requires-clause-group
of-framed-requires-clause-group g c = sym (row_group c.args.scan.now.shape.now c.at.result.1 (by_rows g (goal.at.of-framed-requires-clause-group g c).In-Row))

pub put_columns-requires-clause-shape : goal.put_columns-requires-clause-shape
put_columns-requires-clause-shape g c = c.requires.scan.fits.shape

pub put_columns-requires-clause-layout : goal.put_columns-requires-clause-layout
put_columns-requires-clause-layout g c = by_rows g (goal.at.put_columns-requires-clause-layout g c).In-Row

pub put_columns-requires-clause-framed : goal.put_columns-requires-clause-framed
put_columns-requires-clause-framed g c =
    let scan = c.args.scan.now in
    let at = goal.at.put_columns-requires-clause-framed g c in
    let framed = c.of-framed.ensures in
    framed_slot scan.shape.now scan.pool.now scan.station.now.berth c.args.self.now.given.slots 0 c.at.result c.of-framed.result (are_pinned g at.Start) (only_slot g at.In-Row).0 c.at.ensures c.requires.scan.fits.words
    (slot_there g at.After-at) framed.frame framed.number framed.piece framed.small

pub put_columns-requires-clause-span : goal.put_columns-requires-clause-span
put_columns-requires-clause-span g c =
    let z = c.args.scan.now.shape.now in
    let at = goal.at.put_columns-requires-clause-span g c in
    let o = out g at.Start in
    let rows : c.of-framed.result.piece.rows ≡ rows_in z c.args.self.now.given.chunk = ap (λ (p : Piece). p.rows) c.of-framed.ensures.piece ∙ ap (rows_in z) (chunk_is g at.After-at) in
    (c.requires.first, c.requires.count.0, c.requires.count.1, omega (arith, c.requires.rows, o.rows, rows))

pub put_columns-requires-clause-count : goal.put_columns-requires-clause-count
put_columns-requires-clause-count g c = c.begin.ensures.count

pub put_columns-requires-clause-width : goal.put_columns-requires-clause-width
put_columns-requires-clause-width g c = wide g (goal.at.put_columns-requires-clause-width g c).After-begin

pub put_slots-requires-clause-shape : goal.put_slots-requires-clause-shape
put_slots-requires-clause-shape g c = c.requires.scan.fits.shape

pub put_slots-requires-clause-layout : goal.put_slots-requires-clause-layout
put_slots-requires-clause-layout g c = sym (ap (λ z. z.layout) c.shape.view_is) ∙ c.in-Column.is

pub put_slots-requires-clause-chunk : goal.put_slots-requires-clause-chunk
put_slots-requires-clause-chunk g c = (out g (goal.at.put_slots-requires-clause-chunk g c).Start).chunk

pub put_slots-requires-clause-rows : goal.put_slots-requires-clause-rows
put_slots-requires-clause-rows g c = (out g (goal.at.put_slots-requires-clause-rows g c).Start).rows

pub put_slots-requires-clause-room : goal.put_slots-requires-clause-room
put_slots-requires-clause-room g c = c.requires.scan.fits.words

pub put_slots-requires-clause-span : goal.put_slots-requires-clause-span
put_slots-requires-clause-span g c = (c.requires.first, c.requires.count.0, c.requires.count.1, c.requires.rows)

pub put_slots-requires-clause-count : goal.put_slots-requires-clause-count
put_slots-requires-clause-count g c = c.begin.ensures.count

pub put_slots-requires-clause-width : goal.put_slots-requires-clause-width
put_slots-requires-clause-width g c = wide g (goal.at.put_slots-requires-clause-width g c).After-begin

pub put_columns-requires-clause-null : goal.put_columns-requires-clause-null
put_columns-requires-clause-null g c = begun_null g.C.Content.pieces c.args.scan.now.shape.now c.args.self.now.given.chunk c.args.first c.args.columns.now c.begin.new.self c.args.count c.len.result c.begin.ensures.count c.begin.ensures.width c.begin.ensures.null

pub put_slots-requires-clause-null : goal.put_slots-requires-clause-null
put_slots-requires-clause-null g c = begun_null g.C.Content.pieces c.args.scan.now.shape.now c.args.self.now.given.chunk c.args.first c.args.columns.now c.begin.new.self c.args.count c.len.result c.begin.ensures.count c.begin.ensures.width c.begin.ensures.null

pub put_slots-requires-clause-pinned : goal.put_slots-requires-clause-pinned
put_slots-requires-clause-pinned g c = are_pinned g (goal.at.put_slots-requires-clause-pinned g c).Start

pub put_slots-requires-clause-columns : goal.put_slots-requires-clause-columns
put_slots-requires-clause-columns g c =
    let scan = c.args.scan.now in
    let o = out g (goal.at.put_slots-requires-clause-columns g c).Start in
    let r = c.requires.scan in
    of_columns g.S.Origin.origin.setting scan.shape.now (past scan.station.now.pass.seen) scan.query c.args.self.now.given (sym (ap (λ z. z.layout) c.shape.view_is) ∙ c.in-Column.is) r.fits.groups r.columns o

-- a column that is asked for is one of the table's
column_low : (g : _) (c : Start g) → (x : ℕ) → has c.args.columns.now x ≡ true → x < length c.args.scan.now.shape.now.kinds
column_low g c x named = c.requires.scan.columns x (c.requires.columns x named)

pub returns-in-Row-clause-count : goal.returns-in-Row-clause-count
returns-in-Row-clause-count g c = c.put_columns.ensures.count ∙ c.begin.ensures.count

pub returns-in-Row-clause-width : goal.returns-in-Row-clause-width
returns-in-Row-clause-width g c = c.put_columns.ensures.width ∙ wide g (goal.at.returns-in-Row-clause-width g c).After-begin

pub returns-in-Row-clause-fits : goal.returns-in-Row-clause-fits
returns-in-Row-clause-fits g c = λ i low x named.
    let at = goal.at.returns-in-Row-clause-fits g c in
    let inside = column_low g at.Start x named in
    let width = wide g at.After-begin in
    (c.put_columns.ensures.read.places i x low (omega (arith, inside, c.put_columns.ensures.width, width))).fits named

pub returns-in-Row-clause-others : goal.returns-in-Row-clause-others
returns-in-Row-clause-others g c = c.put_columns.ensures.read.others

pub returns-in-Row-clause-cells : goal.returns-in-Row-clause-cells
returns-in-Row-clause-cells g c = λ rows table i low x named.
    let scan = c.args.scan.now in
    let z = scan.shape.now in
    let row : ℕ = c.args.first + i in
    let at = goal.at.returns-in-Row-clause-cells g c in
    let width = wide g at.After-begin in
    let chunk = ap (chunk_of z) c.of-framed.ensures.number ∙ chunk_is g at.After-at in
    let inside = column_low g at.Start x named in
    (c.put_columns.ensures.read.places i x low (omega (arith, inside, c.put_columns.ensures.width, width))).is g.S.Origin.origin.held rows table named
    ∙ ap (λ (n : ℕ). cell_at (chunk_rows rows z.per n) row x) chunk

-- in the column layout every column was read from the pieces of the slots
read_all : (g : _) (c : After-put_slots g) → HasReadAll g.C.Content.pieces c.args.scan.now.shape.now c.args.self.now.given.chunk c.args.first c.args.columns.now c.put_slots.new.block
read_all g c =
    let scan = c.args.scan.now in
    let r = c.requires.scan in
    let layout = sym (ap (λ z. z.layout) c.shape.view_is) ∙ c.in-Column.is in
    all_columns g.S.Origin.origin.setting scan.shape.now (past scan.station.now.pass.seen) scan.query c.args.first g.C.Content.pieces c.args.columns.now c.args.self.now.given c.put_slots.new.block layout r.fits.groups r.columns
    (out g (goal.at.After-put_slots g c).Start) c.requires.columns c.put_slots.ensures.read

pub returns-in-Column-clause-count : goal.returns-in-Column-clause-count
returns-in-Column-clause-count g c = c.put_slots.ensures.count ∙ c.begin.ensures.count

pub returns-in-Column-clause-width : goal.returns-in-Column-clause-width
returns-in-Column-clause-width g c = c.put_slots.ensures.width ∙ wide g (goal.at.returns-in-Column-clause-width g c).After-begin

pub returns-in-Column-clause-fits : goal.returns-in-Column-clause-fits
returns-in-Column-clause-fits g c = λ i low x named.
    let at = goal.at.returns-in-Column-clause-fits g c in
    let inside = column_low g at.Start x named in
    let width = wide g at.After-begin in
    ((read_all g at.After-put_slots).places i x low (omega (arith, inside, c.put_slots.ensures.width, width))).fits named

pub returns-in-Column-clause-others : goal.returns-in-Column-clause-others
returns-in-Column-clause-others g c = c.put_slots.ensures.read.others

pub returns-in-Column-clause-cells : goal.returns-in-Column-clause-cells
returns-in-Column-clause-cells g c = λ rows table i low x named.
    let at = goal.at.returns-in-Column-clause-cells g c in
    let inside = column_low g at.Start x named in
    let width = wide g at.After-begin in
    ((read_all g at.After-put_slots).places i x low (omega (arith, inside, c.put_slots.ensures.width, width))).is g.S.Origin.origin.held rows table named
