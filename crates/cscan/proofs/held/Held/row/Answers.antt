use Rattle.std.proofs.Common.{◌≡◌, ◌∙◌, ◌<◌, ℕ, Option, length, arith, ap, sym}
use Rattle.scan_story.specs.Views.{past}
use Rattle.table_core.specs.Chunk.{chunk as chunk_rows}
use Rattle.piece_format.specs.Cells.{cell_at}
use Rattle.piece_format.specs.Shape.{chunk_of, pieces, rows_in}
use Rattle.piece_format.specs.declared.layout.Layout.TheVariants as layouts
use Rattle.piece_format.specs.declared.pieces.Piece.{Piece}
use Rattle.frame_rows.specs.Rows.{AreForPlaces}
use Rattle.frame_rows.specs.declared.given.Given.{Given}
use Rattle.frame_rows.specs.Framed.{ArePinned}
use Rattle.frame_rows.specs.Pins.{pins_of, slot_at}
use Rattle.cscan.specs.Scans.{IsGiven, slots_out}
use Rattle.cscan.proofs.Out.{all_slots, of_columns, row_slot, slots_pinned}
use Rattle.cscan.proofs.Scanning.{given_out}
use Rattle.frame_rows.proofs.Slots.{framed_slot, row_group, row_there}
use Rattle.cscan.proofs.held.Held.row.Goals as goal
use Rattle.cscan.proofs.held.Held.row.Goals.{After-at, After-read_slots, In-Row, Start}

-- what is out
out : (g : _) (c : Start g) → IsGiven g.S.Origin.origin.setting c.args.scan.now.shape.now (past c.args.scan.now.station.now.pass.seen) c.args.scan.now.query c.args.self.now.given
out g c = given_out g.S.Origin.origin g.C.Content.pieces c.args.scan.now c.args.self.now.given c.requires.scan c.requires.out

-- the frames of its slots are pinned
are_pinned : (g : _) (c : Start g) → ArePinned c.args.scan.now.pool.now c.args.scan.now.station.now.berth c.args.self.now.given.slots
are_pinned g c =
    let scan = c.args.scan.now in
    let r = c.requires.scan in
    let pins = r.seated.1.1 ∙ ap (λ (x : Option Given). pins_of (slots_out x)) c.requires.out in
    slots_pinned g.S.Origin.origin.setting scan.shape.now (past scan.station.now.pass.seen) scan.query c.args.self.now.given scan.pool.now scan.station.now.berth (out g c) r.fits.frames r.seated.1.0 pins

-- the row layout
by_rows : (g : _) (c : In-Row g) → c.args.scan.now.shape.now.layout ≡ layouts.Row
by_rows g c = sym (ap (λ z. z.layout) c.shape.view_is) ∙ c.in-Row.is

-- the one slot of the row layout
only_slot : (g : _) (c : In-Row g) → (0 < length c.args.self.now.given.slots) × (chunk_of c.args.scan.now.shape.now (slot_at c.args.self.now.given.slots 0).1 ≡ c.args.self.now.given.chunk)
only_slot g c =
    let scan = c.args.scan.now in
    row_slot g.S.Origin.origin.setting scan.shape.now (past scan.station.now.pass.seen) scan.query c.args.self.now.given (by_rows g c) c.requires.scan.fits.groups (out g (goal.at.In-Row g c).Start)

-- its piece is the chunk's
chunk_is : (g : _) (c : After-at g) → chunk_of c.args.scan.now.shape.now c.at.result.1 ≡ c.args.self.now.given.chunk
chunk_is g c = ap (λ (b : ℕ × ℕ). chunk_of c.args.scan.now.shape.now b.1) c.at.ensures ∙ (only_slot g (goal.at.After-at g c).In-Row).1

-- one of the table's
slot_there : (g : _) (c : After-at g) → c.at.result.1 < pieces c.args.scan.now.shape.now
slot_there g c =
    let at = goal.at.After-at g c in row_there c.args.scan.now.shape.now c.at.result.1 c.args.self.now.given.chunk (by_rows g at.In-Row) (chunk_is g c) (out g at.Start).chunk

pub at-requires : goal.at-requires
at-requires g c = (only_slot g c).0

pub of-framed-requires-clause-shape : goal.of-framed-requires-clause-shape
of-framed-requires-clause-shape g c = c.requires.scan.fits.shape

pub of-framed-requires-clause-there : goal.of-framed-requires-clause-there
of-framed-requires-clause-there g c = slot_there g c

pub of-framed-requires-clause-rows : goal.of-framed-requires-clause-rows
of-framed-requires-clause-rows g c = (out g (goal.at.of-framed-requires-clause-rows g c).Start).rows ∙ ap (rows_in c.args.scan.now.shape.now) (sym (chunk_is g c))

pub of-framed-requires-clause-group : goal.of-framed-requires-clause-group
of-framed-requires-clause-group g c = sym (row_group c.args.scan.now.shape.now c.at.result.1 (by_rows g (goal.at.of-framed-requires-clause-group g c).In-Row))

pub read_columns-requires-clause-shape : goal.read_columns-requires-clause-shape
read_columns-requires-clause-shape g c = c.requires.scan.fits.shape

pub read_columns-requires-clause-layout : goal.read_columns-requires-clause-layout
read_columns-requires-clause-layout g c = by_rows g (goal.at.read_columns-requires-clause-layout g c).In-Row

pub read_columns-requires-clause-framed : goal.read_columns-requires-clause-framed
read_columns-requires-clause-framed g c =
    let scan = c.args.scan.now in
    let at = goal.at.read_columns-requires-clause-framed g c in
    let framed = c.of-framed.ensures in
    framed_slot scan.shape.now scan.pool.now scan.station.now.berth c.args.self.now.given.slots 0 c.at.result c.of-framed.result (are_pinned g at.Start) (only_slot g at.In-Row).0 c.at.ensures c.requires.scan.fits.words
    (slot_there g at.After-at) framed.frame framed.number framed.piece framed.small

pub read_columns-requires-clause-row : goal.read_columns-requires-clause-row
read_columns-requires-clause-row g c =
    let z = c.args.scan.now.shape.now in
    let at = goal.at.read_columns-requires-clause-row g c in
    let o = out g at.Start in
    let rows : c.of-framed.result.piece.rows ≡ rows_in z c.args.self.now.given.chunk = ap (λ (p : Piece). p.rows) c.of-framed.ensures.piece ∙ ap (rows_in z) (chunk_is g at.After-at) in
    omega (arith, c.requires.row, o.rows, rows)

pub read_columns-requires-clause-width : goal.read_columns-requires-clause-width
read_columns-requires-clause-width g c = c.requires.width

pub read_slots-requires-clause-shape : goal.read_slots-requires-clause-shape
read_slots-requires-clause-shape g c = c.requires.scan.fits.shape

pub read_slots-requires-clause-layout : goal.read_slots-requires-clause-layout
read_slots-requires-clause-layout g c = sym (ap (λ z. z.layout) c.shape.view_is) ∙ c.in-Column.is

pub read_slots-requires-clause-chunk : goal.read_slots-requires-clause-chunk
read_slots-requires-clause-chunk g c = (out g (goal.at.read_slots-requires-clause-chunk g c).Start).chunk

pub read_slots-requires-clause-rows : goal.read_slots-requires-clause-rows
read_slots-requires-clause-rows g c = (out g (goal.at.read_slots-requires-clause-rows g c).Start).rows

pub read_slots-requires-clause-room : goal.read_slots-requires-clause-room
read_slots-requires-clause-room g c = c.requires.scan.fits.words

pub read_slots-requires-clause-row : goal.read_slots-requires-clause-row
read_slots-requires-clause-row g c = c.requires.row

pub read_slots-requires-clause-width : goal.read_slots-requires-clause-width
read_slots-requires-clause-width g c = c.requires.width

pub read_slots-requires-clause-pinned : goal.read_slots-requires-clause-pinned
read_slots-requires-clause-pinned g c = are_pinned g (goal.at.read_slots-requires-clause-pinned g c).Start

pub read_slots-requires-clause-columns : goal.read_slots-requires-clause-columns
read_slots-requires-clause-columns g c =
    let scan = c.args.scan.now in
    let o = out g (goal.at.read_slots-requires-clause-columns g c).Start in
    let r = c.requires.scan in
    of_columns g.S.Origin.origin.setting scan.shape.now (past scan.station.now.pass.seen) scan.query c.args.self.now.given (sym (ap (λ z. z.layout) c.shape.view_is) ∙ c.in-Column.is) r.fits.groups r.columns o

pub returns-in-Row-clause-width : goal.returns-in-Row-clause-width
returns-in-Row-clause-width g c = c.read_columns.ensures.width

pub returns-in-Row-clause-fits : goal.returns-in-Row-clause-fits
returns-in-Row-clause-fits g c x named =
    let low = c.requires.scan.columns x (c.requires.columns x named) in
    (c.read_columns.ensures.read x (omega (arith, low, c.requires.width))).fits named

pub returns-in-Row-clause-others : goal.returns-in-Row-clause-others
returns-in-Row-clause-others g c x low not = (c.read_columns.ensures.read x (omega (arith, low, c.read_columns.ensures.width))).other not

pub returns-in-Row-clause-cells : goal.returns-in-Row-clause-cells
returns-in-Row-clause-cells g c = λ rows table x named.
    let scan = c.args.scan.now in
    let z = scan.shape.now in
    let row : ℕ = c.args.row in
    let r = c.requires.scan in
    let chunk = ap (chunk_of z) c.of-framed.ensures.number ∙ chunk_is g (goal.at.returns-in-Row-clause-cells g c).After-at in
    let low = r.columns x (c.requires.columns x named) in
    (c.read_columns.ensures.read x (omega (arith, low, c.requires.width))).is g.S.Origin.origin.held rows table named ∙ ap (λ (n : ℕ). cell_at (chunk_rows rows z.per n) row x) chunk

-- each place has what comes into it, in the column layout
places : (g : _) (c : After-read_slots g) → AreForPlaces g.C.Content.pieces c.args.scan.now.shape.now c.args.self.now.given.chunk c.args.row c.args.columns.now (length c.read_slots.new.cells) c.read_slots.new.cells
places g c =
    let scan = c.args.scan.now in
    let r = c.requires.scan in
    let layout = sym (ap (λ z. z.layout) c.shape.view_is) ∙ c.in-Column.is in
    all_slots g.S.Origin.origin.setting scan.shape.now (past scan.station.now.pass.seen) scan.query c.args.row g.C.Content.pieces c.args.columns.now c.args.self.now.given c.read_slots.new.cells layout r.fits.groups r.columns
    (out g (goal.at.After-read_slots g c).Start) c.requires.columns c.read_slots.ensures.read

pub returns-in-Column-clause-width : goal.returns-in-Column-clause-width
returns-in-Column-clause-width g c = c.read_slots.ensures.width

pub returns-in-Column-clause-others : goal.returns-in-Column-clause-others
returns-in-Column-clause-others g c = c.read_slots.ensures.read.others

pub returns-in-Column-clause-fits : goal.returns-in-Column-clause-fits
returns-in-Column-clause-fits g c x named =
    let low = c.requires.scan.columns x (c.requires.columns x named) in
    (places g (goal.at.returns-in-Column-clause-fits g c).After-read_slots x (omega (arith, low, c.requires.width, c.read_slots.ensures.width))).fits named

pub returns-in-Column-clause-cells : goal.returns-in-Column-clause-cells
returns-in-Column-clause-cells g c = λ rows table x named.
    let low = c.requires.scan.columns x (c.requires.columns x named) in
    (places g (goal.at.returns-in-Column-clause-cells g c).After-read_slots x (omega (arith, low, c.requires.width, c.read_slots.ensures.width))).is g.S.Origin.origin.held rows table named
