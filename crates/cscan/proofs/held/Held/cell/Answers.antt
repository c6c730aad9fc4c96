use Rattle.std.proofs.Common.{◌≡◌, ◌∙◌, ◌%◌, ℕ, List, Option, Some, length, arith, sym, ap}
use Rattle.scan_story.specs.Counting.{has}
use Rattle.scan_story.specs.Views.{past}
use Rattle.scan_story.specs.Setting.{pieces_read}
use Rattle.frame_pool.specs.Views.{pinned}
use Rattle.piece_format.specs.Cells.{cell_at}
use Rattle.piece_format.specs.Shape.{chunk_of, groups, piece_at, rows_in}
use Rattle.piece_format.specs.declared.pieces.Piece.{Piece}
use Rattle.table_core.specs.Chunk.{chunk}
use Rattle.frame_rows.specs.declared.given.Given.{Given}
use Rattle.frame_rows.specs.Pins.{pins_of}
use Rattle.cscan.specs.Scans.{IsGiven, slots_out}
use Rattle.frame_rows.proofs.Pins.{pinned_at}
use Rattle.cscan.proofs.Scanning.{given_out, piece_read}
use Rattle.cscan.proofs.held.Held.cell.Goals as goal
use Rattle.cscan.proofs.held.Held.cell.Goals.{After-at-slot, Start}

-- what is out
out : (g : _) (c : Start g) → IsGiven g.S.Origin.origin.setting c.args.scan.now.shape.now (past c.args.scan.now.station.now.pass.seen) c.args.scan.now.query c.args.self.now.given
out g c = given_out g.S.Origin.origin g.C.Content.pieces c.args.scan.now c.args.self.now.given c.requires.scan c.requires.out

-- the slot is of the piece that has the column
piece_is : (g : _) (c : After-at-slot g) → c.at-slot.result.1 ≡ c.piece_with-piece.result
piece_is g c = ap (λ (x : ℕ × ℕ). x.1) c.at-slot.ensures ∙ c.place_of.ensures.piece

pub piece_with-piece-requires-clause-column : goal.piece_with-piece-requires-clause-column
piece_with-piece-requires-clause-column g c = c.requires.scan.columns c.args.column c.requires.column

pub piece_with-piece-requires-clause-chunk : goal.piece_with-piece-requires-clause-chunk
piece_with-piece-requires-clause-chunk g c = (out g c).chunk

pub place_of-requires : goal.place_of-requires
place_of-requires g c =
    let s = g.S.Origin.origin.setting in
    let q : ℕ = c.args.scan.now.query in
    let chunk : ℕ = c.args.self.now.given.chunk in
    let x : ℕ = c.args.column in
    let o = out g (goal.at.place_of-requires g c).Start in
    ap (λ (ps : List ℕ). has ps c.piece_with-piece.result) o.read
    ∙ (ap (has (pieces_read s q chunk)) c.piece_with-piece.ensures.piece
    ∙ piece_read s c.args.scan.now.shape.now q chunk x c.requires.column (c.requires.scan.columns x c.requires.column) c.requires.scan.fits.groups)

pub of-framed-requires-clause-there : goal.of-framed-requires-clause-there
of-framed-requires-clause-there g c =
    let is = piece_is g (goal.at.of-framed-requires-clause-there g c).After-at-slot in omega (arith, is, c.piece_with-piece.ensures.there)

-- the chunk of the slot's piece
chunk_is : (g : _) (c : After-at-slot g) → chunk_of c.args.scan.now.shape.now c.at-slot.result.1 ≡ c.args.self.now.given.chunk
chunk_is g c = ap (chunk_of c.args.scan.now.shape.now) (piece_is g c) ∙ c.piece_with-piece.ensures.chunk

pub of-framed-requires-clause-rows : goal.of-framed-requires-clause-rows
of-framed-requires-clause-rows g c =
    let at = goal.at.of-framed-requires-clause-rows g c in (out g at.Start).rows ∙ ap (rows_in c.args.scan.now.shape.now) (sym (chunk_is g at.After-at-slot))

pub of-framed-requires-clause-group : goal.of-framed-requires-clause-group
of-framed-requires-clause-group g c =
    let z = c.args.scan.now.shape.now in
    let is = piece_is g (goal.at.of-framed-requires-clause-group g c).After-at-slot in
    c.group_with.ensures ∙ sym (ap (λ (p : ℕ). p % groups z) is ∙ c.piece_with-piece.ensures.group)

pub cell_in_frame-requires-clause-framed : goal.cell_in_frame-requires-clause-framed
cell_in_frame-requires-clause-framed g c =
    let z = c.args.scan.now.shape.now in
    let slots = c.args.self.now.given.slots in
    let i : ℕ = c.place_of.result in
    let at = goal.at.cell_in_frame-requires-clause-framed g c in
    let o = out g at.Start in
    let r = c.requires.scan in
    let low = o.frames.within i c.place_of.ensures.there in
    let frame = c.of-framed.ensures.frame ∙ ap (λ (x : ℕ × ℕ). x.0) c.at-slot.ensures in
    let number = c.of-framed.ensures.number in
    let pins = r.seated.1.1 ∙ ap (λ (x : Option Given). pins_of (slots_out x)) c.requires.out in
    let is = piece_is g at.After-at-slot in
    record {
      at = (r.seated.1.0, omega (arith, low, frame, r.fits.frames));
      room = r.fits.words;
      pinned = (λ j. pinned (frame j) (pins j)) ∙ (pinned_at slots i (length slots) (length slots) c.place_of.ensures.there (omega arith) o.frames.apart ∙ ap (λ (x : ℕ × ℕ). Some x.1) (sym c.at-slot.ensures) ∙ ap Some (sym number));
      there = omega (arith, number, is, c.piece_with-piece.ensures.there);
      piece = c.of-framed.ensures.piece ∙ ap (piece_at z) (sym number);
      small = c.of-framed.ensures.small;
    }

pub cell_in_frame-requires-clause-row : goal.cell_in_frame-requires-clause-row
cell_in_frame-requires-clause-row g c =
    let z = c.args.scan.now.shape.now in
    let at = goal.at.cell_in_frame-requires-clause-row g c in
    let o = out g at.Start in
    let rows : c.of-framed.result.piece.rows ≡ rows_in z c.args.self.now.given.chunk = ap (λ (p : Piece). p.rows) c.of-framed.ensures.piece ∙ ap (rows_in z) (chunk_is g at.After-at-slot) in
    omega (arith, c.requires.row, o.rows, rows)

pub returns-clause-cell : goal.returns-clause-cell
returns-clause-cell g c = λ rows table.
    let z = c.args.scan.now.shape.now in
    let row : ℕ = c.args.row in
    let x : ℕ = c.args.column in
    let chunk_is = ap (chunk_of z) c.of-framed.ensures.number ∙ chunk_is g (goal.at.returns-clause-cell g c).After-at-slot in
    c.cell_in_frame.ensures.cell g.S.Origin.origin.held rows table ∙ ap (λ (n : ℕ). cell_at (chunk rows z.per n) row x) chunk_is
