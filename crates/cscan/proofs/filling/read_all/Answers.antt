use Rattle.std.proofs.Common.{◌∙◌, ◌<◌, ℕ, length, arith, sym, subst}
use Rattle.coop_outside.specs.Pieces.{Stored}
use Rattle.frame_pool.specs.Berths.{BerthView, IsAt, IsBlank}
use Rattle.piece_format.specs.Shape.{pieces}
use Rattle.frame_rows.specs.Tables.{TellAlike}
use Rattle.cscan.proofs.Tickets.{reports_since}
use Rattle.cscan.proofs.filling.read_all.Goals as goal
use Rattle.cscan.proofs.filling.read_all.Goals.{After-at-slot}

-- the slot's place
low : (g : _) (c : After-at-slot g) → c.loop-i.i < length c.args.slots.now
low g c = omega (arith, c.loop-i-test.true, c.loop-i.auto.i-end, c.len-i-end.ensures.len)

-- its frame and its piece are the pool's and the table's
there : (g : _) (c : After-at-slot g) → (c.at-slot.result.0 < c.args.pool.now.shape.frames) × (c.at-slot.result.1 < pieces c.args.shape.now)
there g c = subst (λ (b : ℕ × ℕ). (b.0 < c.args.pool.now.shape.frames) × (b.1 < pieces c.args.shape.now)) (sym c.at-slot.ensures) (c.requires.frames c.loop-i.i (low g c))

pub piece_words-requires-clause-there : goal.piece_words-requires-clause-there
piece_words-requires-clause-there g c = (there g (goal.at.piece_words-requires-clause-there g c).After-at-slot).1

pub read_in-requires-clause-free : goal.read_in-requires-clause-free
read_in-requires-clause-free g c κs within = c.requires.free

pub read_in-requires-clause-shape : goal.read_in-requires-clause-shape
read_in-requires-clause-shape g c κs within = c.requires.shape

pub read_in-requires-clause-at : goal.read_in-requires-clause-at
read_in-requires-clause-at g c κs within =
    subst (λ (b : BerthView). IsAt c.args.pool.now b c.at-slot.result.0) (sym c.loop-i.invariant.0) (c.requires.berth.0, (there g (goal.at.read_in-requires-clause-at g c).After-at-slot).0)

pub read_in-requires-clause-blank : goal.read_in-requires-clause-blank
read_in-requires-clause-blank g c κs within = subst IsBlank (sym c.loop-i.invariant.0) (c.requires.berth.1, c.requires.berth.2)

pub read_in-requires-clause-there : goal.read_in-requires-clause-there
read_in-requires-clause-there g c κs within = (there g (goal.at.read_in-requires-clause-there g c).After-at-slot).1

pub read_in-requires-clause-room : goal.read_in-requires-clause-room
read_in-requires-clause-room g c κs within = c.requires.room

pub read_in-requires-clause-alike : goal.read_in-requires-clause-alike
read_in-requires-clause-alike g c κs within = subst (λ (h : Stored). TellAlike h g.C.Content.pieces c.args.shape.now) (sym c.loop-i.invariant.2) c.requires.alike

pub returns-in-Err-clause-berth : goal.returns-in-Err-clause-berth
returns-in-Err-clause-berth g c = c.read_in.ensures.berth ∙ c.loop-i.invariant.0

pub returns-in-Err-clause-held : goal.returns-in-Err-clause-held
returns-in-Err-clause-held g c = c.read_in.ensures.held ∙ c.loop-i.invariant.2

pub returns-in-Err-clause-why : goal.returns-in-Err-clause-why
returns-in-Err-clause-why g c =
    reports_since (g.D.Depot.held c.args.depot.now) (g.D.Depot.held c.loop-i.depot) (g.D.Depot.faults c.args.depot.now) (g.D.Depot.faults c.loop-i.depot) (g.D.Depot.faults c.read_in.new.depot) c.in-Err.why c.loop-i.invariant.2 c.loop-i.invariant.4 c.in-Err.ensures.why
