use Rattle.std.proofs.Common.{◌≡◌, ◌∙◌, [], ℕ, List, refl, sym, ap, subst}
use Rattle.table_sets.specs.Sets as sets
use Rattle.story_laws.specs.Lists.{NoneTwice}
use Rattle.story_laws.specs.Queries.{chunks_delivered}
use Rattle.piece_format.specs.Shape.{IsShape, TableShape}
use Rattle.cscan.specs.Answers.{FindsStopped, TakesChunk, delivery_to}
use Rattle.cscan.specs.Scans.{IsSameScan, reads_column}
use Rattle.batch_ends.specs.Gathered.{Gathered}
use Rattle.batch_run.proofs.Gathering.{gathered_none}
use Rattle.batch_run.proofs.Taking.{after_chunk, after_end, all_taken, few_more, once_each, same_on, went_none, went_stopped}
use Rattle.batch_run.proofs.part.scan_part.Goals as goal

pub loop-init : goal.loop-init
loop-init g c =
    let scan = c.args.scan.now in
    let z = c.args.shape.now in
    let p = c.args.plan.now in
    let held = g.S.Origin.origin.held in
    let told = g.C.Content.pieces in
    record {
      scan = c.requires.scan;
      none = c.requires.none;
      same = record { station = refl; number = refl; baton = refl; pool = refl; shape = refl; query = refl };
      went = went_none scan.query scan.station.now.pass c.requires.scan.seated.0.3;
      gathered = subst (λ (cs : List ℕ). Gathered z p held told cs c.args.into) (sym c.requires.just_begun) (gathered_none z p held told c.args.into c.requires.fits c.requires.empty c.requires.no_rows);
    }

pub add_rows-added-requires-clause-columns : goal.add_rows-added-requires-clause-columns
add_rows-added-requires-clause-columns g c κs within = λ x.
    let s = g.S.Origin.origin.setting in
    let is = c.next-in-loop.ensures.same.query ∙ c.loop.invariant.same.query in
    subst (λ (q : ℕ). reads_column s q x ≡ sets.has c.args.plan.now.columns x) (sym is) (c.requires.columns x)

pub add_rows-added-requires-clause-few : goal.add_rows-added-requires-clause-few
add_rows-added-requires-clause-few g c κs within =
    let s = g.S.Origin.origin.setting in
    let old = c.loop.scan in
    let held = g.S.Origin.origin.held in
    let told = g.C.Content.pieces in
    let shape = subst IsShape c.requires.shape c.requires.scan.fits.shape in
    let q : ℕ = c.args.scan.now.query in
    let is = c.loop.invariant.same.query in
    let k = c.in-Chunk.held.given.chunk in
    let cs = chunks_delivered old.station.now.pass.mine q in
    let takes = subst (λ (j : ℕ). TakesChunk s old.station.now.number j old.station.now.pass c.next-in-loop.new.self.station.now.pass k) is c.in-Chunk.ensures.answer.2 in
    let once = subst (λ (j : ℕ). NoneTwice (chunks_delivered old.station.now.pass.mine j)) is (once_each g.S.Origin.origin told old c.loop.invariant.scan) in
    few_more c.args.shape.now c.args.plan.now held told cs k c.loop.partial shape.some_rows shape.few_rows once takes.fresh c.loop.invariant.gathered

-- the gate was called for the delivery of the chunk that is out
pub release-requires-clause-called : goal.release-requires-clause-called
release-requires-clause-called g c κs within =
    let k = c.in-Chunk.held.given.chunk in
    c.holding-called.ensures.called
    ∙ (c.in-Chunk.ensures.answer.3 ∙ sym (ap (λ x. delivery_to x.station.now.number x.query k) c.add_rows-added.ensures.same))

pub returns-in-Err-clause-went : goal.returns-in-Err-clause-went
returns-in-Err-clause-went g c =
    let is = c.loop.invariant.same.query in
    (after_chunk g.S.Origin.origin.setting c.args.scan.now.query c.in-Chunk.held.given.chunk c.args.scan.now.station.now.pass c.loop.scan c.next-in-loop.new.self c.add_rows-added.new.scan c.release.new.scan is
    c.loop.invariant.went c.next-in-loop.ensures.same c.add_rows-added.ensures.same c.in-Chunk.ensures.answer.2 c.release.ensures.released).0

pub loop-preserved : goal.loop-preserved
loop-preserved g c =
    let s = g.S.Origin.origin.setting in
    let held = g.S.Origin.origin.held in
    let told = g.C.Content.pieces in
    let z = c.args.shape.now in
    let p = c.args.plan.now in
    let q : ℕ = c.args.scan.now.query in
    let k = c.in-Chunk.held.given.chunk in
    let old = c.loop.scan in
    let new = c.next-in-loop.new.self in
    let mid = c.add_rows-added.new.scan in
    let end = c.release.new.scan in
    let before = c.loop.invariant in
    let is = before.same.query in
    let after = after_chunk s q k c.args.scan.now.station.now.pass old new mid end is before.went c.next-in-loop.ensures.same c.add_rows-added.ensures.same c.in-Chunk.ensures.answer.2 c.release.ensures.released in
    let takes = subst (λ (j : ℕ). TakesChunk s old.station.now.number j old.station.now.pass new.station.now.pass k) is c.in-Chunk.ensures.answer.2 in
    record {
      scan = c.release.ensures.scan;
      none = c.release.ensures.out;
      same = same_on c.args.scan.now old end before.same (same_on old new end c.next-in-loop.ensures.same (subst (λ x. IsSameScan x end) c.add_rows-added.ensures.same c.release.ensures.same));
      went = after.0;
      gathered = subst (λ (cs : List ℕ). Gathered z p held told cs c.add_rows-added.new.partial) (sym after.1) (c.in-Ok.ensures.gathered (chunks_delivered old.station.now.pass.mine q) takes.fresh before.gathered);
    }

pub returns-in-Done-clause-went : goal.returns-in-Done-clause-went
returns-in-Done-clause-went g c =
    let is = c.loop.invariant.same.query in
    (after_end g.S.Origin.origin.setting c.args.scan.now.query c.args.scan.now.station.now.pass c.loop.scan c.next-in-loop.new.self is c.loop.invariant.went c.next-in-loop.ensures.same c.in-Done.ensures.answer.2).0

pub returns-in-Done-clause-came : goal.returns-in-Done-clause-came
returns-in-Done-clause-came g c =
    let o = g.S.Origin.origin in
    let told = g.C.Content.pieces in
    let p = c.args.plan.now in
    let old = c.loop.scan in
    let new = c.next-in-loop.new.self in
    let before = c.loop.invariant in
    let same = c.next-in-loop.ensures.same in
    let over = c.in-Done.ensures.answer.1 in
    let is = before.same.query in
    let after = after_end o.setting c.args.scan.now.query c.args.scan.now.station.now.pass old new is before.went same c.in-Done.ensures.answer.2 in
    let shape : c.args.shape.now ≡ new.shape.now = sym (same.shape ∙ (before.same.shape ∙ c.requires.shape)) in
    let gathered = subst (λ (cs : List ℕ). Gathered c.args.shape.now p o.held told cs c.loop.partial) after.2 before.gathered in (
      over,
      after.1,
      all_taken o told old new c.requires.start before.scan same over after.1,
      subst (λ (z : TableShape). Gathered z p o.held told (chunks_delivered new.station.now.pass.mine new.query) c.loop.partial) shape gathered,
    )

pub returns-in-Stopped-clause-went : goal.returns-in-Stopped-clause-went
returns-in-Stopped-clause-went g c =
    let s = g.S.Origin.origin.setting in
    let old = c.loop.scan in
    let new = c.next-in-loop.new.self in
    let is = c.loop.invariant.same.query in
    let stops = subst (λ (q : ℕ). FindsStopped q old.station.now.pass new.station.now.pass c.in-Stopped.cause) is c.in-Stopped.ensures.answer.2 in
    went_stopped s old.station.now.number c.args.scan.now.query c.args.scan.now.station.now.pass old.station.now.pass new.station.now.pass c.loop.invariant.went c.in-Stopped.cause stops
