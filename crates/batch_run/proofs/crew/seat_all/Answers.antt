use Rattle.std.proofs.Common.{◌≡◌, ◌++◌, ◌∷◌, [], ℕ, Some, vec_len, sym, ap, ◌∙◌, subst}
use Rattle.std.proofs.lemmas.List.Elements.{All-pop}
use Rattle.baton.specs.Passes.{PassView, new_pass}
use Rattle.frame_pool.specs.Berths.{BerthView, IsBlank, IsOf}
use Rattle.batch_run.specs.declared.crew.Crew.{Crew}
use Rattle.batch_run.specs.Crews.{IsFresh}
use Rattle.batch_run.proofs.Seats.{IsSeatedOnce, fresh_seated, last_new, passes_moved, seats, seats_fresh}
use Rattle.batch_run.proofs.crew.seat_all.Goals as goal
use Rattle.batch_run.proofs.crew.seat_all.Goals.{After-len-number}

-- the pass that is popped is the new one of the number
popped : (g : _) (c : After-len-number g) → c.in-Some.pass ≡ new_pass c.args.baton.now c.len-number.result g.S.Origin.origin []
popped g c =
    let i = c.loop-pass.invariant in
    let is = last_new c.args.baton.now g.S.Origin.origin c.loop-pass.crew.passes.items c.pop.new.self.items c.in-Some.pass
    (vec_len c.loop-pass.crew.passes) (vec_len c.pop.new.self) i.1.passes c.in-Some.ensures.items (sym c.in-Some.ensures.cases) in
    is.1 ∙ ap (λ (n : ℕ). new_pass c.args.baton.now n g.S.Origin.origin []) (sym c.len-number.ensures)

pub new-requires-clause-number : goal.new-requires-clause-number
new-requires-clause-number g c κs within = ap (λ (p : PassView). p.number) (popped g (goal.at.new-requires-clause-number g c).After-len-number)

pub new-requires-clause-blank : goal.new-requires-clause-blank
new-requires-clause-blank g c κs within =
    (All-pop (λ (b : BerthView). IsOf c.args.pool.now b × IsBlank b) c.loop-pass.crew.berths.items c.pop-in-Some.new.self.items (Some c.in-Some-pop.berth) c.in-Some-pop.ensures.items c.loop-pass.invariant.0.blank).1.1

pub loop-pass-preserved : goal.loop-pass-preserved
loop-pass-preserved g c =
    let o = g.S.Origin.origin in
    let id = c.args.baton.now in
    let pool = c.args.pool.now in
    let i = c.loop-pass.invariant in
    let old = c.loop-pass.crew in
    let w = c.in-Ok.worker in
    let made = c.in-Ok.ensures in
    let new : Crew g.row.S.Denot g.row.C.Denot g.row.P.Denot g.row.D.Denot = record { workers = c.push_reserved.new.self; berths = c.pop-in-Some.new.self; passes = c.pop.new.self } in
    let pass = popped g (goal.at.loop-pass-preserved g c).After-len-number in
    let berth = (All-pop (λ (b : BerthView). IsOf pool b × IsBlank b) old.berths.items new.berths.items (Some c.in-Some-pop.berth) c.in-Some-pop.ensures.items i.0.blank).1 in
    let move : IsSeatedOnce old new w = record {
      passes = c.in-Some.ensures.items ∙ ap (λ (p : PassView). new.passes.items ++ p ∷ []) (sym made.parts.1);
      berths = c.in-Some-pop.ensures.items ∙ ap (λ (b : BerthView). new.berths.items ++ b ∷ []) (sym made.parts.0);
      workers = c.push_reserved.ensures.items;
      fewer_passes = sym c.in-Some.ensures.cases;
      fewer_berths = sym c.in-Some-pop.ensures.cases;
      more_workers = c.push_reserved.ensures.len;
      room = sym c.pop-in-Some.ensures.capacity;
      room_for_passes = sym c.pop.ensures.capacity;
    } in
    let fresh : IsFresh id o c.args.shape.now c.args.jobs w = record {
      number = made.number.1 ∙ sym made.number.0;
      shape = made.shape;
      pass = made.parts.1 ∙ (pass ∙ ap (λ (n : ℕ). new_pass id n o []) (sym made.number.0));
      none = made.none;
      room = made.room;
    } in
    let sits = fresh_seated id o pool c.args.shape.now c.args.jobs w fresh (subst (λ (b : BerthView). IsOf pool b × IsBlank b) (sym made.parts.0) berth) (made.buf ∙ c.requires.bytes) in (
      seats o id pool old new w move sits i.0,
      seats_fresh o id c.args.shape.now c.args.jobs old new w move c.push_reserved.ensures.capacity fresh i.1,
      sym (passes_moved old new w move.passes move.workers) ∙ i.2,
    )
