use Rattle.std.proofs.Common.{rules, ◌≡◌, ◌≤◌, [], vec_len, vec_capacity, arith}
use Rattle.std.proofs.lemmas.List.Elements.{All-nil, All-same}
use Rattle.baton.specs.Passes.{IsFree}
use Rattle.cscan.specs.Stations.{IsSeated}
use Rattle.batch_run.specs.declared.worker.Worker.{Worker}
use Rattle.batch_run.proofs.Seats.{new_free}
use Rattle.batch_run.proofs.seating.open.Goals as goal

pub returns-in-Ok-desk_at_baton-clause-crew : goal.returns-in-Ok-desk_at_baton-clause-crew
returns-in-Ok-desk_at_baton-clause-crew g c =
    let o = g.S.Origin.origin in
    let id = c.in-Ok-desk_at_baton.baton in
    let pool = c.in-Ok.pool in
    let made = c.in-Ok.ensures in
    let passes = c.in-Ok-desk_at_baton.ensures in
    let Seated : Worker g.row.S.Denot g.row.C.Denot g.row.P.Denot g.row.D.Denot → Type 0 = λ w. IsSeated id pool o [] w.station in
    let room : vec_len c.in-Ok.berths ≤ vec_capacity c.in-Ok.berths = search rules in
    let room_for_passes : vec_len c.in-Ok-desk_at_baton.passes ≤ vec_capacity c.in-Ok-desk_at_baton.passes = search rules in
    let none : c.reserve.new.self.items ≡ [] = search rules in
    let nobody : vec_len c.reserve.new.self ≡ 0 = search rules in
    record {
      seated = All-same Seated c.reserve.new.self.items [] none (All-nil Seated);
      blank = made.blank;
      free = All-same (IsFree id) c.in-Ok-desk_at_baton.passes.items _ passes.passes (new_free id o c.args.options.now.workers);
      some = omega (arith, made.berths.0, c.requires.options.workers.0);
      berths = omega (arith, made.berths.0, made.berths.1, nobody);
      pairs = omega (arith, passes.count, made.berths.1);
      room = omega (arith, room, made.berths.0, made.berths.1);
      room_for_passes = omega (arith, room_for_passes, passes.count, made.berths.0);
    }
