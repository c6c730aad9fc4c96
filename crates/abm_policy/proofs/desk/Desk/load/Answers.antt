use Rattle.std.proofs.Common.{◌≡◌, ◌++◌, ap, ◌∙◌, sym, subst, List, length, arith, append_assoc}
use Rattle.scan_story.specs.declared.entry.Entry.{Entry}
use Rattle.scan_story.specs.Views.{past}
use Rattle.abm_policy.specs.Depots.{DepotView, depot_view}
use Rattle.abm_policy.specs.Loads.{evicts, fills}
use Rattle.abm_policy.proofs.Faults.{last_within}
use Rattle.abm_policy.proofs.Finishing.{length_pieces}
use Rattle.abm_policy.proofs.Quiet.{IsQuiet, quiet_begun, quiet_agrees}
use Rattle.abm_policy.proofs.desk.Desk.load.Goals as goal

pub returns-clause-depot : goal.returns-clause-depot
returns-clause-depot g c =
    let o = g.S.Origin.origin in
    let p = c.plan-query.result in
    let f : g.row.D.Denot → DepotView = λ x. depot_view (g.D.Depot.held x) (g.D.Depot.gets x) (g.D.Depot.faults x) in
    let cs = c.make_room.ensures.entries.chunks in
    let bs = c.begin_fills-slots.result in
    let mid = c.plan-query.new.self in
    let new = c.begin_fills-slots.new.self in
    let Q : List Entry → Type 0 = λ es. IsQuiet (past mid) (past es) in
    let added : new ≡ mid ++ (evicts c.args.w cs ++ fills c.args.w bs) =
    c.begin_fills-slots.ensures.entries ∙ ap (λ (es : List Entry). es ++ fills c.args.w bs) c.make_room.ensures.entries.added ∙ append_assoc mid (evicts c.args.w cs) (fills c.args.w bs) in
    let agrees = quiet_agrees o (past mid) (past new) (f p.depot) (subst Q (sym added) (quiet_begun c.args.w cs bs mid)) c.plan-query.ensures.depot in
    record {
      agrees = agrees;
      faults = last_within _ o.faults (g.D.Depot.faults p.depot) (past new) agrees.licensed;
      room = omega (arith, c.plan-query.ensures.room, length_pieces bs, ap length c.begin_fills-slots.ensures.pieces, c.len.ensures.len, c.len.ensures.few);
    }
