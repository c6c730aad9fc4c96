use Rattle.std.proofs.Common.{Some, refl, ap, ◌∙◌, sym, subst, Bool, List}
use Rattle.std.specs.Option.{option_map}
use Rattle.scan_story.specs.declared.entry.Entry.{Entry}
use Rattle.scan_story.specs.declared.entry.Entry.TheVariants.{Failed}
use Rattle.scan_story.specs.Views.{past}
use Rattle.scan_story.specs.Loads.{underway}
use Rattle.abm_policy.specs.Depots.{DepotView, depot_view, ComesBack, MayReport}
use Rattle.abm_policy.specs.Loads.{MayFinish}
use Rattle.abm_policy.proofs.Faults.{failed_depot}
use Rattle.abm_policy.proofs.Finishing.{may_fail}
use Rattle.abm_policy.proofs.Keeping.{stays_sound}
use Rattle.abm_policy.proofs.desk.Desk.fail_one.Goals as goal

pub write-requires-clause-may : goal.write-requires-clause-may
write-requires-clause-may g c =
    let o = g.S.Origin.origin in
    let s = o.setting in
    let h = past c.self.inside.story.entries in
    let M : List Entry → Type 0 = λ es. (b : Bool) × MayFinish (underway s (past es)) c.args.w c.args.frame c.args.piece b in
    let R : List Entry → Type 0 = λ es. MayReport o (past es) (g.D.Depot.faults c.args.depot) c.args.why in
    let may = subst M (sym c.self.view_is) c.requires.load in
    record {
      allowed = may_fail o h c.args.w c.args.query c.args.frame c.args.piece (g.D.Depot.faults c.args.depot) may.0 c.args.why may.1
          (λ l u. c.requires.query l (ap (λ (es : List Entry). underway s (past es)) (sym c.self.view_is) ∙ u)) (subst R (sym c.self.view_is) c.requires.why);
      chosen = tt;
    }

pub invariant_of-self : goal.invariant_of-self
invariant_of-self g c =
    let o = g.S.Origin.origin in
    let s = o.setting in
    let h = past c.self.inside.story.entries in
    let i = c.self.invariant in
    let f : g.row.D.Denot → DepotView = λ x. depot_view (g.D.Depot.held x) (g.D.Depot.gets x) (g.D.Depot.faults x) in
    let M : List Entry → Type 0 = λ es. (b : Bool) × MayFinish (underway s (past es)) c.args.w c.args.frame c.args.piece b in
    let R : List Entry → Type 0 = λ es. MayReport o (past es) (g.D.Depot.faults c.args.depot) c.args.why in
    let B : List Entry → Type 0 = λ es. ComesBack o (past es) 1 (f c.args.depot) in
    let may = subst M (sym c.self.view_is) c.requires.load in
    stays_sound o _ _ _ _ c.self.inside.book.value c.write.new.book.value c.self.inside.story c.write.new.story (option_map f c.self.inside.depot) (Some (f c.args.depot)) (Failed c.args.w c.args.query c.args.piece c.args.why)
    i c.write.ensures.written c.write.ensures.entries refl i.at_cursor
    (failed_depot o h c.args.w c.args.query c.args.piece c.args.why may.1.load (option_map f c.self.inside.depot) (f c.args.depot) may.1.is_load i.depot (subst B (sym c.self.view_is) c.requires.depot) (subst R (sym c.self.view_is) c.requires.why))
