use Rattle.std.proofs.Common.{Some, false, refl, sym, subst, List}
use Rattle.std.specs.Option.{option_map}
use Rattle.scan_story.specs.declared.entry.Entry.{Entry}
use Rattle.scan_story.specs.declared.entry.Entry.TheVariants.{Filled}
use Rattle.scan_story.specs.Views.{past}
use Rattle.scan_story.specs.Loads.{underway}
use Rattle.abm_policy.specs.Depots.{DepotView, depot_view, ComesBack}
use Rattle.abm_policy.specs.Loads.{MayFinish}
use Rattle.abm_policy.proofs.Faults.{filled_depot}
use Rattle.abm_policy.proofs.Finishing.{closes}
use Rattle.abm_policy.proofs.Keeping.{stays_sound}
use Rattle.abm_policy.proofs.desk.Desk.finish_last.Goals as goal

pub invariant_of-self : goal.invariant_of-self
invariant_of-self g c =
    let o = g.S.Origin.origin in
    let s = o.setting in
    let h = past c.self.inside.story.entries in
    let i = c.self.invariant in
    let f : g.row.D.Denot → DepotView = λ x. depot_view (g.D.Depot.held x) (g.D.Depot.gets x) (g.D.Depot.faults x) in
    let M : List Entry → Type 0 = λ es. MayFinish (underway s (past es)) c.args.w c.args.frame c.args.piece false in
    let B : List Entry → Type 0 = λ es. ComesBack o (past es) 1 (f c.args.depot) in
    let may = subst M (sym c.self.view_is) c.requires.load in
    stays_sound o _ _ _ _ c.self.inside.book.value c.write.new.book.value c.self.inside.story c.write.new.story (option_map f c.self.inside.depot) (Some (f c.args.depot)) (Filled c.args.w c.args.frame c.args.piece)
    i c.write.ensures.written c.write.ensures.entries refl i.at_cursor
    (filled_depot o h c.args.w c.args.frame c.args.piece may.load (option_map f c.self.inside.depot) (f c.args.depot) may.is_load i.depot (closes s h c.args.w c.args.frame c.args.piece may) (subst B (sym c.self.view_is) c.requires.depot))
