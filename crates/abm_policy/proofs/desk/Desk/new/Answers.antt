use Rattle.std.proofs.Common.{[], ap, ◌∙◌, map, subst, sym}
use Rattle.chunk_interest.specs.Fresh.{as_need}
use Rattle.interest_book.specs.declared.book.Book.{Book}
use Rattle.interest_book.specs.Stands.{Stands}
use Rattle.abm_policy.specs.Depots.{depot_view}
use Rattle.abm_policy.proofs.Founding.{book_setting, made_for_setting, founded}
use Rattle.abm_policy.proofs.desk.Desk.new.Goals as goal

pub new-requires : goal.new-requires
new-requires g c = book_setting g.S.Origin.origin.setting c.args.needs.items c.args.chunks c.args.workers c.args.frames c.args.groups _ _ c.requires.setting c.requires.start.setting

pub invariant_of-result : goal.invariant_of-result
invariant_of-result g c =
    let s = g.S.Origin.origin.setting in
    let m = made_for_setting s c.args.needs.items c.args.chunks c.args.workers c.args.frames c.args.groups _ _ c.requires.setting in
    let P : Book → Type 0 = λ b. Stands b s [] in
    founded g.S.Origin.origin c.args.needs.items c.args.chunks c.args.workers c.args.frames c.args.groups (g.P.Policy.name c.args.policy) (g.P.Policy.cursor c.args.policy) c.in-Ok-new-2.book.value c.in-Ok.story
    (depot_view (g.D.Depot.held c.args.depot) (g.D.Depot.gets c.args.depot) (g.D.Depot.faults c.args.depot))
    c.requires.start c.requires.setting c.requires.depot
    (subst P (sym c.in-Ok-new-2.ensures.ok) (c.in-Ok-new.ensures s m))
    c.in-Ok.ensures.empty (c.in-Ok.ensures.room ∙ c.room_for.ensures s (ap (map as_need) c.deref.ensures.value ∙ m.needs) m.groups)
