use Rattle.std.proofs.Common.{◌≡◌, ◌∙◌, ◌++◌, ◌∷◌, [], List, false, take, refl, ap, subst}
use Rattle.query_meaning.specs.Cells.{codes}
use Rattle.query_meaning.specs.Rows.{has_number, insert_row}
use Rattle.top_rows.specs.Standing.{numbered}
use Rattle.top_rows.specs.Top.{Kept, Stands}
use Rattle.top_rows.proofs.Before.{Row}
use Rattle.top_rows.proofs.Stands.{stands_more}
use Rattle.top_rows.proofs.top.TopRows.add.Goals as goal

pub returns-clause-ok : goal.returns-clause-ok
returns-clause-ok c =
    let t = c.self.inside in
    let r : Row = (c.args.number, c.args.row.now) in
    let old : Kept = record { plan = record { columns = t.columns.items; order = t.order.items; limit = t.limit }; rows = numbered t.rows.entries } in
    let new : Kept = record { plan = old.plan; rows = numbered c.add_to.new.rows.entries } in
    let S : Kept → Type 0 = λ k. (rows : List Row) → Stands k rows → has_number rows c.args.number ≡ false → Stands new (rows ++ r ∷ []) in
    subst S c.self.view_is (stands_more old new r refl (λ n. c.in_ok-add_to.ensures.ok n ∙ ap (λ orders. take t.limit (insert_row codes orders r old.rows)) c.deref.ensures.value))
