use Rattle.std.proofs.Common.{◌≡◌, ◌∙◌, ◌++◌, [], List, sym, ap, subst}
use Rattle.query_meaning.specs.Rows.{AreDistinct}
use Rattle.top_rows.specs.Standing.{numbered}
use Rattle.top_rows.specs.Top.{Kept, Stands}
use Rattle.top_rows.proofs.Before.{Row}
use Rattle.top_rows.proofs.Firsts.{distinct_front}
use Rattle.top_rows.proofs.Stands.{stands_joined}
use Rattle.top_rows.proofs.top.TopRows.united.Goals as goal

pub returns-clause-ok : goal.returns-clause-ok
returns-clause-ok c =
    let A = numbered c.self.inside.rows.entries in
    let B = numbered c.other.inside.rows.entries in
    let new = c.absorb-2.new.top in
    let view : A ++ B ≡ c.args.self.now.rows ++ c.args.other.now.rows = ap (λ (k : Kept). k.rows ++ B) c.self.view_is ∙ ap (λ (k : Kept). c.args.self.now.rows ++ k.rows) c.other.view_is in
    stands_joined c.args.self.now c.args.other.now new c.requires (c.in_ok-absorb-2.ensures.plan ∙ c.in_ok-absorb.ensures.plan ∙ c.in_ok-both.ensures.plan) (λ rows e d.
    let both : rows ≡ A ++ B = e ∙ sym view in
    let apart = subst (λ (rs : List Row). AreDistinct rs) both d in
    subst (Stands new) (sym both) (c.in_ok-absorb-2.ensures.ok A (c.in_ok-absorb.ensures.ok [] c.in_ok-both.ensures.stands (distinct_front A B apart)) apart))
