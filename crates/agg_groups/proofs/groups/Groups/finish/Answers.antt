use Rattle.std.proofs.Common.{◌≡◌, ◌∙◌, sym, ap, subst, rules}
use Rattle.std.specs.Prelude.{Some, None}
use Rattle.agg_groups.specs.declared.rows.FinishFault.{FinishFault}
use Rattle.query_meaning.specs.Cells.{codes}
use Rattle.query_meaning.specs.Meaning.{overflow}
use Rattle.agg_groups.specs.Groups.{Kept, IsFault}
use Rattle.agg_groups.specs.Table.{first_over, result_rows, seen}
use Rattle.agg_groups.proofs.Shows.{rows-groups_of, over-groups_of}
use Rattle.agg_groups.proofs.Stands.{groups_in_some_order}
use Rattle.agg_groups.proofs.groups.Groups.finish.Goals as goal

pub returns-in-Some-clause-err : goal.returns-in-Some-clause-err
returns-in-Some-clause-err c = λ rows s.
    let g = c.args.self in
    let o : overflow codes g.items g.keys rows ≡ Some c.in-Some.first =
    sym (over-groups_of g.items g.keys rows) ∙ ap first_over (sym (groups_in_some_order g rows s)) ∙ sym (ap (λ (k : Kept). first_over k.groups) c.self.view_is) ∙ sym c.first_over.ensures ∙ c.in-Some.is in
    let P : FinishFault → Type 0 = λ e. IsFault e (overflow codes g.items g.keys rows) in
    subst P (sym c.sum_overflow.ensures) o

pub returns-clause-ok : goal.returns-clause-ok
returns-clause-ok c = λ rows s.
    let g = c.args.self in
    c.new.ensures ∙ c.in_ok-rows.ensures ∙ ap (λ is. result_rows is (seen c.self.inside.table)) c.deref-2.ensures.value
    ∙ ap (λ (k : Kept). result_rows k.items k.groups) c.self.view_is ∙ ap (result_rows g.items) (groups_in_some_order g rows s) ∙ rows-groups_of g.items g.keys rows

pub returns-clause-fits : goal.returns-clause-fits
returns-clause-fits c = λ rows s.
    let g = c.args.self in
    let none : c.first_over.result ≡ None = search rules in
    sym (over-groups_of g.items g.keys rows) ∙ ap first_over (sym (groups_in_some_order g rows s)) ∙ sym (ap (λ (k : Kept). first_over k.groups) c.self.view_is) ∙ sym c.first_over.ensures ∙ none
