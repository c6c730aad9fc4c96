use Rattle.std.proofs.Common.{◌≡◌, ◌∙◌, ◌++◌, ◌∷◌, List, map, sym, ap, rules}
use Rattle.table_core.specs.declared.cell.Cell.{Cell}
use Rattle.table_core.specs.Lists.{lists}
use Rattle.query_meaning.specs.Cells.{codes}
use Rattle.query_meaning.specs.Meaning.{cell}
use Rattle.agg_groups.proofs.Shows.{rows_push}
use Rattle.top_rows.specs.Standing.{Entry, numbered}
use Rattle.top_rows.proofs.Before.{Row}
use Rattle.top_rows.proofs.top.answer.Goals as goal

pub loop-row-init : goal.loop-row-init
loop-row-init c =
    let shown : List Entry → List (List Cell) = λ es. map (λ (r : Row). map (cell codes r.1) c.args.columns.now) (numbered es) in
    let start : c.into_iter-row-iterator.result ≡ c.args.rows.now.entries = search rules in
    ap (λ rs. lists rs ++ shown c.into_iter-row-iterator.result) c.in_ok-answer.ensures.items ∙ ap shown start

pub loop-row-preserved : goal.loop-row-preserved
loop-row-preserved c =
    let columns = c.args.columns.now in
    let shown : List Entry → List (List Cell) = λ es. map (λ (r : Row). map (cell codes r.1) columns) (numbered es) in
    let rest = shown c.next.new.self in
    let done = lists c.loop-row.answer.items in
    let values : c.in_ok-values.values.items ≡ map (cell codes c.in-Some.row.now.items) columns = c.in_ok-values.ensures ∙ ap (λ cs. map (cell codes cs) columns) c.deref.ensures.value in
    ap (λ rs. lists rs ++ rest) c.in_ok-push.ensures.items ∙ rows_push c.loop-row.answer.items c.in_ok-values.values rest ∙ ap (λ r. done ++ (r ∷ rest)) values
    ∙ sym (ap (λ es. done ++ shown es) c.in-Some.ensures.steps) ∙ c.loop-row.invariant
