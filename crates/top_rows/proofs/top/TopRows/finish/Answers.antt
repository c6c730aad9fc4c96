use Rattle.std.proofs.Common.{◌∙◌, List, ℕ, map, ap}
use Rattle.table_core.specs.declared.cell.Cell.{Cell}
use Rattle.query_meaning.specs.Cells.{codes}
use Rattle.query_meaning.specs.Meaning.{cell}
use Rattle.top_rows.specs.Standing.{numbered}
use Rattle.top_rows.specs.Top.{Kept}
use Rattle.top_rows.proofs.Before.{Row}
use Rattle.top_rows.proofs.Stands.{first_in_some_order}
use Rattle.top_rows.proofs.top.TopRows.finish.Goals as goal

abbrev shown : List ℕ → List Row → List (List Cell)
shown columns rows = map (λ (r : Row). map (cell codes r.1) columns) rows

pub returns : goal.returns
returns c = λ rows s.
    let t = c.args.self in
    c.new.ensures ∙ c.in_ok-rows.ensures ∙ ap (λ columns. shown columns (numbered c.self.inside.rows.entries)) c.deref.ensures.value
    ∙ ap (λ (k : Kept). shown k.plan.columns k.rows) c.self.view_is ∙ ap (shown t.plan.columns) (first_in_some_order t rows s)
