use Rattle.std.proofs.lemmas.List.Elements.{recursion_from_All}
use Rattle.table_core.specs.Dict.{Rises}
use Rattle.table_core.specs.declared.cell.Cell.{Cell}
use Rattle.query_meaning.specs.Rows.{Numbered}
use Rattle.sql_bind.specs.Texts.{AreCellsOf}
use Rattle.sql_bind.proofs.Groups.{same_meaning, same_overflow}
use Rattle.sql_bind.proofs.Firsts.{same_first_rows}
use Rattle.sql_bind.proofs.plan_meaning.one_meaning.Goals as goal

pub returns-clause-meaning : goal.returns-clause-meaning
returns-clause-meaning c = λ dicts items keys rows rises all.
    same_meaning dicts (recursion_from_All Rises dicts rises) items keys rows (recursion_from_All (AreCellsOf dicts) rows all)

pub returns-clause-overflow : goal.returns-clause-overflow
returns-clause-overflow c = λ dicts items keys rows rises all.
    same_overflow dicts (recursion_from_All Rises dicts rises) items keys rows (recursion_from_All (AreCellsOf dicts) rows all)

pub returns-clause-first_rows : goal.returns-clause-first_rows
returns-clause-first_rows c = λ dicts q rows rises all.
    same_first_rows dicts (recursion_from_All Rises dicts rises) q rows (recursion_from_All (λ (r : Numbered Cell). AreCellsOf dicts r.1) rows all)
