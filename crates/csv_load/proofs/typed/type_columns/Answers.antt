use Rattle.csv_load.proofs.Zips.{zip-push}
use Rattle.csv_load.specs.Typed.{IsTyped}
use Rattle.csv_load.proofs.typed.type_columns.Goals as goal

pub loop-gathered-preserved : goal.loop-gathered-preserved
loop-gathered-preserved c =
    rw c.in_ok-push.ensures.items
    (zip-push IsTyped c.loop-gathered.yielded c.loop-gathered.typed.items c.in-Some.gathered c.in_ok-column.column c.loop-gathered.invariant c.in_ok-column.ensures)
