use Rattle.std.proofs.Common.{◌++◌, ◌∷◌, [], sym, subst}
use Rattle.batch_ends.specs.Answering.{AreParts, Came}
use Rattle.batch_ends.proofs.answering.Parts.with_next.Goals as goal

pub returns-in-Ok : goal.returns-in-Ok
returns-in-Ok c = λ rs are. let With = λ (next : Came). AreParts (rs ++ next ∷ []) c.with_partial.result in subst With (sym c.in-Ok.is) (c.with_partial.ensures rs are)

pub returns-in-Err : goal.returns-in-Err
returns-in-Err c = λ rs are. let With = λ (next : Came). AreParts (rs ++ next ∷ []) c.with_stop.result in subst With (sym c.in-Err.is) (c.with_stop.ensures rs are)
