use Rattle.std.proofs.Common.{List, ℕ, subst, arith}
use Rattle.std.specs.Prelude.{IsCharBoundary}
use Rattle.inspect_calls.proofs.Cutting.{behind_is}
use Rattle.inspect_calls.proofs.excerpts.behind_at.Goals as goal

pub returns-in-Ok : goal.returns-in-Ok
returns-in-Ok c =
    let Bound = λ (l : List ℕ). IsCharBoundary l c.floor_char_boundary.result in
    let here = subst Bound c.in-Ok.ensures.cases.0 c.floor_char_boundary.ensures.boundary in
    behind_is c.args.text.now c.floor_char_boundary.result c.args.at c.floor_char_boundary.ensures.bound here.0 (λ u. here)

pub returns-in-Err : goal.returns-in-Err
returns-in-Err c =
    behind_is c.args.text.now c.min.result c.args.at (omega (arith, c.min.ensures)) (omega (arith, c.min.ensures)) (λ u. absurd (c.in-Err.ensures.cases.0 u))
