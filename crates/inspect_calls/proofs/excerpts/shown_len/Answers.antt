use Rattle.std.proofs.Common.{List, ℕ, subst, arith}
use Rattle.std.specs.Prelude.{IsCharBoundary}
use Rattle.inspect_calls.proofs.excerpts.shown_len.Goals as goal

pub returns-in-Ok : goal.returns-in-Ok
returns-in-Ok c =
    let Bound = λ (l : List ℕ). IsCharBoundary l c.floor_char_boundary.result in
    (c.floor_char_boundary.ensures.bound, λ u. subst Bound c.in-Ok.ensures.cases.0 c.floor_char_boundary.ensures.boundary)

pub returns-in-Err : goal.returns-in-Err
returns-in-Err c = (omega arith, λ u. absurd (c.in-Err.ensures.cases.0 u))
