use Rattle.std.proofs.lemmas.Result.{IfOk-at_ok}
use Rattle.std.specs.List.{AllZip}
use Rattle.csv_load.specs.Typed.{IsTyped}
use Rattle.csv_load.proofs.Sides.{zip-parts}
use Rattle.csv_load.proofs.side_by_side.+sides.Goals as goal

pub returns : goal.returns
returns g t c =
    let cut = c.in_ok-rest.ensures in
    zip-parts IsTyped _ _ _ _ _ _ _ cut.items cut.tail c.in_ok-append.ensures.items
    (IfOk-at_ok (λ v. AllZip IsTyped _ v.items) c.in_ok-typed.was c.join-first.ensures.first)
    (IfOk-at_ok (λ v. AllZip IsTyped _ v.items) c.in_ok-others.was c.join-first.ensures.second)
