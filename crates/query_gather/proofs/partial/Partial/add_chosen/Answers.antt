use Rattle.std.proofs.Common.{subst}
use Rattle.std.proofs.lemmas.Result.{on_err_weaker, on_ok_weaker}
use Rattle.top_rows.specs.Blocks.{numbered_rows}
use Rattle.query_gather.specs.declared.partial.Partial.{Partial}
use Rattle.query_gather.specs.Partial.{MayJoin, Stands}
use Rattle.query_gather.proofs.Blocks.{groups_block, groups_part, top_block, top_part}
use Rattle.query_gather.proofs.partial.Partial.add_chosen.Goals as goal

pub returns-in-Groups-clause-ok : goal.returns-in-Groups-clause-ok
returns-in-Groups-clause-ok c =
    let step = c.add_chosen_rows in
    on_ok_weaker step.result (λ h rows s new. groups_block c.args.first c.args.block.now c.in-Groups.groups step.new.groups c.args.chosen h rows (subst (λ (p : Partial). Stands p rows) c.in-Groups.is s)) step.ensures.ok

pub returns-in-Groups-clause-err : goal.returns-in-Groups-clause-err
returns-in-Groups-clause-err c =
    let step = c.add_chosen_rows in
    on_err_weaker step.result (λ h rows s new. groups_part c.args.first c.args.block.now c.in-Groups.groups step.new.groups c.args.chosen h rows (subst (λ (p : Partial). Stands p rows) c.in-Groups.is s)) step.ensures.err

pub returns-in-Top-clause-ok : goal.returns-in-Top-clause-ok
returns-in-Top-clause-ok c =
    let step = c.add_block in
    let these = numbered_rows c.args.first c.args.block.now in
    on_ok_weaker step.result
    (λ h rows s new. top_block c.args.first c.args.block.now c.in-Top.top step.new.self c.args.chosen h rows (subst (λ (p : Partial). Stands p rows) c.in-Top.is s) (subst (λ (p : Partial). MayJoin p rows these) c.in-Top.is new)) step.ensures.ok

pub returns-in-Top-clause-err : goal.returns-in-Top-clause-err
returns-in-Top-clause-err c =
    let step = c.add_block in
    let these = numbered_rows c.args.first c.args.block.now in
    on_err_weaker step.result
    (λ h rows s new. top_part c.args.first c.args.block.now c.in-Top.top step.new.self c.args.chosen h rows (subst (λ (p : Partial). Stands p rows) c.in-Top.is s) (subst (λ (p : Partial). MayJoin p rows these) c.in-Top.is new)) step.ensures.err
