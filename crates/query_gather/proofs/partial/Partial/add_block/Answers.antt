use Rattle.std.proofs.Common.{◌++◌, List, subst, arith}
use Rattle.std.proofs.lemmas.Result.{on_err_weaker, on_ok_weaker}
use Rattle.table_core.specs.declared.cell.Cell.{Cell}
use Rattle.top_rows.specs.Blocks.{HoldsInPart}
use Rattle.query_meaning.specs.Rows.{Numbered}
use Rattle.query_gather.specs.Partial.{Stands}
use Rattle.query_gather.proofs.Alike.{alike_fits, has_places}
use Rattle.query_gather.proofs.Blocks.{chosen_matching}
use Rattle.query_gather.proofs.partial.Partial.add_block.Goals as goal

pub add_chosen-requires-clause-width : goal.add_chosen-requires-clause-width
add_chosen-requires-clause-width c = has_places c.args.plan.now c.args.self.now c.args.block.now.width c.requires.plan c.requires.width

pub returns-clause-ok : goal.returns-clause-ok
returns-clause-ok c =
    let new = c.add_chosen.new.self in
    let same = chosen_matching c.args.first c.args.block.now c.args.plan.now c.chosen_of-chosen.result 0 c.args.block.now.count (λ j low. c.chosen_of-chosen.ensures.set j (omega (arith, low))) in
    on_ok_weaker c.add_chosen.result (λ h rows s join. subst (λ (more : List (Numbered Cell)). Stands new (rows ++ more)) same (h rows s join)) c.add_chosen.ensures.ok

pub returns-clause-err : goal.returns-clause-err
returns-clause-err c =
    let new = c.add_chosen.new.self in
    let same = chosen_matching c.args.first c.args.block.now c.args.plan.now c.chosen_of-chosen.result 0 c.args.block.now.count (λ j low. c.chosen_of-chosen.ensures.set j (omega (arith, low))) in
    on_err_weaker c.add_chosen.result (λ h rows s join. subst (λ (more : List (Numbered Cell)). HoldsInPart (Stands new) rows more) same (h rows s join)) c.add_chosen.ensures.err

pub returns-clause-plan : goal.returns-clause-plan
returns-clause-plan c = λ p fits. alike_fits p c.args.self.now c.add_chosen.new.self c.add_chosen.ensures.alike fits
