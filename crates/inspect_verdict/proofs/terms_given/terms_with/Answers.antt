use Rattle.std.proofs.Common.{◌≤◌, ◌*◌, List, length, map, sym, subst, arith}
use Rattle.std.specs.Prelude.{All, IfSome}
use Rattle.table_sets.specs.Sets.{Rising}
use Rattle.filter_zones.specs.Truth.{FitsRow}
use Rattle.batch_plan.specs.Setting.{NamesColumns}
use Rattle.batch_plan.specs.declared.task.Task.{Task}
use Rattle.run_ends.specs.Running.{shape_in}
use Rattle.run_ends.proofs.Tasked.{scans-few, tasks-rise}
use Rattle.inspect_verdict.proofs.Given.{columns_are, conditions_are}
use Rattle.inspect_verdict.proofs.terms_given.terms_with.Goals as goal

pub terms_of-requires-clause-numbers : goal.terms_of-requires-clause-numbers
terms_of-requires-clause-numbers c =
    let Rise = λ (ts : List Task). Rising 1 (map (λ (t : Task). t.query) ts) 257 in
    subst Rise (sym c.requires.tasks) (tasks-rise 1 1 257 c.args.inputs.now.outcomes.items (omega arith) (omega (arith, c.requires.can.few)))

pub terms_of-requires-clause-scans : goal.terms_of-requires-clause-scans
terms_of-requires-clause-scans c =
    let i = c.args.inputs.now in
    let n = length i.outcomes.items in
    let few : n * i.options.parts ≤ 256 = omega (arith, c.requires.can.scans) in
    let Few = λ (ts : List Task). All (λ (t : Task). t.query * i.options.parts ≤ 256) ts in
    subst Few (sym c.requires.tasks) (scans-few i.options.parts n 1 i.outcomes.items few (omega arith))

pub terms_of-requires-clause-columns : goal.terms_of-requires-clause-columns
terms_of-requires-clause-columns c =
    let i = c.args.inputs.now in
    let Name = λ (ts : List Task). All (λ (t : Task). NamesColumns (length (shape_in i).kinds) t.plan) ts in
    subst Name (sym c.requires.tasks) (columns_are i c.requires.can)

pub terms_of-requires-clause-conditions : goal.terms_of-requires-clause-conditions
terms_of-requires-clause-conditions c =
    let i = c.args.inputs.now in
    let Fit = λ (ts : List Task). All (λ (t : Task). IfSome t.plan.cond (λ k. All (FitsRow k) i.loaded.table.rows)) ts in
    subst Fit (sym c.requires.tasks) (conditions_are i c.requires.can)
