use Rattle.std.proofs.Common.{◌++◌, codes, rules}
use Rattle.run_output.specs.Counts.{number_and}
use Rattle.table_core.proofs.Writing.{grew_in_first, grew_in_second}
use Rattle.run_output.proofs.summary.write_summary.Goals as goal

pub returns-in_err-write_counted-2-clause-memory : goal.returns-in_err-write_counted-2-clause-memory
returns-in_err-write_counted-2-clause-memory c =
    let queries = number_and c.args.queries (codes " queries, ") in
    let behind = number_and c.args.deliveries (codes " deliveries, ") ++ number_and c.args.rows (codes " rows\n") in
    let answered = grew_in_first behind c.in_err-write_counted-2.ensures.memory in
    let grew = grew_in_second _ (codes "summary: ") c.in_ok-append.ensures.ok (grew_in_second _ queries c.in_ok-write_counted.ensures.text answered) in search rules
