use Rattle.std.proofs.Common.{codes, rules}
use Rattle.table_core.specs.Value.{number_text}
use Rattle.table_core.proofs.Writing.{grew_in_first, grew_in_second}
use Rattle.run_output.proofs.refused.write_overflow_words.Goals as goal

pub returns-in_err-write_counted-clause-memory : goal.returns-in_err-write_counted-clause-memory
returns-in_err-write_counted-clause-memory c =
    let grew = grew_in_second _ (codes "sum overflow item ") c.in_ok-append.ensures.ok (grew_in_first (number_text c.args.places c.args.total) c.in_err-write_counted.ensures.memory) in search rules
