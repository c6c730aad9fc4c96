use Rattle.std.proofs.Common.{◌++◌, codes, rules}
use Rattle.run_output.specs.Refusals as spec
use Rattle.table_core.proofs.Writing.{grew_in_first, grew_in_second}
use Rattle.run_output.proofs.refused.write_refusal.Goals as goal

pub returns-in_err-write_before-clause-memory : goal.returns-in_err-write_before-clause-memory
returns-in_err-write_before-clause-memory c =
    let grew = grew_in_first (spec.statement_words c.args.why.now ++ codes "\n") c.in_err-write_before.ensures.memory in search rules

pub returns-in_err-write_statement_words-clause-memory : goal.returns-in_err-write_statement_words-clause-memory
returns-in_err-write_statement_words-clause-memory c =
    let grew = grew_in_second _ (spec.refusal_head c.args.query) c.in_ok-write_before.ensures.text (grew_in_first (codes "\n") c.in_err-write_statement_words.ensures.memory) in search rules
