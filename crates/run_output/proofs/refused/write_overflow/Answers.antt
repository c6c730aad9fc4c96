use Rattle.std.proofs.Common.{◌++◌, codes, rules}
use Rattle.std.proofs.lemmas.Result.{on_err_weaker}
use Rattle.table_core.specs.Writing.{GrewByPrefix}
use Rattle.run_output.specs.Refusals as spec
use Rattle.table_core.proofs.Writing.{grew_in_first, grew_in_second}
use Rattle.run_output.proofs.refused.write_overflow.Goals as goal

pub returns-in_err-write_before-clause-memory : goal.returns-in_err-write_before-clause-memory
returns-in_err-write_before-clause-memory c =
    let grew = grew_in_first (spec.overflow_words c.args.item c.args.total c.args.places ++ codes "\n") c.in_err-write_before.ensures.memory in search rules

pub returns-in_err-write_overflow_words-clause-memory : goal.returns-in_err-write_overflow_words-clause-memory
returns-in_err-write_overflow_words-clause-memory c =
    let grew = grew_in_second _ (spec.refusal_head c.args.query) c.in_ok-write_before.ensures.text (grew_in_first (codes "\n") c.in_err-write_overflow_words.ensures.memory) in search rules

pub returns-clause-memory : goal.returns-clause-memory
returns-clause-memory c =
    let out = c.end_line.new.out in
    let grew = on_err_weaker c.end_line.result
    (λ (by : GrewByPrefix c.write_overflow_words.new.out out (codes "\n")). grew_in_second c.args.out.now (spec.refusal_head c.args.query) c.in_ok-write_before.ensures.text
    (grew_in_second c.write_before.new.out _ c.in_ok-write_overflow_words.ensures.text by)) c.end_line.ensures.memory in
    search rules
