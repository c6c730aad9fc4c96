use Rattle.std.proofs.Common.{◌≤◌, arith}
use Rattle.std.proofs.lemmas.Result.{err_from_is_err_and}
use Rattle.sql_text.specs.Grammar.{nesting}
use Rattle.sql_text.specs.Reading.{parsed_of}
use Rattle.sql_text.specs.Words.{tokens_of}
use Rattle.sql_text.proofs.ReadTexts.{refused_by, read_within, refused_within}
use Rattle.sql_text.proofs.reading.read_words.Goals as goal

pub returns-in_err-parts-clause-err : goal.returns-in_err-parts-clause-err
returns-in_err-parts-clause-err c =
    let p = err_from_is_err_and c.from_residual.result c.from_residual.ensures.1 in
    let few : nesting (tokens_of c.args.words.now) ≤ 256 = omega (arith, c.nesting.ensures.value) in
    rw (p.1, p.2) (refused_by _ _ few c.in_err-parts.ensures)

pub returns-clause-ok : goal.returns-clause-ok
returns-clause-ok c =
    let few : nesting (tokens_of c.args.words.now) ≤ 256 = omega (arith, c.nesting.ensures.value) in
    read_within (tokens_of c.args.words.now) (parsed_of c.in_ok-parts.parts) c.within_limits.result few c.in_ok-parts.ensures c.within_limits.ensures.ok

pub returns-clause-err : goal.returns-clause-err
returns-clause-err c =
    let few : nesting (tokens_of c.args.words.now) ≤ 256 = omega (arith, c.nesting.ensures.value) in
    refused_within (tokens_of c.args.words.now) (parsed_of c.in_ok-parts.parts) c.within_limits.result few c.in_ok-parts.ensures c.within_limits.ensures.err
