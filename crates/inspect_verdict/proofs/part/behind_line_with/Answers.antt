use Rattle.inspect_verdict.proofs.PartLines.{end_of_line}
use Rattle.inspect_verdict.proofs.Standing.{line_of_head}
use Rattle.inspect_verdict.proofs.PartTexts.{line_rest}
use Rattle.inspect_verdict.proofs.part.behind_line_with.Goals as goal

pub returns-in-Some-clause-line : goal.returns-in-Some-clause-line
returns-in-Some-clause-line c = line_of_head c.args.text.now c.args.head.now c.in-Some.words.now c.behind_line.result c.in-Some.ensures c.behind_line.ensures.line

pub returns-in-Some-clause-end : goal.returns-in-Some-clause-end
returns-in-Some-clause-end c = end_of_line c.args.text.now c.args.head.now c.in-Some.words.now c.behind_line.result c.in-Some.ensures c.behind_line.ensures.end

pub returns-in-Some-clause-rest : goal.returns-in-Some-clause-rest
returns-in-Some-clause-rest c words rest clean is =
    c.behind_line.ensures.rest words rest clean (line_rest c.args.text.now c.args.head.now words rest c.in-Some.words.now c.in-Some.ensures is)
