use Rattle.std.proofs.Common.{refl}
use Rattle.inspect_verdict.specs.Reading.{summary_head}
use Rattle.inspect_verdict.proofs.Traces.{summary_line, summary_rest}
use Rattle.inspect_verdict.proofs.output_reading.behind_summary.Goals as goal

pub returns-then-summary-clause-line : goal.returns-then-summary-clause-line
returns-then-summary-clause-line c = summary_line c.args.summary c.args.text.now summary_head c.behind_line_with.result c.if-summary.true refl c.behind_line_with.ensures.line

pub returns-then-summary-clause-rest : goal.returns-then-summary-clause-rest
returns-then-summary-clause-rest c = summary_rest c.args.summary c.args.text.now summary_head c.behind_line_with.result c.if-summary.true refl c.behind_line_with.ensures.rest
