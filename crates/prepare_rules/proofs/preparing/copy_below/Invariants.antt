use Rattle.std.proofs.Common.{◌+◌, ℕ, List, Option}
use Rattle.csv.specs.Writing.{text_written}
use Rattle.prepare_rules.specs.Outcome.{Becomes, IsWriting, below}
use Rattle.prepare_text.specs.Source.{left}
use Rattle.prepare_rules.specs.declared.report.Report.{Report}
use Rattle.prepare_rules.proofs.preparing.copy_below.Given as goal

abbrev pub invariant-loop-done : goal.invariant-loop-done
invariant-loop-done g l = record {
  writing : IsWriting l.writer;
  rest : (report : Report) (new : Option (List ℕ))
      → Becomes (below l.rules l.plan.names l.plan.picks.items (l.from.number + l.done) l.tally) (left g.R.Read.remaining l.reader) report (text_written g.W.Write.contents l.writer) new
      → Becomes (below l.rules l.plan.names l.plan.picks.items l.from.number l.from.tally) (left g.R.Read.remaining l.fn.reader) report (text_written g.W.Write.contents l.fn.writer) new;
}
