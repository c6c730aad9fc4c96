use Rattle.inspect_story.proofs.Lines.{behind_more}
use Rattle.inspect_story.proofs.begun.behind_entries.Goals as goal

pub loop-line-preserved : goal.loop-line-preserved
loop-line-preserved c = behind_more c.args.text.now c.loop-line.rest.now c.behind_line-rest.result.now c.loop-line._line c.behind_line-rest.ensures c.loop-line.invariant
