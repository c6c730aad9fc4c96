use Rattle.inspect_verdict.proofs.SizedRows.{whole_read_little}
use Rattle.inspect_verdict.proofs.fewest_reads.whole_stories_read_little.Goals as goal

pub returns : goal.returns
returns c = whole_read_little
