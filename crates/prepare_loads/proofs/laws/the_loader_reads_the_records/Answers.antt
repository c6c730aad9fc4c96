use Rattle.prepare_loads.proofs.Loading.{reads-records}
use Rattle.prepare_loads.proofs.laws.the_loader_reads_the_records.Goals as goal

pub returns : goal.returns
returns c = reads-records
