use Rattle.prepare_look.proofs.AsMany.{have-their-lines}
use Rattle.prepare_look.proofs.laws.each_record_has_its_line.Goals as goal

pub returns : goal.returns
returns c = have-their-lines
