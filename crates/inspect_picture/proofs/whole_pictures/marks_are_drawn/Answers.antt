use Rattle.inspect_picture.proofs.Drawn.{all_held, all_parted}
use Rattle.inspect_picture.proofs.whole_pictures.marks_are_drawn.Goals as goal

pub returns-clause-held : goal.returns-clause-held
returns-clause-held c = all_held

pub returns-clause-parted : goal.returns-clause-parted
returns-clause-parted c = all_parted
