use Rattle.inspect_picture.proofs.Short.{small}
use Rattle.inspect_picture.proofs.whole_pictures.pictures_are_small.Goals as goal

pub returns : goal.returns
returns c = small
