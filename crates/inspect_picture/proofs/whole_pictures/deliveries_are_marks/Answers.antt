use Rattle.inspect_picture.proofs.Begins.{deliveries_marked}
use Rattle.inspect_picture.proofs.whole_pictures.deliveries_are_marks.Goals as goal

pub returns : goal.returns
returns c groups entries = deliveries_marked groups 1 entries
