use Rattle.inspect_picture.proofs.Stays.{bars_are_stays, bars_last}
use Rattle.inspect_picture.proofs.whole_pictures.bars_are_stays.Goals as goal

pub returns-clause-stays : goal.returns-clause-stays
returns-clause-stays c = bars_are_stays

pub returns-clause-last : goal.returns-clause-last
returns-clause-last c groups entries = bars_last groups 1 entries
