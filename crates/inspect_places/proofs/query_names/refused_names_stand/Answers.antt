use Rattle.inspect_places.proofs.NamesStand.{names_stand}
use Rattle.inspect_places.proofs.query_names.refused_names_stand.Goals as goal

pub returns : goal.returns
returns c = names_stand
