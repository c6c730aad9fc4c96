use Rattle.inspect_places.proofs.QueryNames.{names_of_query}
use Rattle.inspect_places.proofs.query_names.names_of_a_query.Goals as goal

pub returns : goal.returns
returns c = names_of_query
