use Rattle.inspect_notes.proofs.Demanded.{allows_parts, has_parts}
use Rattle.inspect_notes.proofs.part_demands.demanded_parts.Goals as goal

pub returns-clause-rows : goal.returns-clause-rows
returns-clause-rows c = has_parts

pub returns-clause-chunks : goal.returns-clause-chunks
returns-clause-chunks c = allows_parts
