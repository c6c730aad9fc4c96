use Rattle.std.proofs.Common.{◌∙◌}
use Rattle.coop_outside.proofs.Kept.{lookup-bytes}
use Rattle.coop_outside.proofs.mem_depot.MemDepot.bytes_of.Goals as goal

pub returns : goal.returns
returns c = record { bytes = c.get.ensures.value ∙ lookup-bytes c.args.self.now.pieces.entries c.args.piece }
