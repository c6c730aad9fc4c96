use Rattle.std.proofs.Common.{take}
use Rattle.std.specs.Prelude.{All}
use Rattle.filter_zones.specs.Possible.{FitsZones}
use Rattle.trial_table.proofs.zones.fits_chunks.Given as goal

abbrev pub invariant-loop-chunk : goal.invariant-loop-chunk
invariant-loop-chunk l = All (λ chunk. FitsZones l.cond chunk.zones) (take l.chunk-index l.chunks)
