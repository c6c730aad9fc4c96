use Rattle.std.proofs.Common.{take, sym}
use Rattle.std.proofs.lemmas.List.{take_all}
use Rattle.std.proofs.lemmas.List.Elements.{All-more, All-same}
use Rattle.filter_zones.specs.declared.zone.ChunkZones.{ChunkZones}
use Rattle.filter_zones.specs.Possible.{FitsZones}
use Rattle.trial_table.proofs.zones.fits_chunks.Goals as goal

pub loop-chunk-preserved : goal.loop-chunk-preserved
loop-chunk-preserved c =
    All-more (λ (chunk : ChunkZones). FitsZones c.args.cond.now chunk.zones) c.args.chunks.now c.loop-chunk.chunk-index _ c.loop-chunk-test.true c.loop-chunk.invariant c.if-not-fits_chunk.ensures

pub returns : goal.returns
returns c =
    let chunks = c.args.chunks.now in
    All-same (λ (chunk : ChunkZones). FitsZones c.args.cond.now chunk.zones) chunks (take c.loop-chunk.chunk-index chunks) (sym (take_all c.loop-chunk.chunk-index chunks c.loop-chunk-test.false)) c.loop-chunk.invariant
