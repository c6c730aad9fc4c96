use Rattle.std.specs.Prelude.{replicate}
use Rattle.table_sets.specs.Sets.{bit_of}
use Rattle.table_sets.specs.declared.limits.TheConstants.{MOST_CHUNKS}
use Rattle.table_sets.proofs.Members.{numbers-none, no_bits}
use Rattle.table_sets.proofs.chunk_set.ChunkSet.empty.Goals as goal

pub returns : goal.returns
returns c = numbers-none (bit_of (replicate 16 0)) MOST_CHUNKS (no_bits 16)
