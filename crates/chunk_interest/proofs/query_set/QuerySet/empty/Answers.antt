use Rattle.std.specs.Prelude.{replicate}
use Rattle.table_sets.specs.Sets.{bit_of}
use Rattle.table_sets.proofs.Members.{numbers-none, no_bits}
use Rattle.chunk_interest.proofs.query_set.QuerySet.empty.Goals as goal

pub returns : goal.returns
returns c = numbers-none (bit_of (replicate 5 0)) 320 (no_bits 5)
