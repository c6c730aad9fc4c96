use Rattle.std.proofs.Common.{refl}
use Rattle.std.proofs.lemmas.Nat.Bits.{shr_and_one}
use Rattle.std.proofs.lemmas.Bool.{lt-ltb, le-ltb}
use Rattle.table_sets.specs.Sets.{bit_of}
use Rattle.table_sets.specs.declared.limits.TheConstants.{MOST_CHUNKS}
use Rattle.table_sets.proofs.Members.{has-numbers}
use Rattle.table_sets.proofs.chunk_set.ChunkSet.has.Goals as goal

pub returns-then-c-lt-MOST_CHUNKS : goal.returns-then-c-lt-MOST_CHUNKS
returns-then-c-lt-MOST_CHUNKS c =
    rw (← c.self.view_is, has-numbers (bit_of c.self.inside.words) MOST_CHUNKS c.args.c, lt-ltb c.args.c MOST_CHUNKS c.if-c-lt-MOST_CHUNKS.true, shr_and_one) refl

pub returns-else-c-lt-MOST_CHUNKS : goal.returns-else-c-lt-MOST_CHUNKS
returns-else-c-lt-MOST_CHUNKS c =
    rw (← c.self.view_is, has-numbers (bit_of c.self.inside.words) MOST_CHUNKS c.args.c, le-ltb c.args.c MOST_CHUNKS c.if-c-lt-MOST_CHUNKS.false) refl
