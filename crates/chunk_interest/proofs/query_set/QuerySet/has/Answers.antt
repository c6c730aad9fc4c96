use Rattle.std.proofs.Common.{refl}
use Rattle.std.proofs.lemmas.Nat.Bits.{shr_and_one}
use Rattle.std.proofs.lemmas.Bool.{lt-ltb, le-ltb}
use Rattle.table_sets.specs.Sets.{bit_of}
use Rattle.table_sets.proofs.Members.{has-numbers}
use Rattle.chunk_interest.proofs.query_set.QuerySet.has.Goals as goal

pub returns-then-q-lt320 : goal.returns-then-q-lt320
returns-then-q-lt320 c =
    rw (← c.self.view_is, has-numbers (bit_of c.self.inside.words) 320 c.args.q, lt-ltb c.args.q 320 c.if-q-lt320.true, shr_and_one) refl

pub returns-else-q-lt320 : goal.returns-else-q-lt320
returns-else-q-lt320 c =
    rw (← c.self.view_is, has-numbers (bit_of c.self.inside.words) 320 c.args.q, le-ltb c.args.q 320 c.if-q-lt320.false) refl
