use Rattle.std.proofs.Common.{◌≡◌}
use Rattle.piece_format.specs.Bytes.{word_of}
use Rattle.cscan.specs.Reads.{with_words}
use Rattle.frame_rows.specs.Tables.{first_words}
use Rattle.cscan.proofs.filling.put_all.Given as goal

abbrev pub invariant-loop-i : goal.invariant-loop-i
invariant-loop-i g l = l.berth ≡ with_words l.fn.berth l.frame (first_words (word_of l.bytes) l.i)
