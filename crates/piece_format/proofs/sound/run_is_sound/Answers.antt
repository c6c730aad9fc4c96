use Rattle.std.proofs.Common.{◌+◌}
use Rattle.piece_format.specs.Bytes.{word_of}
use Rattle.piece_format.proofs.Lanes.{within_limit}
use Rattle.piece_format.proofs.sound.run_is_sound.Goals as goal

pub returns-then-none_above : goal.returns-then-none_above
returns-then-none_above c = λ is b low.
    within_limit (word_of c.args.bytes.now (c.args.from + b)) c.args.nulls b c.args.top (c.none_above.ensures c.if-none_above.true b low) (c.none_hidden.ensures is b low)
