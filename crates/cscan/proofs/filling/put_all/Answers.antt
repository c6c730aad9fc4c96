use Rattle.std.proofs.Common.{◌<◌, length, sym, ap, subst, arith}
use Rattle.frame_pool.specs.Berths.{HasRoom}
use Rattle.piece_format.specs.Bytes.{word_of}
use Rattle.frame_rows.specs.Tables.{first_words}
use Rattle.frame_rows.proofs.Words.{length-first}
use Rattle.cscan.proofs.filling.put_all.Goals as goal

pub put-requires-clause-room : goal.put-requires-clause-room
put-requires-clause-room g c =
    let word = word_of c.args.bytes.now in
    let n : length (first_words word c.loop-i.i) < c.args.berth.now.shape.words = omega (arith, length-first word c.loop-i.i, c.requires.room, ap (λ z. z.words) c.requires.of.1, c.loop-i-test.true) in
    subst HasRoom (sym c.loop-i.invariant) n
