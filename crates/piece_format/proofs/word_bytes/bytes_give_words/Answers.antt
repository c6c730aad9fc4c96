use Rattle.std.proofs.Common.{◌^◌, ◌<◌, get_or, rules}
use Rattle.piece_format.proofs.Bytes.{word_back}
use Rattle.piece_format.proofs.word_bytes.bytes_give_words.Goals as goal

pub returns : goal.returns
returns c = λ i low.
    let words = c.args.words.now in
    let small : get_or words i 0 < 2 ^ 64 = search (rules, c.type_inv.words) in
    word_back words i low small
