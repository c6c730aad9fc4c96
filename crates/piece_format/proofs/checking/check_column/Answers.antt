use Rattle.std.proofs.Common.{◌<◌, ℕ, get_or, rules}
use Rattle.piece_format.specs.Bytes.{word_of}
use Rattle.piece_format.proofs.Judging.{whole_nulls, word_of-small}
use Rattle.piece_format.proofs.checking.check_column.Goals as goal

pub check_words-requires-2-clause-before : goal.check_words-requires-2-clause-before
check_words-requires-2-clause-before c =
    let bytes = c.args.bytes.now in
    let small : (k : ℕ) → get_or bytes k 0 < 256 = search (rules, c.type_inv.bytes) in
    whole_nulls c.args.shape.now c.args.piece (word_of bytes) (word_of-small bytes small) c.requires.layout c.in_ok-check_words.ensures.ok
