use Rattle.std.proofs.Common.{◌-◌, ◌*◌, length, drop, arith, ap, ◌∙◌, length-drop}
use Rattle.std.proofs.lemmas.List.{take_all}
use Rattle.byteorder.specs.Endian.{little_number}
use Rattle.piece_format.specs.Bytes.{word_of}
use Rattle.piece_format.proofs.word_bytes.word_at.Goals as goal

pub returns : goal.returns
unfolding word_of
returns c =
    let bytes = c.args.bytes.now in
    let at = 8 * c.args.i in
    c.read_u64.ensures ∙ ap (little_number 8) (take_all (length bytes - at) (drop at bytes) (omega (arith, length-drop at bytes)))
