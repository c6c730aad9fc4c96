use Rattle.std.proofs.Common.{◌-◌, ◌*◌, ◌∙◌, length, drop, length-drop, arith, ap}
use Rattle.std.proofs.lemmas.List.{take_all}
use Rattle.piece_format.specs.Bytes.{word_of}
use Rattle.piece_format.proofs.Lanes.{word_of-drop}
use Rattle.piece_format.proofs.fours.from_word.Goals as goal

pub returns-clause-words : goal.returns-clause-words
returns-clause-words c = λ i.
    let bytes = c.args.bytes.now in
    let at = 8 * c.args.from in
    ap (λ b. word_of b i) (take_all (length bytes - at) (drop at bytes) (omega (arith, length-drop at bytes))) ∙ word_of-drop bytes c.args.from i
