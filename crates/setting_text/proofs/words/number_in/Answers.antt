use Rattle.std.proofs.Common.{◌≡◌, ap, arith, Some}
use Rattle.std.proofs.lemmas.Fmt.{parse-decimal}
use Rattle.setting_text.proofs.words.number_in.Goals as goal

pub returns-in-Ok : goal.returns-in-Ok
returns-in-Ok c = λ n lt is.
    let same = parse-decimal 32 n c.args.text.now c.parse.result lt (omega (arith, lt)) is c.parse.ensures.value.0 in
    let number : c.in-Ok.number ≡ n = cc in
    ap Some number

pub returns-in-Err : goal.returns-in-Err
returns-in-Err c = λ n lt is.
    let same = parse-decimal 32 n c.args.text.now c.parse.result lt (omega (arith, lt)) is c.parse.ensures.value.0 in
    absurd cc
