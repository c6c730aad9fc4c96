use Rattle.std.proofs.Common.{◌∙◌, sym}
use Rattle.prepare_words.proofs.Digits.{read, unread}
use Rattle.prepare_words.proofs.numbers.number_of.Goals as goal

pub returns-in-Ok : goal.returns-in-Ok
returns-in-Ok c = read c.args.text.now c.in-Ok.number (sym c.begins_with_digit.ensures ∙ c.if-not-begins_with_digit.false) c.in-Ok.ensures.value.0

pub returns-in-Err : goal.returns-in-Err
returns-in-Err c = unread c.args.text.now (sym c.begins_with_digit.ensures ∙ c.if-not-begins_with_digit.false) c.in-Err.ensures.value.0
