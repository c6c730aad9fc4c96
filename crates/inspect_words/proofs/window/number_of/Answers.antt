use Rattle.std.proofs.Common.{◌∙◌}
use Rattle.inspect_words.proofs.Numbers.{read, unread}
use Rattle.inspect_words.proofs.window.number_of.Goals as goal

pub returns-in-Ok : goal.returns-in-Ok
returns-in-Ok c = c.counted.ensures ∙ read c.args.text.now c.in-Ok.number c.in-Ok.ensures.value.0

pub returns-in-Err : goal.returns-in-Err
returns-in-Err c = unread c.args.text.now c.in-Err.ensures.value.0
