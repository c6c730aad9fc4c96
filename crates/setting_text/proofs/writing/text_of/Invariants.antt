use Rattle.std.proofs.Common.{◌≡◌, take}
use Rattle.std.specs.String.{string_bytes}
use Rattle.setting_text.specs.Text.{setting_text}
use Rattle.setting_text.proofs.writing.text_of.Given as goal

abbrev pub invariant-loop-need : goal.invariant-loop-need
invariant-loop-need l = string_bytes l.text ≡ setting_text l.setting.head (take l.need-index l.setting.needs.items)
