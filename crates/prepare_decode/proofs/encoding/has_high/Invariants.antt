use Rattle.std.proofs.Common.{◌≡◌, drop}
use Rattle.std.specs.List.{list_any}
use Rattle.prepare_decode.specs.Encodings.{is_high}
use Rattle.prepare_decode.proofs.encoding.has_high.Given as goal

abbrev pub invariant-loop-i : goal.invariant-loop-i
invariant-loop-i l = list_any is_high l.text ≡ list_any is_high (drop l.i l.text)
