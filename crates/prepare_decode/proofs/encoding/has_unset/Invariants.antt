use Rattle.std.proofs.Common.{◌≡◌, drop}
use Rattle.std.specs.List.{list_any}
use Rattle.prepare_decode.specs.Encodings.{is_unset}
use Rattle.prepare_decode.proofs.encoding.has_unset.Given as goal

abbrev pub invariant-loop-i : goal.invariant-loop-i
invariant-loop-i l = list_any is_unset l.text ≡ list_any is_unset (drop l.i l.text)
