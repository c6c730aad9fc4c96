use Rattle.std.proofs.Common.{◌≡◌, drop, string_bytes}
use Rattle.prepare_decode.specs.Decoding.{characters, single}
use Rattle.prepare_decode.proofs.Going.{joined}
use Rattle.prepare_decode.proofs.single.single_text.Given as goal

abbrev pub invariant-loop-i : goal.invariant-loop-i
invariant-loop-i l = joined (string_bytes l.text) (single (characters l.page) l.i (drop l.i l.bytes)) ≡ single (characters l.page) 0 l.bytes
