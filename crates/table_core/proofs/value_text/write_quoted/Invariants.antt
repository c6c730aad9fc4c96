use Rattle.std.proofs.Common.{◌≡◌, ◌++◌, ◌∷◌, take}
use Rattle.std.specs.List.{flat_map}
use Rattle.table_core.specs.Value.{quoted_byte}
use Rattle.table_core.proofs.value_text.write_quoted.Given as goal

abbrev pub invariant-loop-byte : goal.invariant-loop-byte
invariant-loop-byte l = l.out ≡ l.fn.out ++ (39 ∷ flat_map quoted_byte (take l.byte-index l.text))
