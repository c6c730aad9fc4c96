use Rattle.std.proofs.Common.{◌≡◌, ◌++◌, ◌∷◌, take}
use Rattle.std.specs.Prelude.{flat_map}
use Rattle.sql_writing.specs.Writing.{doubled}
use Rattle.inspect_notes.proofs.profile_writing.write_name.Given as goal

abbrev pub invariant-loop-byte : goal.invariant-loop-byte
invariant-loop-byte l = l.out ≡ l.fn.out ++ (34 ∷ flat_map doubled (take l.byte-index l.name))
