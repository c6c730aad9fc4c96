use Rattle.std.proofs.Common.{◌≡◌, ◌++◌, map, drop, length}
use Rattle.table_pieces.proofs.shaping.lens_of.Given as goal

abbrev pub invariant-loop-dict : goal.invariant-loop-dict
invariant-loop-dict l = l.lens.items ++ map length (drop l.dict-index l.dicts) ≡ map length l.dicts
