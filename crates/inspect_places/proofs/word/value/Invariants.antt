use Rattle.std.proofs.Common.{◌≡◌, ◌≤◌, ◌^◌, drop}
use Rattle.sql_text.specs.Words.{value_from, value_of}
use Rattle.inspect_places.proofs.word.value.Given as goal

abbrev pub invariant-loop-b : goal.invariant-loop-b
invariant-loop-b l = (value_from l.value (drop l.b-index l.digits) ≡ value_of l.digits) × (l.value ≤ 2 ^ 63)
