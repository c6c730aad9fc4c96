use Rattle.std.proofs.Common.{◌≡◌, ◌+◌, [], drop, take}
use Rattle.csv.specs.Records.{fields_of, partial_of}
use Rattle.prepare_rules.specs.Made.{fields_made, fields_refusal, fields_told}
use Rattle.prepare_rules.proofs.row.make_fields.Given as goal

abbrev pub invariant-loop-i : goal.invariant-loop-i
invariant-loop-i l = record {
  made : fields_of l.room.made ≡ fields_made l.rules (take l.i l.picks) (fields_of l.row);
  clear : partial_of l.room.made ≡ [];
  told : fields_told l.rules l.line (drop l.i l.picks) (fields_of l.row) l.told ≡ fields_told l.rules l.line l.picks (fields_of l.row) l.fn.tally;
  rest : fields_refusal l.rules (l.i + 1) (drop l.i l.picks) (fields_of l.row) ≡ fields_refusal l.rules 1 l.picks (fields_of l.row);
}
