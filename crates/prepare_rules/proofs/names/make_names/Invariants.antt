use Rattle.std.proofs.Common.{◌≡◌, [], drop, take}
use Rattle.csv.specs.Records.{fields_of, partial_of}
use Rattle.prepare_rules.specs.Columns.{names_written}
use Rattle.prepare_rules.specs.Names.{names_refusal}
use Rattle.prepare_rules.proofs.names.make_names.Given as goal

abbrev pub invariant-loop-i : goal.invariant-loop-i
invariant-loop-i l = record {
  made : fields_of l.made ≡ names_written l.rules (fields_of l.names) (take l.i l.picks);
  clear : partial_of l.made ≡ [];
  rest : names_refusal (fields_of l.made) (names_written l.rules (fields_of l.names) (drop l.i l.picks))
      ≡ names_refusal [] (names_written l.rules (fields_of l.names) l.picks);
}
