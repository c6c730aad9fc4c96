use Rattle.std.proofs.Common.{◌≡◌, [], drop}
use Rattle.csv.specs.Records.{fields_of, partial_of}
use Rattle.prepare_text.specs.Source.{Goes}
use Rattle.prepare_text.proofs.walker.Walker.walk.Given as goal

abbrev pub invariant-loop-i : goal.invariant-loop-i
invariant-loop-i l = record {
  marks : l.self.marks ≡ l.fn.self.marks;
  clear : partial_of l.row ≡ [];
  goes : Goes l.fn.self (fields_of l.fn.row) l.text l.self (fields_of l.row) (drop l.i l.text);
}
