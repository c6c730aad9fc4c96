use Rattle.std.proofs.Common.{sym}
use Rattle.csv.specs.Records.{fields_of}
use Rattle.csv.proofs.RecordFacts.{field-get, field-there}
use Rattle.csv_load.proofs.fields.field.Goals as goal

pub unreachable-requires : goal.unreachable-requires
unreachable-requires c = field-there (fields_of c.args.row.now) c.args.place c.requires.there (sym c.in-None.ensures.value)

pub returns : goal.returns
returns c = record { bytes = sym (field-get (fields_of c.args.row.now) c.args.place c.in-Some.field.now (sym c.in-Some.ensures.value)) }
