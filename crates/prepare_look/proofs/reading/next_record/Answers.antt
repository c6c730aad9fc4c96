use Rattle.csv.specs.Records.{fields_of}
use Rattle.prepare_look.proofs.Left.{took, ended}
use Rattle.prepare_look.specs.Records.{records_left}
use Rattle.prepare_look.proofs.Knowing.{over-known, takes-known}
use Rattle.prepare_look.specs.Reading.{bytes_of}
use Rattle.prepare_look.proofs.reading.next_record.Goals as goal

pub returns-in-Ok-true-clause-reads : goal.returns-in-Ok-true-clause-reads
returns-in-Ok-true-clause-reads c _ =
    let is = c.requires.takes in
    let e = c.in-Ok-true.ensures in
    let t = took bytes_of c.args.reader.now c.read_byte_record.new.self (fields_of c.read_byte_record.new.row) is
    (rw c.in-Ok-true.field-0-test at (e.reads is.untrimmed is.ready)) (e.ready is.untrimmed) e.flexible e.goes in
    record {
      takes = t.0;
      known = (takes-known (records_left bytes_of c.args.reader.now) (records_left bytes_of c.read_byte_record.new.self)
          (fields_of c.read_byte_record.new.row) c.requires.known t.1).0;
    }

pub returns-in-Ok-true-clause-found : goal.returns-in-Ok-true-clause-found
returns-in-Ok-true-clause-found c _ =
    let is = c.requires.takes in
    let e = c.in-Ok-true.ensures in
    let t = took bytes_of c.args.reader.now c.read_byte_record.new.self (fields_of c.read_byte_record.new.row) is
    (rw c.in-Ok-true.field-0-test at (e.reads is.untrimmed is.ready)) (e.ready is.untrimmed) e.flexible e.goes in
    (takes-known (records_left bytes_of c.args.reader.now) (records_left bytes_of c.read_byte_record.new.self)
    (fields_of c.read_byte_record.new.row) c.requires.known t.1).1

pub returns-in-Ok-false-clause-ended : goal.returns-in-Ok-false-clause-ended
returns-in-Ok-false-clause-ended c _ =
    let is = c.requires.takes in
    let e = c.in-Ok-false.ensures in
    over-known (records_left bytes_of c.args.reader.now) c.requires.known
    (ended bytes_of c.args.reader.now c.read_byte_record.new.self (fields_of c.read_byte_record.new.row)
    (rw c.in-Ok-false.field-0-test at (e.reads is.untrimmed is.ready)))
