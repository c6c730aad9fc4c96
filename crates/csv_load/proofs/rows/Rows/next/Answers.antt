use Rattle.std.proofs.Common.{◌∙◌, sym, List, ℕ, Some, Bor}
use Rattle.csv.specs.Records.{fields_of}
use Rattle.csv_load.proofs.Left.{took, ended}
use Rattle.csv_load.proofs.rows.Rows.next.Goals as goal

pub invariant_of-self : goal.invariant_of-self
invariant_of-self c going =
    let is = c.self.invariant going in
    let e = c.in-Ok-true.ensures in
    (took (λ (b : Bor (List ℕ)). Some b.now) c.self.inside.reader c.read_byte_record.new.self (fields_of c.read_byte_record.new.row) is
    (rw c.in-Ok-true.field-0-test at (e.reads is.untrimmed is.ready)) (e.ready is.untrimmed) e.flexible e.goes).0

pub returns-in-Ok-true-clause-found : goal.returns-in-Ok-true-clause-found
returns-in-Ok-true-clause-found c _ =
    let is = c.self.invariant c.if-self.false in
    let e = c.in-Ok-true.ensures in
    let one =
    (took (λ (b : Bor (List ℕ)). Some b.now) c.self.inside.reader c.read_byte_record.new.self (fields_of c.read_byte_record.new.row) is
    (rw c.in-Ok-true.field-0-test at (e.reads is.untrimmed is.ready)) (e.ready is.untrimmed) e.flexible e.goes).1 in
    sym c.self.view_is ∙ rw c.if-self.false one

pub returns-in-Ok-false-clause-ended : goal.returns-in-Ok-false-clause-ended
returns-in-Ok-false-clause-ended c _ =
    let is = c.self.invariant c.if-self.false in
    let e = c.in-Ok-false.ensures in
    let none = ended (λ (b : Bor (List ℕ)). Some b.now) c.self.inside.reader c.read_byte_record.new.self (fields_of c.read_byte_record.new.row) is
    (rw c.in-Ok-false.field-0-test at (e.reads is.untrimmed is.ready)) in
    sym c.self.view_is ∙ rw c.if-self.false none
