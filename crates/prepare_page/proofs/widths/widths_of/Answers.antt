use Rattle.std.proofs.Common.{refl, arith}
use Rattle.csv.specs.Records.{fields_of}
use Rattle.prepare_look.specs.Rows.{rows_of}
use Rattle.prepare_page.proofs.Adding.{adds-first, adds-last, adds-next, few-first, few-next, wider}
use Rattle.prepare_page.proofs.widths.widths_of.Goals as goal

pub loop-done-init : goal.loop-done-init
loop-done-init c = record {
  low = omega (arith, c.in_ok-widths.ensures.records);
  few = few-first _ c.in_ok-widths.ensures;
  adds = rw c.new-rows.ensures.all (adds-first (rows_of c.args.marks c.args.text.now) _ c.in_ok-widths.ensures);
}

pub returns-in-None : goal.returns-in-None
returns-in-None c =
    let ended = (rw c.in-None.is at c.in_ok-_line.ensures.ended) refl in
    adds-last (rows_of c.args.marks c.args.text.now) c.loop-done.widths (rw ended at c.loop-done.invariant.adds)

pub loop-done-preserved : goal.loop-done-preserved
loop-done-preserved c =
    let found = c.in_ok-_line.ensures.found c.in-Some._line (rw c.in-Some.is refl) in
    let added = wider c.loop-done.widths c.add.new.self (record { line = c.in-Some._line; fields = fields_of c.next.new.row }) c.add.ensures.there c.add.ensures.records c.add.ensures.counts in
    record {
      low = omega (arith, added.records, c.loop-done.invariant.low);
      few = few-next c.loop-done.widths c.add.new.self (record { line = c.in-Some._line; fields = fields_of c.next.new.row }) c.loop-done.invariant.few added;
      adds = adds-next (rows_of c.args.marks c.args.text.now) c.next.new.self (record { line = c.in-Some._line; fields = fields_of c.next.new.row })
          c.loop-done.widths c.add.new.self (rw found at c.loop-done.invariant.adds) added;
    }
