use Rattle.std.proofs.Common.{◌+◌, ◌≤◌, ◌∙◌, ◌∷◌, List, ℕ, length, arith, sym, ap, refl}
use Rattle.std.proofs.lemmas.List.Elements.{All-rest}
use Rattle.csv.specs.Records.{fields_of}
use Rattle.csv_load.specs.Rows.{table_records}
use Rattle.csv_load.proofs.Left.{table-short}
use Rattle.csv_load.proofs.Judging.{first-counted, fits-row, next-judged, row-taken}
use Rattle.csv_load.proofs.Rowwise.{so_far-all, so_far-none, so_far-more, rest-none}
use Rattle.csv_load.proofs.records.read_rows.Goals as goal

pub judge_header-requires : goal.judge_header-requires
judge_header-requires c =
    let e = (rw c.if-not-branch.false at c.in_ok-next.ensures.found) refl in
    let t = c.args.text.now in
    record { small = omega (arith, fits-row (length t) (fields_of c.next.new.row) c.next.new.self (table_records t) c.requires.small (sym c.new-rows.ensures.all ∙ e) (table-short t)) }

pub judge_row-requires : goal.judge_row-requires
judge_row-requires c =
    let e = (rw c.if-branch.true at c.in_ok-next-2.ensures.found) refl in
    let t = c.args.text.now in
    record {
      small = omega (arith, fits-row (length t) (fields_of c.next-in-loop-read.new.row) c.next-in-loop-read.new.self c.loop-read.rows c.requires.small e c.loop-read.invariant.short);
      few = c.loop-read.invariant.within;
    }

pub loop-read-init : goal.loop-read-init
loop-read-init c =
    let e = (rw c.if-not-branch.false at c.in_ok-next.ensures.found) refl in
    let t = c.args.text.now in
    let all = sym c.new-rows.ensures.all ∙ e in
    record {
      wide = omega (arith, ap length c.in_ok-read.ensures.names, c.len-width.ensures);
      within = omega (arith, c.in_ok-read.ensures.rows);
      judged = first-counted (table_records t) c.next.new.self (fields_of c.next.new.row) c.len-width.result c.in_ok-read.read.rows all c.len-width.ensures
          (sym c.in_default.ensures.refusal) c.in_ok-read.ensures.rows;
      short = All-rest (λ (r : List (List ℕ)). length r ≤ length t + 1) (fields_of c.next.new.row) c.next.new.self (table_records t) all (table-short t);
      so_far = so_far-none (table_records t) c.in_ok-read.read.names.items c.in_ok-read.read.columns.items c.next.new.self (length (fields_of c.next.new.row)) c.in_ok-read.read.rows
          (all ∙ ap (λ (fields : List (List ℕ)). fields ∷ c.next.new.self) (sym c.in_ok-read.ensures.names)) (ap length (sym c.in_ok-read.ensures.names))
          c.in_ok-read.ensures.columns c.in_ok-read.ensures.rows;
    }

pub loop-read-preserved : goal.loop-read-preserved
loop-read-preserved c =
    let e = (rw c.if-branch.true at c.in_ok-next-2.ensures.found) refl in
    let t = c.args.text.now in
    let is = c.loop-read.invariant in
    let read = c.loop-read.read in
    let row = fields_of c.next-in-loop-read.new.row in
    let put = rw c.deref_mut.ensures.value at c.in_ok-put_row.ensures in
    let none = sym c.in_default-judge_row.ensures.refusal in
    let taken = row-taken row c.len-width.result read.rows none in
    record {
      wide = is.wide;
      within = omega (arith, is.within, taken.1);
      judged = is.judged ∙ next-judged c.loop-read.rows c.next-in-loop-read.new.self row c.len-width.result read.rows e none;
      short = All-rest (λ (r : List (List ℕ)). length r ≤ length t + 1) row c.next-in-loop-read.new.self c.loop-read.rows e is.short;
      so_far = rw (rest-none c.put_row.new.columns read.columns.items read.columns.len put.width (omega (arith, read.columns.ok.0)))
          (so_far-more (table_records t) read.names.items read.columns.items c.put_row.new.columns row c.loop-read.rows c.next-in-loop-read.new.self read.rows is.so_far e
          (omega (arith, taken.0, is.wide)) put);
    }

pub returns-clause-read : goal.returns-clause-read
returns-clause-read c =
    let read = c.loop-read.read in
    let is = c.loop-read.invariant in
    let none = (rw c.if-branch.false at c.in_ok-next-2.ensures.ended) refl in
    so_far-all (table_records c.args.text.now) read.names.items read.columns.items c.loop-read.rows read.rows is.so_far none
    (is.judged ∙ rw none refl) (omega (arith, is.wide, c.if-width-eq0.false)) is.within
