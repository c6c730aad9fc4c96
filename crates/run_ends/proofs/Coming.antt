-- What a batch comes to, from the contract of `run_batch`.
use Rattle.std.proofs.Common.{◌≡◌, ◌<◌, ℕ, List, length, map, All, Option, Result, Ok, Err, refl, arith, inl, inr}
use Rattle.std.specs.Prelude.{IfErr, IfOk, is_some}
use Rattle.std.specs.List.{AllZip}
use Rattle.csv_load.specs.Judged.{Fields}
use Rattle.query_gather.specs.Answer.{IsAnswer}
use Rattle.query_gather.specs.declared.answer.Answer.{Answer}
use Rattle.run_stops.specs.declared.stop.Stop.{Stop}
use Rattle.run_stops.specs.declared.stop.Stop.TheVariants as stop
use Rattle.scan_story.specs.declared.entry.Entry.{Entry}
use Rattle.table_core.specs.Fitting.{FitsRow}
use Rattle.table_core.specs.Value.{row_values}
use Rattle.table_core.specs.declared.cell.Cell.{Cell}
use Rattle.table_core.specs.declared.schema.Column.{Column}
use Rattle.piece_format.specs.Shape.{pieces}
use Rattle.table_pieces.specs.Putting.{ArePut}
use Rattle.table_pieces.proofs.Zoned.{count_zones}
use Rattle.run_inputs.specs.declared.inputs.Inputs.{Inputs}
use Rattle.batch_ends.specs.Lost.{Tells}
use Rattle.batch_ends.specs.Registering.{RegistersInOrder}
use Rattle.batch_ends.specs.Story.{IsStoryOver, counts}
use Rattle.batch_ends.specs.Taken.{IsTakenBy, TookNeed}
use Rattle.run_output.specs.Answers.{printed}
use Rattle.run_stops.specs.Outcomes.{ComeTo, plans_of}
use Rattle.run_output.specs.Outcomes.{losses}
use Rattle.run_output.specs.Output.{IsOutput}
use Rattle.run_output.specs.Printed.{output, status}
use Rattle.run_stops.specs.declared.outcome.Outcome.{Outcome}
use Rattle.run_output.specs.declared.totals.Totals.{Totals}
use Rattle.run_ends.specs.Answering.{IsUnanswered}
use Rattle.run_ends.specs.Deciding.{ComesOf, shown}
use Rattle.run_ends.specs.declared.output.Output.{Output}
use Rattle.run_ends.specs.Tasks.{totals_of, trace_of}
use Rattle.run_ends.specs.Running.{AreAnswers, CanRun, IsWorked, queries_in, scans_in, setting_in, shape_in, zones_in}
use Rattle.run_ends.specs.Work.{Work}
use Rattle.run_ends.proofs.Dealt.{each_once}

-- ---- what the workers did

pub is-worked : (i : Inputs) (w : Work) → CanRun i → IsStoryOver (setting_in i w.policy w.cursor) (is_some w.old.held) (counts w.old.gets w.old.faults) (counts w.new.gets w.new.faults) w.story
    → AllZip (IsTakenBy w.story) (scans_in i) w.taken → All (TookNeed (zones_in i) i.options.parts w.story) (scans_in i)
    → ((n : ℕ) → n < i.options.workers → RegistersInOrder w.story (scans_in i) n) → ArePut (shape_in i) i.loaded.table.rows (pieces (shape_in i)) (pieces (shape_in i)) w.old.held w.new.held → IsWorked i w
is-worked i w can story taken took registers stored = record {
  room = can.room;
  story = story;
  taken = taken;
  took = took;
  once = each_once (zones_in i) i.options.workers i.options.parts w.story (let z = count_zones (shape_in i) i.loaded.table.rows in omega (arith, z, can.chunks)) (omega (arith, can.parts.0)) (queries_in i) story.whole.whole.finished took;
  registers = registers;
  stored = stored;
}

-- ---- what a batch comes to

-- without answers
pub unanswered-comes : (i : Inputs) (w : Work) (s : Stop) → IsUnanswered i w s → ComesOf i w (Err s)
unanswered-comes i w s (inl memory) = inl (record { stop_is = memory.0; when = inl memory.1 })
unanswered-comes i w s (inr stored) = inr stored

abbrev pub MeansOf : List Column → List Fields → List Outcome → List Answer → Option Totals → Option (List Entry) → Output → Type 0
MeansOf columns dicts os answers totals story o = (texts : List (List ℕ)) (table : List (List Cell)) → ComeTo columns dicts texts os → AllZip (λ p a. IsAnswer p table a) (plans_of os) answers
    → All (FitsRow columns dicts) table → IsOutput columns (map (row_values dicts) table) texts (losses os answers) totals story o.status o.text

pub comes-of : (i : Inputs) (w : Work) (answers : List Answer) (ending : Result Output Stop) (columns : List Column) (dicts : List Fields) (os : List Outcome) (given : List Answer) (totals : Option Totals) (story : Option (List Entry))
    → columns ≡ i.loaded.table.columns → dicts ≡ i.loaded.dicts.items → os ≡ i.outcomes.items → given ≡ answers → totals ≡ totals_of i.summary w.story (length i.loaded.table.rows) → story ≡ trace_of i.trace w.story
    → AreAnswers i w answers → (Tells w.old.held → AllZip (λ p a. IsAnswer p i.loaded.table.rows a) (plans_of i.outcomes.items) answers) → All (FitsRow i.loaded.table.columns i.loaded.dicts.items) i.loaded.table.rows
    → IfOk ending (λ o. o.status ≡ status (printed columns dicts 1 os given)) → IfOk ending (λ o. o.text ≡ output (printed columns dicts 1 os given) totals story)
    → IfOk ending (MeansOf columns dicts os given totals story) → IfErr ending (λ s. s ≡ stop.Memory) → ComesOf i w (shown ending)
comes-of i w answers (Ok o) columns dicts os given totals story ec ed eo eg et es are right fits status_is text_is means err = record {
  answers = answers;
  are = are;
  prints = rw (← ec, ← ed, ← eo, ← eg, ← et, ← es, status_is, text_is) refl;
  means = λ tells texts come.
      let m : MeansOf i.loaded.table.columns i.loaded.dicts.items i.outcomes.items answers (totals_of i.summary w.story (length i.loaded.table.rows)) (trace_of i.trace w.story) o = rw (ec, ed, eo, eg, et, es) at means in
      m texts i.loaded.table.rows come (right tells) fits;
}
comes-of i w answers (Err s) columns dicts os given totals story ec ed eo eg et es are right fits status_is text_is means err = inl (record { stop_is = err; when = inr are.worked })
