-- What a run is given: its plans, and its setting.
use Rattle.std.proofs.Common.{◌≡◌, ◌≤◌, ◌<◌, ◌+◌, ◌∷◌, [], ℕ, List, length, refl, sym, subst, arith}
use Rattle.std.specs.Prelude.{All, Option, Some, None, IfSome}
use Rattle.std.specs.List.{AllByRecursion, AllZip}
use Rattle.std.proofs.lemmas.List.{length-map}
use Rattle.std.proofs.lemmas.List.Elements.{All-filter}
use Rattle.table_core.specs.Fitting.{FitsRow}
use Rattle.table_core.specs.declared.cell.Cell.{Cell}
use Rattle.table_core.specs.declared.schema.Column.{Column}
use Rattle.csv_load.specs.Judged.{Fields}
use Rattle.filter_zones.specs.Truth as codes
use Rattle.filter_zones.specs.declared.cond.Cond.{Cond}
use Rattle.piece_format.specs.Shape.{IsShape, groups}
use Rattle.sql_bind.specs.Meaning.{matches, numbered}
use Rattle.sql_bind.specs.declared.plan.Plan.{Plan}
use Rattle.query_gather.specs.Answer.{CanBeWritten}
use Rattle.query_gather.specs.Partial.{FitsCond, matching}
use Rattle.query_gather.specs.declared.answer.Answer.{Answer}
use Rattle.query_gather.proofs.Tabled.{unnumbered_matching}
use Rattle.query_gather.proofs.Written.{can_be_written}
use Rattle.table_pieces.specs.Shaping.{FitsDicts}
use Rattle.batch_plan.specs.Setting.{AreOptions, NamesColumns}
use Rattle.batch_plan.specs.declared.task.Task.{Task}
use Rattle.batch_ends.specs.Tasks.{FitsWhere, IsPlanOfTable}
use Rattle.batch_ends.proofs.Plans.{plan_fits}
use Rattle.batch_ends.proofs.Tables.{dicts_rise, fits_dicts, is_shape, where_fits}
use Rattle.run_output.specs.Answers as printing
use Rattle.run_stops.specs.Outcomes.{plans_of}
use Rattle.run_stops.specs.declared.outcome.Outcome.{Outcome}
use Rattle.run_stops.specs.declared.outcome.Outcome.TheVariants as outcome
use Rattle.run_output.proofs.Columns.{names_columns}
use Rattle.run_inputs.specs.declared.inputs.Inputs.{Inputs}
use Rattle.run_ends.specs.Running.{CanRun, shape_in}
use Rattle.run_ends.specs.Tasks.{tasks_in}
use Rattle.run_ends.proofs.GivenTexts.{plans-of-table}
use Rattle.run_ends.proofs.Tasked.{each-task}
use Rattle.inspect_verdict.specs.Plain.{ArePlain, IsPlain}

pub cond_fits : (o : Option Cond) (columns : List Column) (dicts : List Fields) (row : List Cell) → FitsWhere columns dicts o → FitsRow columns dicts row → FitsCond o row
cond_fits None columns dicts row fits is = tt
cond_fits (Some c) columns dicts row fits is = fits row is

each : (P Q : Plan → Type 0) → ((p : Plan) → P p → Q p) → (ps : List Plan) → AllByRecursion P ps → AllByRecursion Q ps
each P Q f [] all = tt
each P Q f (p ∷ ps) all = (f p all.0, each P Q f ps all.1)

module _ (i : Inputs) (can : CanRun i) where
  pub plans_are : AllByRecursion (IsPlanOfTable i.loaded.table.columns i.loaded.dicts.items) (plans_of i.outcomes.items)
  plans_are = plans-of-table i.loaded.table.columns i.loaded.dicts.items can.statements.0 i.outcomes.items plan_fits can.statements.1

  pub names_are : AllByRecursion (printing.NamesColumns (length i.loaded.table.columns)) (plans_of i.outcomes.items)
  names_are = names_columns i.loaded.table.columns i.loaded.dicts.items can.statements.0 i.outcomes.items can.statements.1

  pub shape_is : IsShape (shape_in i)
  shape_is = is_shape can.loaded.0 i.loaded.table i.loaded.dicts.items i.options.layout i.options.per can.loaded.1 can.some can.short can.chunks

  pub dicts_fit : FitsDicts i.loaded.table i.loaded.dicts.items
  dicts_fit = fits_dicts can.loaded.0 i.loaded.table i.loaded.dicts.items i.options.layout i.options.per can.loaded.1

  pub options_are : AreOptions (groups (shape_in i)) i.options
  options_are = record { workers = can.workers; parts = can.parts; room = can.room; frames = can.frames }

  names_shape : (p : Plan) → IsPlanOfTable i.loaded.table.columns i.loaded.dicts.items p → NamesColumns (length (shape_in i).kinds) p
  names_shape p plan =
      let wide : length (shape_in i).kinds ≡ length i.loaded.table.columns = length-map i.loaded.table.columns (λ (c : Column). c.kind) in
      let Within = λ (n : ℕ). All (λ (x : ℕ). x < n) p.columns in
      record { some = plan.some; within = subst Within (sym wide) (plan.reads.columns_in can.loaded.1.some_columns) }

  pub columns_are : All (λ (t : Task). NamesColumns (length (shape_in i).kinds) t.plan) (tasks_in 1 i.outcomes.items)
  columns_are = each-task (NamesColumns (length (shape_in i).kinds)) 1 i.outcomes.items
      (each (IsPlanOfTable i.loaded.table.columns i.loaded.dicts.items) (NamesColumns (length (shape_in i).kinds)) names_shape (plans_of i.outcomes.items) plans_are)

  abbrev FitsTable : Plan → Type 0
  FitsTable p = IfSome p.cond (λ c. All (codes.FitsRow c) i.loaded.table.rows)

  fits_table : (p : Plan) → IsPlanOfTable i.loaded.table.columns i.loaded.dicts.items p → FitsTable p
  fits_table p plan = where_fits can.loaded.0 i.loaded.table i.loaded.dicts.items i.options.layout i.options.per can.loaded.1 (λ c. All (codes.FitsRow c) i.loaded.table.rows) p.cond plan.cond (λ c fits. fits)

  pub conditions_are : All (λ (t : Task). IfSome t.plan.cond (λ c. All (codes.FitsRow c) i.loaded.table.rows)) (tasks_in 1 i.outcomes.items)
  conditions_are = each-task FitsTable 1 i.outcomes.items (each (IsPlanOfTable i.loaded.table.columns i.loaded.dicts.items) FitsTable fits_table (plans_of i.outcomes.items) plans_are)

  -- what is answered plainly can be written
  one_written : (p : Plan) (a : Answer) → IsPlain i.loaded.table.rows p a → CanBeWritten i.loaded.dicts.items p a
  one_written p a plain =
      let rows = i.loaded.table.rows in
      let Fit = λ (xs : List (List Cell)). All (FitsRow i.loaded.table.columns i.loaded.dicts.items) xs in
      can_be_written i.loaded.table.columns i.loaded.dicts.items p (matching p (numbered 0 rows)) a can.loaded.1.dict_count
      (dicts_rise can.loaded.0 i.loaded.table i.loaded.dicts.items i.options.layout i.options.per can.loaded.1)
      (subst Fit (sym (unnumbered_matching p 0 rows)) (All-filter (matches p.cond) (FitsRow i.loaded.table.columns i.loaded.dicts.items) rows can.loaded.1.fits)) plain.over

  pub written : (ps : List Plan) (gs : List Answer) → ArePlain i.loaded.table.rows ps gs → AllZip (CanBeWritten i.loaded.dicts.items) ps gs
  written [] [] are = tt
  written [] (a ∷ gs) are = absurd are
  written (p ∷ ps) [] are = absurd are
  written (p ∷ ps) (a ∷ gs) are = (one_written p a are.0, written ps gs are.1)

pub tasks_some : (n : ℕ) (os : List Outcome) → 1 ≤ n → AllByRecursion (λ (t : Task). 1 ≤ t.query) (tasks_in n os)
tasks_some n [] some = tt
tasks_some n (outcome.Planned p ∷ os) some = (some, tasks_some (n + 1) os (omega arith))
tasks_some n (outcome.Refused why ∷ os) some = tasks_some (n + 1) os (omega arith)

pub tasks_count : (n : ℕ) (os : List Outcome) → length (tasks_in n os) ≡ length (plans_of os)
tasks_count n [] = refl
tasks_count n (outcome.Planned p ∷ os) = let k = tasks_count (n + 1) os in omega (arith, k)
tasks_count n (outcome.Refused why ∷ os) = tasks_count (n + 1) os
