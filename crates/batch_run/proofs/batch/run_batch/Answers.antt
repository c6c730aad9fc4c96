use Rattle.std.proofs.Common.{◌≡◌, ◌∙◌, List, length, arith, ap, sym, subst}
use Rattle.std.specs.Prelude.{All, is_some}
use Rattle.std.specs.List.{AllZip}
use Rattle.std.proofs.lemmas.List.Elements.{All-from_recursion}
use Rattle.scan_story.specs.declared.entry.Entry.{Entry}
use Rattle.abm_policy.specs.Depots.{DepotView, depot_view}
use Rattle.piece_format.specs.Shape.{IsShape, TableShape, groups}
use Rattle.table_pieces.specs.Shaping.{shape_of}
use Rattle.table_pieces.specs.Zoning.{chunk_zones}
use Rattle.batch_plan.specs.Scans.{scans}
use Rattle.batch_plan.specs.Setting.{AreOptions, batch_setting}
use Rattle.batch_ends.specs.Noting.{HasRoomFor, IsOpened, NotesAll}
use Rattle.batch_ends.specs.Refusals.{IsRefusal}
use Rattle.batch_ends.specs.Story.{IsStoryOver, counts}
use Rattle.batch_ends.specs.Taken.{IsTakenBy, TookNeed}
use Rattle.batch_ends.specs.declared.taken.Taken.{Taken}
use Rattle.batch_run.proofs.Ending.{IsMade, IsPut, IsTold, all_needs, all_plans, is_setting, told}
use Rattle.batch_run.proofs.Held.{first_of, put_refused, rows_put}
use Rattle.batch_ends.proofs.Tables.{is_shape}
use Rattle.batch_run.proofs.batch.run_batch.Goals as goal
use Rattle.batch_run.proofs.batch.run_batch.Goals.{After-deref_mut, After-put_pieces, In-Ok-end, In-Ok-put_pieces}

-- the shape is that of the table
shape_is : (g : _) (c : After-put_pieces g) → c.in-Ok.setup.shape ≡ shape_of c.args.loaded.table c.args.loaded.dicts.items c.args.options.now.layout c.args.options.now.per
shape_is g c = c.in-Ok.ensures.shape ∙ ap (λ (d : List (List (List _))). shape_of c.args.loaded.table d c.args.options.now.layout c.args.options.now.per) c.deref.ensures.value

made : (g : _) (c : After-put_pieces g) → IsMade c.args.loaded.table c.args.loaded.dicts.items c.args.tasks.now c.args.options.now c.in-Ok.setup.shape c.in-Ok.setup.needs.items
made g c =
    let s = c.in-Ok.setup.shape in
    let table = c.args.loaded.table in
    let o = c.args.options.now in
    let is = shape_is g c in
    let Limits = λ (z : TableShape). AreOptions (groups z) o in
    let loaded = c.requires.loaded.1 in
    record {
      records = c.requires.loaded.0;
      loaded = loaded;
      plans = c.requires.plans;
      numbers = c.requires.numbers;
      few_scans = c.requires.scans;
      limits = subst IsShape (sym is) (is_shape c.requires.loaded.0 table c.args.loaded.dicts.items o.layout o.per loaded c.requires.some c.requires.short c.requires.few);
      options = subst Limits (sym is) c.requires.options;
      shape = is;
      table_of = c.in-Ok.ensures.table;
      needs_are = c.in-Ok.ensures.needs;
      setting = c.in-Ok.ensures.setting;
      room = c.in-Ok.ensures.room;
      outside = c.in-Ok.ensures.outside;
    }

-- the depot before, with the pieces in it, and at the end
abbrev first : (g : _) (c : After-put_pieces g) → DepotView
first g c = depot_view (g.D.Depot.held c.args.depot) (g.D.Depot.gets c.args.depot) (g.D.Depot.faults c.args.depot)

abbrev filled : (g : _) (c : After-put_pieces g) → DepotView
filled g c = depot_view (g.D.Depot.held c.put_pieces.new.depot) (g.D.Depot.gets c.put_pieces.new.depot) (g.D.Depot.faults c.put_pieces.new.depot)

abbrev last : (g : _) (c : In-Ok-end g) → DepotView
last g c = depot_view (g.D.Depot.held c.in-Ok-end.end.depot) (g.D.Depot.gets c.in-Ok-end.end.depot) (g.D.Depot.faults c.in-Ok-end.end.depot)

put : (g : _) (c : In-Ok-put_pieces g) → IsPut c.in-Ok.setup.shape c.args.loaded.table.rows (first g (goal.at-In-Ok-put_pieces g c).After-put_pieces) (filled g (goal.at-In-Ok-put_pieces g c).After-put_pieces)
put g c =
    let ok = c.in-Ok-put_pieces.ensures in
    record { stored = ok.stored; long = ok.len; words = ok.words; back = ok.back; sound = ok.sound; gets = c.put_pieces.ensures.gets; later = c.put_pieces.ensures.later }

pub returns-in-Err-put_pieces-clause-refused : goal.returns-in-Err-put_pieces-clause-refused
returns-in-Err-put_pieces-clause-refused g c =
    let b = (goal.at.returns-in-Err-put_pieces-clause-refused g c).After-put_pieces in
    let Refused = λ (s : TableShape). IsRefusal s c.args.loaded.table.rows (g.D.Depot.held c.args.depot) (g.D.Depot.held c.put_pieces.new.depot) (g.D.Depot.faults c.args.depot) (g.D.Depot.faults c.put_pieces.new.depot) c.in-Err-put_pieces.refusal in
    subst Refused (shape_is g b) (put_refused c.in-Ok.setup.shape c.args.loaded.table.rows _ _ _ _ c.in-Err-put_pieces.refusal c.in-Err-put_pieces.ensures.refused)

pub run_put-end-requires-clause-setting : goal.run_put-end-requires-clause-setting
run_put-end-requires-clause-setting g c κs within =
    let b = (goal.at.run_put-end-requires-clause-setting g c).After-put_pieces in
    is_setting c.args.loaded.table c.args.loaded.dicts.items c.args.tasks.now c.args.options.now c.in-Ok.setup.shape c.in-Ok.setup.needs.items (made g b) (g.P.Policy.name c.args.policy) (g.P.Policy.cursor c.args.policy)

pub run_put-end-requires-clause-table : goal.run_put-end-requires-clause-table
run_put-end-requires-clause-table g c κs within =
    let ok = c.in-Ok-put_pieces.ensures in
    rows_put c.in-Ok.setup.shape c.args.loaded.table.rows (g.D.Depot.held c.args.depot) (g.D.Depot.held c.put_pieces.new.depot) ok.stored ok.len ok.words ok.back ok.sound

pub run_put-end-requires-clause-needs : goal.run_put-end-requires-clause-needs
run_put-end-requires-clause-needs g c κs within =
    let b = (goal.at.run_put-end-requires-clause-needs g c).After-put_pieces in
    all_needs c.args.loaded.table c.args.loaded.dicts.items c.args.tasks.now c.args.options.now c.in-Ok.setup.shape c.in-Ok.setup.needs.items (made g b)

pub run_put-end-requires-clause-plans : goal.run_put-end-requires-clause-plans
run_put-end-requires-clause-plans g c κs within =
    let b = (goal.at.run_put-end-requires-clause-plans g c).After-put_pieces in
    all_plans c.args.loaded.table c.args.loaded.dicts.items c.args.tasks.now c.args.options.now c.in-Ok.setup.shape c.in-Ok.setup.needs.items (made g b)

-- what is told of the batch once its scans have run
abbrev Told : (g : _) (c : In-Ok-end g) → Type 0
Told g c =
    let b = goal.at-In-Ok-end g c in
    IsTold c.args.loaded.table c.args.loaded.dicts.items c.args.tasks.now c.args.options.now c.in-Ok.setup.shape c.in-Ok.setup.needs.items (made g b.After-put_pieces) (g.P.Policy.name c.args.policy) (g.P.Policy.cursor c.args.policy)
    (first g b.After-put_pieces) (filled g b.After-put_pieces) (last g c) c.in-Ok-end.end.story.items c.in-Ok-end.end.results.items (put g b.In-Ok-put_pieces) (record { whole = c.in-Ok-end.ensures.story; came = c.in-Ok-end.ensures.results; agrees = c.in-Ok-end.ensures.depot })

told_now : (g : _) (c : In-Ok-end g) → Told g c
told_now g c =
    let b = goal.at-In-Ok-end g c in
    told c.args.loaded.table c.args.loaded.dicts.items c.args.tasks.now c.args.options.now c.in-Ok.setup.shape c.in-Ok.setup.needs.items (made g b.After-put_pieces) (g.P.Policy.name c.args.policy) (g.P.Policy.cursor c.args.policy)
    (first g b.After-put_pieces) (filled g b.After-put_pieces) (last g c) c.in-Ok-end.end.story.items c.in-Ok-end.end.results.items (put g b.In-Ok-put_pieces) (record { whole = c.in-Ok-end.ensures.story; came = c.in-Ok-end.ensures.results; agrees = c.in-Ok-end.ensures.depot })

pub answer_all-requires-clause-joinable : goal.answer_all-requires-clause-joinable
answer_all-requires-clause-joinable g c = (told_now g (goal.at.answer_all-requires-clause-joinable g c).In-Ok-end).joinable

-- what is noted of before anything is
opened_now : (g : _) (c : After-deref_mut g) → AllZip (IsOpened c.args.options.now.parts) c.in-Ok.setup.needs.items c.deref_mut.result.now
opened_now g c = subst (λ (ts : List Taken). AllZip (IsOpened c.args.options.now.parts) c.in-Ok.setup.needs.items ts) (sym c.deref_mut.ensures.value) c.in-Ok.ensures.taken

pub note_all-requires : goal.note_all-requires
note_all-requires g c =
    let b = goal.at.note_all-requires g c in
    let Room = λ (story : List Entry). All (HasRoomFor c.args.options.now.parts story) c.deref_mut.result.now in
    subst Room (sym c.deref-2.ensures.value) ((told_now g b.In-Ok-end).room c.deref_mut.result.now (opened_now g b.After-deref_mut))

pub returns-clause-answers : goal.returns-clause-answers
returns-clause-answers g c =
    (told_now g (goal.at.returns-clause-answers g c).In-Ok-end).right c.answer_all.new.answers.items c.answer_all.ensures.answers.0 c.answer_all.ensures.count c.answer_all.ensures.answers.1

pub returns-clause-written : goal.returns-clause-written
returns-clause-written g c =
    (told_now g (goal.at.returns-clause-written g c).In-Ok-end).written c.answer_all.new.answers.items c.answer_all.ensures.answers.0 c.answer_all.ensures.count c.answer_all.ensures.answers.1

pub returns-clause-lost : goal.returns-clause-lost
returns-clause-lost g c =
    (told_now g (goal.at.returns-clause-lost g c).In-Ok-end).lost c.answer_all.new.answers.items c.answer_all.ensures.answers.0 c.answer_all.ensures.count c.answer_all.ensures.answers.1

pub returns-clause-story : goal.returns-clause-story
returns-clause-story g c =
    let b = goal.at.returns-clause-story g c in
    let Over = λ (s : TableShape). IsStoryOver (batch_setting s (chunk_zones s c.args.loaded.table.rows) c.args.tasks.now c.args.options.now (g.P.Policy.name c.args.policy) (g.P.Policy.cursor c.args.policy)) (is_some (g.D.Depot.held c.args.depot))
    (counts (g.D.Depot.gets c.args.depot) (g.D.Depot.faults c.args.depot)) (counts (g.D.Depot.gets c.in-Ok-end.end.depot) (g.D.Depot.faults c.in-Ok-end.end.depot)) c.in-Ok-end.end.story.items in
    subst Over (shape_is g b.After-put_pieces) (told_now g b.In-Ok-end).over

pub returns-clause-taken : goal.returns-clause-taken
returns-clause-taken g c =
    let b = goal.at.returns-clause-taken g c in
    let Noted = λ (story : List Entry). AllZip (NotesAll c.args.options.now.parts story) c.deref_mut.result.now c.note_all.new.taken in
    let noted = (told_now g b.In-Ok-end).taken c.deref_mut.result.now (opened_now g b.After-deref_mut) c.note_all.new.taken (subst Noted c.deref-2.ensures.value c.note_all.ensures) in
    let same = ap length c.deref_mut.ensures.value in
    let By = λ (ts : List Taken). AllZip (IsTakenBy c.in-Ok-end.end.story.items) (scans c.args.options.now.workers c.args.options.now.parts c.args.tasks.now) ts in
    subst By (sym (first_of c.in-Ok.setup.taken.len c.note_all.new.taken _ (omega (arith, same, c.note_all.auto.taken, c.in-Ok.setup.taken.ok.0)))) noted

pub returns-clause-took : goal.returns-clause-took
returns-clause-took g c =
    let b = goal.at.returns-clause-took g c in
    let Took = λ (s : TableShape). All (TookNeed (chunk_zones s c.args.loaded.table.rows) c.args.options.now.parts c.in-Ok-end.end.story.items) (scans c.args.options.now.workers c.args.options.now.parts c.args.tasks.now) in
    subst Took (shape_is g b.After-put_pieces) (All-from_recursion (TookNeed (chunk_zones c.in-Ok.setup.shape c.args.loaded.table.rows) c.args.options.now.parts c.in-Ok-end.end.story.items)
    (scans c.args.options.now.workers c.args.options.now.parts c.args.tasks.now) (told_now g b.In-Ok-end).took)
