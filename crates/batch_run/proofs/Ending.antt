-- A batch from its start to its end.
use Rattle.std.proofs.Common.{◌≡◌, ◌∙◌, ◌≤◌, ◌+◌, ◌*◌, ℕ, Bool, true, List, length, map, get_or, arith, refl, sym, ap, subst}
use Rattle.std.specs.Prelude.{All, None, Some, is_some}
use Rattle.std.specs.List.{AllByRecursion, AllZip, range_with_len}
use Rattle.std.proofs.lemmas.List.{length-map}
use Rattle.std.proofs.lemmas.List.Elements.{recursion_from_All}
use Rattle.std.proofs.lemmas.List.FromFn.{length-range_with_len}
use Rattle.coop_outside.specs.Pieces.{Stored}
use Rattle.table_core.specs.Fitting.{FitsRow}
use Rattle.table_sets.specs.Sets.{Rising}
use Rattle.table_core.specs.Table.{TableRows}
use Rattle.table_core.specs.declared.cell.Cell.{Cell}
use Rattle.csv_load.specs.Judged.{Fields}
use Rattle.csv_load.specs.Loaded.{IsLoaded}
use Rattle.filter_zones.specs.Possible.{needed}
use Rattle.filter_zones.specs.Truth as codes
use Rattle.filter_zones.specs.declared.cond.Cond.{Cond}
use Rattle.filter_zones.specs.declared.zone.ChunkZones.{ChunkZones}
use Rattle.scan_story.specs.declared.entry.Entry.{Entry}
use Rattle.scan_story.specs.declared.setting.PolicyName.{PolicyName}
use Rattle.scan_story.specs.declared.setting.Setting.{Setting}
use Rattle.scan_story.specs.Causes.{Licensed, cause_of}
use Rattle.scan_story.specs.Setting.{HasRoom, IsSetting}
use Rattle.scan_story.specs.Spent.{reads}
use Rattle.scan_story.specs.Views.{is_ended, past}
use Rattle.story_laws.proofs.Laws.{ended_are_not_stopped}
use Rattle.chunk_interest.specs.Fresh.{as_need}
use Rattle.chunk_interest.specs.declared.need.Need.{Need}
use Rattle.abm_policy.specs.Depots.{Agrees, DepotView}
use Rattle.abm_policy.specs.Sound.{setting_of, start_of}
use Rattle.piece_format.specs.Cells.{IsTableOf}
use Rattle.piece_format.specs.Shape.{IsShape, TableShape, chunks, groups, pieces}
use Rattle.sql_bind.specs.Reads.{ReadsItsColumns}
use Rattle.query_gather.specs.declared.answer.Answer.{Answer}
use Rattle.query_gather.specs.Answer.{CanBeWritten, IsAnswer, IsAnswerOver}
use Rattle.query_gather.proofs.Tabled.{answer_of_table}
use Rattle.query_meaning.specs.Rows.{Numbered}
use Rattle.table_pieces.specs.Putting.{AreLong, ArePut, AreSound, GiveBack, ReadBack}
use Rattle.table_pieces.specs.Shaping.{shape_of}
use Rattle.table_pieces.specs.Zoning.{NoMatchOutside, chunk_zones, zones_in}
use Rattle.batch_plan.specs.declared.options.Options.{Options}
use Rattle.batch_plan.specs.declared.task.Task.{Task}
use Rattle.batch_plan.specs.Scans.{Scan, needs, scans}
use Rattle.batch_plan.specs.Setting.{AreOptions, batch_setting}
use Rattle.batch_plan.proofs.Planned.{some_queries}
use Rattle.batch_ends.specs.Rows.{AreOfShape, FitsShape, IsPlanOfShape}
use Rattle.batch_ends.specs.Came.{CameOf, IsNeedOf}
use Rattle.batch_ends.specs.Whole.{IsWholeStory}
use Rattle.batch_ends.specs.Answering.{AnswersSome, AreAllJoinable, Came}
use Rattle.batch_ends.specs.Lost.{IsLostBy, Tells, stop_of}
use Rattle.batch_ends.specs.Noting.{HasRoomFor, IsOpened, NotesAll}
use Rattle.batch_run.specs.Picked.{content_of}
use Rattle.batch_ends.specs.Story.{IsStoryOver, counts}
use Rattle.batch_ends.specs.Taken.{IsTakenBy, TookNeed}
use Rattle.batch_ends.specs.Tasks.{IsPlanOfTable}
use Rattle.batch_ends.specs.declared.taken.Taken.{Taken}
use Rattle.batch_run.proofs.Batches.{IsTaskAnswered, all_answered, all_joinable, needs_of_scans}
use Rattle.batch_ends.proofs.Faultless.{licensed_sooner}
use Rattle.batch_run.proofs.Held.{table_put}
use Rattle.batch_run.proofs.Matched.{matching_all}
use Rattle.batch_ends.proofs.Noted.{IsOpenAs, all_taken, has_room, opened, scans_are, zip_since}
use Rattle.batch_run.proofs.Stories.{all_took, no_cause}
use Rattle.batch_ends.proofs.Tables.{dicts_rise, fits_columns, is_plan, rows_wide, where_fits}
use Rattle.batch_run.proofs.Written.{read_written}

-- the pieces of the table are put
pub record IsPut (s : TableShape) (rows : List (List Cell)) (old mid : DepotView) : Type 0 where
  pub stored : ArePut s rows (pieces s) (pieces s) old.held mid.held
  pub long : AreLong s rows (pieces s)
  pub words : ReadBack s rows (pieces s)
  pub back : GiveBack s rows (pieces s)
  pub sound : AreSound s rows (pieces s)
  pub gets : mid.gets ≡ old.gets
  pub later : old.faults ≤ mid.faults

module _ (table : TableRows) (dicts : List Fields) (tasks : List Task) (o : Options) (s : TableShape) (ns : List Need) where
  abbrev pub zones : List ChunkZones
  zones = chunk_zones s table.rows

  abbrev pub ks : List Scan
  ks = scans o.workers o.parts tasks

  -- what a batch is given, and what is made of it
  pub record IsMade : Type 0 where
    pub records : List Fields
    pub loaded : IsLoaded records table dicts
    pub plans : All (λ (t : Task). IsPlanOfTable table.columns dicts t.plan) tasks
    pub numbers : Rising 1 (map (λ (t : Task). t.query) tasks) 257
    pub few_scans : All (λ (t : Task). t.query * o.parts ≤ 256) tasks
    pub limits : IsShape s
    pub options : AreOptions (groups s) o
    pub shape : s ≡ shape_of table dicts o.layout o.per
    pub table_of : IsTableOf s table
    pub needs_are : ns ≡ needs zones o.parts ks
    pub setting : (name : PolicyName) (cursor : List ℕ) → IsSetting (batch_setting s zones tasks o name cursor)
    pub room : (name : PolicyName) (cursor : List ℕ) → HasRoom (batch_setting s zones tasks o name cursor)
    pub outside : (c : Cond) → All (codes.FitsRow c) table.rows → NoMatchOutside s table.rows c (needed (Some c) zones)

  module _ (made : IsMade) where
    pub plan_of : (t : Task) → IsPlanOfTable table.columns dicts t.plan → IsPlanOfShape s t.plan
    plan_of t plan = let Plan = λ (z : TableShape). IsPlanOfShape z t.plan in subst Plan (sym made.shape) (is_plan made.records table dicts o.layout o.per made.loaded t.plan plan)

    pub all_plans : All (λ (t : Task). IsPlanOfShape s t.plan) tasks
    all_plans k d low = plan_of (get_or tasks k d) (made.plans k d low)

    pub all_needs : AllZip IsNeedOf ks ns
    all_needs = let Of = λ (l : List Need). AllZip IsNeedOf ks l in subst Of (sym made.needs_are) (needs_of_scans zones o.parts ks)

    count_zones : length zones ≡ chunks s
    count_zones = length-map (range_with_len 0 (chunks s)) (zones_in s table.rows) ∙ length-range_with_len 0 (chunks s)

    some_rows : 1 ≤ s.per
    some_rows = made.limits.some_rows

    module _ (name : PolicyName) (cursor : List ℕ) where
      abbrev pub setting : Setting
      setting = setting_of ns (chunks s) o.workers o.frames (groups s) name cursor

      same_setting : setting ≡ batch_setting s zones tasks o name cursor
      same_setting = ap (λ (l : List Need). setting_of l (chunks s) o.workers o.frames (groups s) name cursor) made.needs_are

      pub is_setting : IsSetting setting
      is_setting = subst IsSetting (sym same_setting) (made.setting name cursor)

      pub has_room_for : HasRoom setting
      has_room_for = subst HasRoom (sym same_setting) (made.room name cursor)

      -- the scans have run over the depot into which the pieces were put
      pub record HaveRun (mid end : DepotView) (story : List Entry) (results : List Came) : Type 0 where
        pub whole : IsWholeStory setting story
        pub came : AllZip (CameOf (start_of setting mid) (content_of s mid.held) s story) ks results
        pub agrees : Agrees (start_of setting mid) (past story) end

      module _ (old mid end : DepotView) (story : List Entry) (results : List Came) (put : IsPut s table.rows old mid) (run : HaveRun mid end story results) where
        took_all : AllByRecursion (TookNeed zones o.parts story) ks
        took_all = all_took setting zones o.parts story is_setting run.whole.legal ks (ap (map as_need) made.needs_are)

        few_zones : length zones ≤ 1024
        few_zones = omega (arith, count_zones, made.limits.few_chunks)

        joinable_all : AreAllJoinable o.parts (length tasks) results
        joinable_all = all_joinable (start_of setting mid) (content_of s mid.held) s zones o.workers o.parts story some_rows made.options.parts.0 few_zones made.limits.few_rows 0 tasks results run.came took_all

        -- ---- what is noted

        module _ (before : List Taken) (open_ : AllZip (IsOpened o.parts) ns before) where
          opened_as : AllZip (IsOpenAs zones o.parts) ks before
          opened_as =
              let Of = λ (l : List Need). AllZip (IsOpened o.parts) l before in
              opened zones o.parts story ks before (scans_are o.workers o.parts tasks 0 (some_queries tasks 1 257 (omega arith) made.numbers) (recursion_from_All (λ (t : Task). t.query * o.parts ≤ 256) tasks made.few_scans)) (subst Of made.needs_are open_)

          room_for_all : All (HasRoomFor o.parts story) before
          room_for_all = has_room zones o.parts story ks before took_all opened_as

          taken_all : (after : List Taken) → AllZip (NotesAll o.parts story) before after → AllZip (IsTakenBy story) ks after
          taken_all after noted = all_taken zones o.parts story ks before after opened_as noted

        -- ---- the story

        story_over : IsStoryOver (batch_setting s zones tasks o name cursor) (is_some old.held) (counts old.gets old.faults) (counts end.gets end.faults) story
        story_over =
            let Whole = λ (z : Setting). IsWholeStory z story in
            let Told = λ (b : Bool). Licensed b old.faults end.faults (past story) in
            record {
              whole = subst Whole same_setting run.whole;
              licensed = subst Told (tell_alike old.held mid.held put.stored) (licensed_sooner (is_some mid.held) mid.faults old.faults end.faults (past story) put.later run.agrees.licensed);
              gets = run.agrees.gets ∙ ap (λ (n : ℕ). n + reads (past story)) put.gets;
            } where
              tell_alike : (one other : Stored) → ArePut s table.rows (pieces s) (pieces s) one other → is_some other ≡ is_some one
              tell_alike None None are = refl
              tell_alike None (Some new) are = absurd are
              tell_alike (Some held) None are = absurd are
              tell_alike (Some held) (Some new) are = refl

        -- ---- the answers

        none_stopped : (q : ℕ) → is_ended (past story) q ≡ true → cause_of (past story) q ≡ None
        none_stopped q ended = no_cause (past story) q (ended_are_not_stopped setting (past story) is_setting has_room_for run.whole.legal q ended)

        module _ (answers : List Answer) (left : List Came) (count : length answers ≡ length tasks) (answered : AnswersSome o.parts results answers left) where
          abbrev IsAnswered : Task → Answer → Type 0
          IsAnswered = IsTaskAnswered (start_of setting mid) (content_of s mid.held) s zones o.workers o.parts story some_rows made.options.parts.0 few_zones

          reads_all : AllByRecursion (λ (t : Task). ReadsItsColumns (length s.kinds) t.plan) tasks
          reads_all = recursion_from_All (λ (t : Task). ReadsItsColumns (length s.kinds) t.plan) tasks (λ k d low. (all_plans k d low).reads)

          each_answered : AllZip IsAnswered tasks answers
          each_answered = all_answered (start_of setting mid) (content_of s mid.held) s zones o.workers o.parts story some_rows made.options.parts.0 few_zones none_stopped 0 tasks results left answers count reads_all run.came took_all answered

          plans_each : AllByRecursion (λ (t : Task). IsPlanOfTable table.columns dicts t.plan) tasks
          plans_each = recursion_from_All (λ (t : Task). IsPlanOfTable table.columns dicts t.plan) tasks made.plans

          lost_all : AllZip (λ (t : Task) (a : Answer). IsLostBy (past story) o.parts t.query (stop_of a)) tasks answers
          lost_all = zip_since (λ (t : Task). IsPlanOfTable table.columns dicts t.plan) IsAnswered (λ (t : Task) (a : Answer). IsLostBy (past story) o.parts t.query (stop_of a)) tasks answers plans_each (λ t a plan is. is.lost) each_answered

          written_all : AllZip (λ (t : Task) (a : Answer). CanBeWritten dicts t.plan a) tasks answers
          written_all =
              let rises = dicts_rise made.records table dicts o.layout o.per made.loaded in
              let Fits = λ (z : TableShape). (row : List Cell) → FitsShape z row → FitsRow table.columns dicts row in
              let fits = subst Fits (sym made.shape) (fits_columns made.records table dicts o.layout o.per made.loaded) in
              zip_since (λ (t : Task). IsPlanOfTable table.columns dicts t.plan) IsAnswered (λ (t : Task) (a : Answer). CanBeWritten dicts t.plan a) tasks answers plans_each
              (λ t a plan is. read_written s table.columns dicts t.plan is.read.rows a made.loaded.dict_count rises fits is.read.answer is.read.shaped) each_answered

          answers_all : Tells old.held → AllZip (λ (t : Task) (a : Answer). IsAnswer t.plan table.rows a) tasks answers
          answers_all tells =
              let holds = table_put s table.rows old.held mid.held put.stored put.long put.words put.back put.sound tells in
              let of_shape : AreOfShape s table.rows = record { count = made.table_of.rows.count; width = rows_wide made.records table dicts o.layout o.per made.loaded s.kinds made.table_of.columns } in
              let Outside = λ (c : Cond). NoMatchOutside s table.rows c (needed (Some c) zones) in
              zip_since (λ (t : Task). IsPlanOfTable table.columns dicts t.plan) IsAnswered (λ (t : Task) (a : Answer). IsAnswer t.plan table.rows a) tasks answers plans_each
              (λ t a plan is.
              let Of = λ (ms : List (Numbered Cell)). IsAnswerOver t.plan ms a in
              let none = where_fits made.records table dicts o.layout o.per made.loaded Outside t.plan.cond plan.cond made.outside in
              answer_of_table t.plan table.rows a (subst Of (matching_all s table.rows zones made.table_of.rows.count count_zones t.plan some_rows none) (is.read.held table.rows of_shape holds)))
              each_answered

        -- WHAT IS TOLD of a batch that has run: its results can be joined, its story is whole, each scan took its need, and what is
        -- noted and answered then is so
        pub record IsTold : Type 0 where
          pub joinable : AreAllJoinable o.parts (length tasks) results
          pub over : IsStoryOver (batch_setting s zones tasks o name cursor) (is_some old.held) (counts old.gets old.faults) (counts end.gets end.faults) story
          pub took : AllByRecursion (TookNeed zones o.parts story) ks
          pub room : (before : List Taken) → AllZip (IsOpened o.parts) ns before → All (HasRoomFor o.parts story) before
          pub taken : (before : List Taken) → AllZip (IsOpened o.parts) ns before → (after : List Taken) → AllZip (NotesAll o.parts story) before after → AllZip (IsTakenBy story) ks after
          pub lost : (answers : List Answer) (left : List Came) → length answers ≡ length tasks → AnswersSome o.parts results answers left
              → AllZip (λ (t : Task) (a : Answer). IsLostBy (past story) o.parts t.query (stop_of a)) tasks answers
          pub written : (answers : List Answer) (left : List Came) → length answers ≡ length tasks → AnswersSome o.parts results answers left
              → AllZip (λ (t : Task) (a : Answer). CanBeWritten dicts t.plan a) tasks answers
          pub right : (answers : List Answer) (left : List Came) → length answers ≡ length tasks → AnswersSome o.parts results answers left → Tells old.held
              → AllZip (λ (t : Task) (a : Answer). IsAnswer t.plan table.rows a) tasks answers

        pub told : IsTold
        told = record {
          joinable = joinable_all;
          over = story_over;
          took = took_all;
          room = room_for_all;
          taken = taken_all;
          lost = lost_all;
          written = written_all;
          right = answers_all;
        }
