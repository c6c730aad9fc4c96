-- The verdict: what each stage says of a run that is told.
use Rattle.std.proofs.Common.{◌≡◌, ◌≢◌, ◌∙◌, ◌<◌, ◌≤◌, ◌+◌, ◌^◌, ◌∷◌, [], ℕ, Bool, List, length, take, drop, get_or, refl, sym, ap, subst, arith}
use Rattle.std.specs.Prelude.{Option, Result, Ok, Err, IsTrue, true, false, map}
use Rattle.std.specs.List.{AllByRecursion, AllZip}
use Rattle.std.proofs.lemmas.List.{get_or-take, length-take-le, take-append-drop, take-take}
use Rattle.scan_story.specs.declared.cause.Cause.{Cause}
use Rattle.scan_story.specs.declared.entry.Entry.{Entry}
use Rattle.scan_story.specs.declared.entry.Entry.TheVariants.{Register}
use Rattle.scan_story.specs.declared.setting.PolicyName.{PolicyName}
use Rattle.scan_story.specs.declared.setting.Setting.{Setting}
use Rattle.scan_story.specs.Legal.{Legal}
use Rattle.story_text.specs.Reading.{Fits}
use Rattle.story_text.specs.Text.{story_text}
use Rattle.scan_story.specs.Setting.{HasRoom, IsSetting}
use Rattle.scan_story.specs.Views.{past}
use Rattle.scan_story.specs.Whole.{IsWhole, Undisturbed}
use Rattle.scan_story.proofs.Prefixes.{begin_legal}
use Rattle.query_gather.specs.declared.answer.Answer.{Answer}
use Rattle.run_output.specs.Answers.{printed}
use Rattle.run_stops.specs.Outcomes.{plans_of}
use Rattle.run_output.specs.Outcomes.{losses}
use Rattle.run_stops.specs.declared.outcome.Outcome.{Outcome}
use Rattle.batch_plan.specs.declared.task.Task.{Task}
use Rattle.run_output.specs.Printed.{status}
use Rattle.run_output.proofs.Prints.{print_each}
use Rattle.run_inputs.specs.declared.inputs.Inputs.{Inputs}
use Rattle.run_ends.specs.Losses.{AreLostBy}
use Rattle.run_ends.specs.Running.{CanRun, shape_in, zones_in}
use Rattle.run_ends.specs.Tasks.{tasks_in}
use Rattle.run_ends.proofs.Asked.{only_asked}
use Rattle.run_ends.proofs.Losing.{lost_by}
use Rattle.inspect_verdict.specs.StatementParts.{IsPlainOrStopped}
use Rattle.inspect_verdict.specs.Apart.{reads_apart}
use Rattle.inspect_verdict.proofs.SizedRows.{whole_read_little}
use Rattle.inspect_referee.specs.Ruling.{IsFirstIllegal, IsRuling, finds_legal, place_of}
use Rattle.inspect_referee.specs.declared.counts.Counts.{Counts}
use Rattle.inspect_referee.specs.declared.ruling.Ruling.{Ruling}
use Rattle.inspect_referee.specs.declared.ruling.Ruling.TheVariants as rulings
use Rattle.piece_format.specs.Shape.{TableShape}
use Rattle.inspect_verdict.specs.Judged.{IsJudged, IsStray, StandsIn, judged_by, legal_front}
use Rattle.inspect_verdict.specs.Words.{AreAllRegistered, AreInOrder, FaultsFit, IsFirstUnfit, IsFitting, IsUnfit}
use Rattle.inspect_verdict.specs.declared.unfit.Unfit.{Unfit}
use Rattle.inspect_verdict.specs.declared.wording.Fitting.{Fitting}
use Rattle.inspect_verdict.specs.declared.wording.Fitting.TheVariants as fits
use Rattle.inspect_verdict.proofs.Dealt.{all_due, in_turn}
use Rattle.inspect_verdict.proofs.Straying.{all_past, fits_licensed, fits_within, licensed_fits, never_left, never_unfit}
use Rattle.inspect_verdict.specs.Plain.{ArePlain}
use Rattle.inspect_verdict.specs.Ends.{BeginsAtLine}
use Rattle.inspect_verdict.specs.Reading.{HasRead, IsToldBy, IsTrace, text_with}
use Rattle.inspect_verdict.specs.Stops.{answers_with, stop_of_task}
use Rattle.inspect_verdict.specs.Told.{IsRunTold, run_setting}
use Rattle.inspect_verdict.specs.Verdict.{IsOfReading, IsVerdict, TellsNoRun, left_open}
use Rattle.inspect_verdict.specs.declared.judging.Judged.{Judged}
use Rattle.inspect_verdict.specs.declared.judging.Judged.TheVariants as judged
use Rattle.inspect_verdict.specs.declared.output_reading.Told.{Told}
use Rattle.inspect_verdict.specs.declared.verdict.Verdict.{Verdict}
use Rattle.inspect_verdict.specs.declared.verdict.Verdict.TheVariants as verdict
use Rattle.inspect_verdict.proofs.Placed.{end_at}
use Rattle.inspect_verdict.proofs.Stopping.{given_answers, given_lost, stops_same}
use Rattle.inspect_verdict.proofs.Telling.{given, is_read, text_is}

-- what stands in the way of reading is right where no run is told
pub none_told : (i : Inputs) (name : PolicyName) (scratch : Bool) (out : List ℕ) (v : Verdict) → IsOfReading i out v → TellsNoRun i name scratch out → IsVerdict i name scratch out v
none_told i name scratch out (verdict.Legal entries reads apart counts) is none = absurd is
none_told i name scratch out (verdict.NotAnswered query line) is none = record { none = none; lacks = is }
none_told i name scratch out (verdict.NoSummary line) is none = record { none = none; lacks = is }
none_told i name scratch out (verdict.NoTrace line) is none = absurd is
none_told i name scratch out (verdict.NotStory line) is none = record { none = none; bad = is }
none_told i name scratch out (verdict.Illegal line place reason) is none = absurd is
none_told i name scratch out (verdict.Unfit line place why) is none = absurd is
none_told i name scratch out (verdict.NotWhole line) is none = absurd is
none_told i name scratch out (verdict.Differs line) is none = absurd is

-- a story that is legal and left open
pub open_is : (i : Inputs) (name : PolicyName) (scratch : Bool) (out : List ℕ) (es : List Entry) (first : ℕ) → TellsNoRun i name scratch out → IsTrace i out (story_text es) → BeginsAtLine out (story_text es) first → AllByRecursion Fits es
    → Legal (run_setting i name) (past es) → (IsWhole (run_setting i name) (past es) → AreAllRegistered (run_setting i name) es i.options.workers → ⊥) → IsVerdict i name scratch out (left_open first es)
open_is i name scratch out [] first none trace at fit legal unfinished = record { none = none; trace = trace; at_line = at; legal = legal; unfinished = unfinished }
open_is i name scratch out (e ∷ es) first none trace at fit legal unfinished = (e, es, record { none = none; trace = trace; at_line = end_at out (e ∷ es) first fit at; legal = legal; unfinished = unfinished })

front_legal : (s : Setting) (es : List Entry) (n : ℕ) → Legal s (past es) → Legal s (past (take n es))
front_legal s es n legal = begin_legal s es (take n es) (drop n es, sym (take-append-drop n es)) legal

-- the entries before the one that is refused stand in the story
pub front_stands : (s : Setting) (es : List Entry) (r : Ruling) → IsFirstIllegal s es (place_of r) → StandsIn r (length es)
front_stands s es (rulings.Legal whole counts) first = tt
front_stands s es (rulings.Illegal place reason) first = first.0

-- what doesn't fit the words stands before what is refused
stray_is : (s : Setting) (z : TableShape) (scratch : Bool) (es : List Entry) (r : Ruling) (place : ℕ) (why : Unfit) → IsFirstIllegal s es (place_of r) → IsFirstUnfit s z scratch (legal_front r es) place why → IsStray s z scratch es place why
stray_is s z scratch es (rulings.Legal whole counts) place why first unfit = record { legal = front_legal s es place first; first = unfit }
stray_is s z scratch es (rulings.Illegal at reason) place why first unfit =
    let len = length-take-le at es (omega (arith, first.0)) in
    let low : place < at = omega (arith, unfit.there, len) in
    let same = take-take place at es (omega (arith, low)) in
    let Fronts = λ (xs : List Entry). AreInOrder s xs s.workers × FaultsFit z scratch (past xs) × IsUnfit s z scratch xs (get_or (take at es) place (Register 0 0)) why in
    let fronts = subst Fronts same (unfit.order, unfit.faults, unfit.unfit) in
    let At = λ (e : Entry). IsUnfit s z scratch (take place es) e why in
    record {
      legal = subst (λ (xs : List Entry). Legal s (past xs)) same (front_legal s (take at es) place first.1);
      first = record { there = omega (arith, low, first.0); order = fronts.0; faults = fronts.1; unfit = subst At (get_or-take at es place (Register 0 0) low) fronts.2 };
    }

-- a ruling, and what is said of the entries before the one that it refuses, as it is said of the story of a run
pub judged_is : (s : Setting) (z : TableShape) (scratch : Bool) (es : List Entry) (r : Ruling) → IsRuling s es r → IsFirstIllegal s es (place_of r) → (HasRoom s → IsTrue (finds_legal r) → Undisturbed s (past es)) → IsSetting s → HasRoom s
    → (f : Fitting) → IsFitting s z scratch (legal_front r es) f → (apart : ℕ) → apart ≡ reads_apart s → IsJudged s z scratch es (judged_by r f apart)
judged_is s z scratch es r is first calm may room (fits.Unfit place why) fit apart are = stray_is s z scratch es r place why first fit
judged_is s z scratch es (rulings.Legal true counts) is first calm may room fits.All fit apart are = (is.0, is.1.0 refl, calm room refl, is.2, are, whole_read_little s (past es) may room is.0, fit.0, fit.1)
judged_is s z scratch es (rulings.Legal true counts) is first calm may room fits.Some fit apart are = (is.0, λ whole all. never_left s es fit.2 all)
judged_is s z scratch es (rulings.Legal false counts) is first calm may room fits.All fit apart are = (is.0, λ whole all. let k = is.1.1 whole in absurd cc)
judged_is s z scratch es (rulings.Legal false counts) is first calm may room fits.Some fit apart are = (is.0, λ whole all. let k = is.1.1 whole in absurd cc)
judged_is s z scratch es (rulings.Illegal place reason) is first calm may room fits.All fit apart are = record { refused = is; first = first; order = λ w lt. ([], fit.0 w lt); faults = fit.1 }
judged_is s z scratch es (rulings.Illegal place reason) is first calm may room fits.Some fit apart are = record { refused = is; first = first; order = fit.0; faults = fit.1 }

-- a story that is legal and whole and fits the words isn't judged otherwise
pub other_judged : (s : Setting) (z : TableShape) (scratch : Bool) (es : List Entry) (j : Judged) → IsJudged s z scratch es j → ((n : Counts) (a : ℕ) → j ≡ judged.Legal n a → ⊥) → Legal s (past es) → IsWhole s (past es)
    → AreAllRegistered s es s.workers → FaultsFit z scratch (past es) → ⊥
other_judged s z scratch es (judged.Legal n a) is not legal whole all faults = not n a refl
other_judged s z scratch es (judged.Illegal place reason) is not legal whole all faults = is.first.2 (front_legal s es (place + 1) legal)
other_judged s z scratch es (judged.Unfit place why) is not legal whole all faults = never_unfit s z scratch es place why is.first all faults
other_judged s z scratch es judged.NotWhole is not legal whole all faults = is.1 whole all

-- the answers that the stops make, by what each call was given
pub given_is : (parts : ℕ) (story d6 : List Entry) (lines d8 : List Bool) (os : List Outcome) (d7 : List Task) (stops d9 : List (Option Cause)) (plain d3 made_of d10 : List Answer) → d6 ≡ story → d8 ≡ lines
    → d7 ≡ tasks_in 1 os → stops ≡ map (stop_of_task (past d6) parts d8) d7 → d9 ≡ stops → made_of ≡ answers_with d9 plain → d10 ≡ made_of → d3 ≡ plain
    → d10 ≡ answers_with (map (stop_of_task (past story) parts lines) (tasks_in 1 os)) d3
given_is parts story d6 lines d8 os d7 stops d9 plain d3 made_of d10 e6 e8 e7 are e9 made e10 e3 =
    let one : stops ≡ map (stop_of_task (past story) parts lines) (tasks_in 1 os) =
    are ∙ (ap (λ (es : List Entry). map (stop_of_task (past es) parts d8) d7) e6 ∙ (ap (λ (ls : List Bool). map (stop_of_task (past story) parts ls) d7) e8 ∙ ap (map (stop_of_task (past story) parts lines)) e7)) in
    e10 ∙ (made ∙ (ap (λ (ss : List (Option Cause)). answers_with ss plain) (e9 ∙ one) ∙ ap (answers_with (map (stop_of_task (past story) parts lines) (tasks_in 1 os))) (sym e3)))

module _ (i : Inputs) (can : CanRun i) (name : PolicyName) (scratch : Bool) (out : List ℕ) (short : length out ≤ 2 ^ 30) (plain : List Answer) (are : ArePlain i.loaded.table.rows (plans_of i.outcomes.items) plain)
    (r : Result Told Verdict) (reads : (answers : List Answer) (line : List ℕ) (es : List Entry) → AllZip IsPlainOrStopped plain answers → HasRead i answers line es out r) where
  -- nothing that is told is refused
  pub refused_none : (v : Verdict) → r ≡ Err v → TellsNoRun i name scratch out
  refused_none v is story run = let Told = λ (x : Result Told Verdict). IsToldBy i (given i can name scratch out short plain are story run) story x in subst Told is (is_read i can name scratch out short plain are story run r reads)

  module _ (t : Told) (ok : r ≡ Ok t) where
    told_by : (story : List Entry) (run : IsRunTold i name scratch out story) → IsToldBy i (given i can name scratch out short plain are story run) story (Ok t)
    told_by story run = let Told = λ (x : Result Told Verdict). IsToldBy i (given i can name scratch out short plain are story run) story x in subst Told ok (is_read i can name scratch out short plain are story run r reads)

    pub judged_none : (j : Judged) → IsJudged (run_setting i name) (shape_in i) scratch t.story.items j → ((n : Counts) (a : ℕ) → j ≡ judged.Legal n a → ⊥) → TellsNoRun i name scratch out
    judged_none j is not story run =
        let Judges = λ (es : List Entry). IsJudged (run_setting i name) (shape_in i) scratch es j in
        other_judged (run_setting i name) (shape_in i) scratch story j (subst Judges (told_by story run).1 is) not run.legal run.whole (λ w lt. all_due i name w story (run.registers w lt))
        (licensed_fits (shape_in i) scratch (past story) run.licensed run.within)

    abbrev pub answers_now : List Answer
    answers_now = answers_with (map (stop_of_task (past t.story.items) i.options.parts t.lines.items) (tasks_in 1 i.outcomes.items)) plain

    pub differs_none : out ≢ text_with i answers_now t.story.items → TellsNoRun i name scratch out
    differs_none other story run =
        let told = told_by story run in
        let rows = i.loaded.table.rows in
        let With = λ (es : List Entry). answers_with (map (stop_of_task (past es) i.options.parts t.lines.items) (tasks_in 1 i.outcomes.items)) plain in
        let same : answers_now ≡ given i can name scratch out short plain are story run =
        ap With told.1 ∙ stops_same rows (past story) i.options.parts t.lines.items [] 1 i.outcomes.items plain run.losses refl told.0 are run.lost in
        other (text_is i can name scratch out short plain are story run ∙ (ap (λ (gs : List Answer). text_with i gs story) (sym same) ∙ ap (λ (es : List Entry). text_with i answers_now es) (sym told.1)))

    -- each query that they stop was stopped as the story says, or since memory ran out
    pub answers_lost : Legal (run_setting i name) (past t.story.items) → AreLostBy (past t.story.items) i.options.parts 1 i.outcomes.items (losses i.outcomes.items answers_now)
    answers_lost legal =
        let h = past t.story.items in
        let os = i.outcomes.items in
        lost_by h (zones_in i) i.options.workers i.options.parts os (λ q none. only_asked (run_setting i name) h q legal none) answers_now (given_lost i.loaded.table.rows h i.options.parts t.lines.items 1 os plain are)

    -- where nothing differs a run is told
    pub run_told : AllByRecursion Fits t.story.items → (n : Counts) (a : ℕ) → IsJudged (run_setting i name) (shape_in i) scratch t.story.items (judged.Legal n a) → out ≡ text_with i answers_now t.story.items → IsRunTold i name scratch out t.story.items
    run_told fit n a is same =
        let s = run_setting i name in
        let h = past t.story.items in
        let rows = i.loaded.table.rows in
        let os = i.outcomes.items in
        let columns = i.loaded.table.columns in
        let dicts = i.loaded.dicts.items in
        record {
          fit = fit;
          legal = is.0;
          whole = is.1;
          undisturbed = is.2;
          registers = λ w lt. in_turn i name w t.story.items (is.6 w lt);
          licensed = fits_licensed s (shape_in i) scratch h is.0 (all_past Fits t.story.items fit) is.7;
          within = fits_within (shape_in i) scratch h is.7;
          losses = losses os answers_now;
          lost = answers_lost is.0;
          status = status (printed columns dicts 1 os answers_now);
          output = λ texts come. record {
            printed = printed columns dicts 1 os answers_now;
            each = print_each columns dicts rows can.loaded.1.fits 1 texts os answers_now come (given_answers rows h i.options.parts t.lines.items 1 os plain are);
            bytes = same;
            status = refl;
          };
        }
