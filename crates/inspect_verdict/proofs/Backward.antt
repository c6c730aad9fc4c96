-- What a run prints with its trace is judged legal.
use Rattle.std.proofs.Common.{◌≡◌, ◌∙◌, ◌<◌, ◌≤◌, ◌+◌, ◌-◌, ◌^◌, ◌⊎◌, ◌∷◌, [], true, false, ℕ, Bool, List, Some, None, inl, inr, length, refl, subst, arith}
use Rattle.std.specs.Prelude.{Result, Ok, Err, is_some, map, min}
use Rattle.std.proofs.Math.Nat.{lt_of_not-le, min-le_left, min-le_right}
use Rattle.std.specs.List.{AllByRecursion}
use Rattle.coop_outside.specs.Causes.{Rose}
use Rattle.coop_outside.specs.Pieces.{Stored}
use Rattle.piece_format.specs.Shape.{TableShape}
use Rattle.scan_story.specs.Causes.{Licensed}
use Rattle.scan_story.specs.Legal.{Legal}
use Rattle.scan_story.specs.MayFollow.{IsRise}
use Rattle.scan_story.specs.Setting.{first_cursor}
use Rattle.scan_story.specs.Views.{History, past}
use Rattle.scan_story.specs.Whole.{IsWhole, Undisturbed}
use Rattle.scan_story.specs.declared.entry.Entry.{Entry}
use Rattle.scan_story.specs.declared.entry.Entry.TheVariants.{Register, Plan, Evict, Fill, Filled, Failed, Deliver, Release, Stop, End}
use Rattle.scan_story.specs.declared.entry.Why.TheVariants.{Fault, Damage}
use Rattle.scan_story.specs.declared.setting.PolicyName.{PolicyName}
use Rattle.story_text.specs.Reading.{Fits}
use Rattle.command_words.specs.Options.{Request}
use Rattle.batch_ends.specs.Lost.{Tells}
use Rattle.table_core.specs.Value.{row_values}
use Rattle.run_output.specs.Outcomes.{losses}
use Rattle.run_output.specs.Output.{IsOutput}
use Rattle.run_stops.specs.Stops.{status_of}
use Rattle.run_stops.specs.declared.stop.Stop.{Stop as StopOf}
use Rattle.run_stops.specs.declared.stop.Stop.TheVariants as stop
use Rattle.run_inputs.specs.declared.inputs.Inputs.{Inputs}
use Rattle.run_ends.specs.Deciding.{IsDecided, IsUntouched, Runs, StopsBefore}
use Rattle.run_ends.specs.Devices.{DepotAt, OverShelf, OverSink}
use Rattle.run_ends.specs.Ending.{Prints}
use Rattle.run_ends.specs.Running.{IsRunOf, Text, setting_in, shape_in}
use Rattle.run_ends.specs.Tasks.{totals_of, trace_of}
use Rattle.run_ends.specs.Work.{Work}
use Rattle.inspect_verdict.specs.Back.{IsJudgedBack, IsLegal, IsSound, KeepsAs}
use Rattle.inspect_verdict.specs.Told.{IsRunTold}
use Rattle.inspect_verdict.specs.Verdict.{IsVerdict}
use Rattle.inspect_verdict.specs.Words.{IsLicensed, IsWithin}
use Rattle.inspect_verdict.specs.declared.verdict.Verdict.{Verdict}
use Rattle.inspect_verdict.specs.declared.verdict.Verdict.TheVariants as verdict
use Rattle.inspect_verdict.proofs.Straying.{all_past}

-- ---- the licence

low : (told : Bool) (from to : ℕ) (h : History) → Licensed told from to h → from ≤ to
low told from to [] is = is
low told from to (Failed w q p (Fault before after) ∷ h) is = by_rise (low told from before h is.2) is.0 is.1
  where
    by_rise : from ≤ before → after ≤ to → IsRise before after → from ≤ to
    by_rise le high (inl rise) = omega (arith, le, high, rise)
    by_rise le high (inr last) = omega (arith, le, high, last.0, last.1)
low told from to (Failed w q p (Damage word) ∷ h) is = low told from to h is.1
low told from to (Register w q ∷ h) is = low told from to h is
low told from to (Plan w q c ∷ h) is = low told from to h is
low told from to (Evict w c ∷ h) is = low told from to h is
low told from to (Fill w f p ∷ h) is = low told from to h is
low told from to (Filled w f p ∷ h) is = low told from to h is
low told from to (Deliver w q c ∷ h) is = low told from to h is
low told from to (Release w q c ∷ h) is = low told from to h is
low told from to (Stop w q ∷ h) is = low told from to h is
low told from to (End w q ∷ h) is = low told from to h is

-- where the count didn't rise nothing failed
calm : (from to : ℕ) (h : History) → to ≤ from → to < 2 ^ 64 - 1 → Licensed true from to h → Licensed true 0 0 h
calm from to [] le small is = omega arith
calm from to (Failed w q p (Fault before after) ∷ h) le small is = absurd (by_rise (low true from before h is.2) is.0 is.1)
  where
    by_rise : from ≤ before → after ≤ to → IsRise before after → ⊥
    by_rise least high (inl rise) = omega (arith, least, high, rise, le)
    by_rise least high (inr last) = omega (arith, high, last.1, small)
calm from to (Failed w q p (Damage word) ∷ h) le small is = let k = is.0 in absurd cc
calm from to (Register w q ∷ h) le small is = calm from to h le small is
calm from to (Plan w q c ∷ h) le small is = calm from to h le small is
calm from to (Evict w c ∷ h) le small is = calm from to h le small is
calm from to (Fill w f p ∷ h) le small is = calm from to h le small is
calm from to (Filled w f p ∷ h) le small is = calm from to h le small is
calm from to (Deliver w q c ∷ h) le small is = calm from to h le small is
calm from to (Release w q c ∷ h) le small is = calm from to h le small is
calm from to (Stop w q ∷ h) le small is = calm from to h le small is
calm from to (End w q ∷ h) le small is = calm from to h le small is

-- of whatever depot, counts rise from 0
untold : (told : Bool) (from to : ℕ) (h : History) → Licensed told from to h → Licensed false 0 to h
untold told from to [] is = omega arith
untold told from to (Failed w q p (Fault before after) ∷ h) is = (is.0, is.1, untold told from before h is.2)
untold told from to (Failed w q p (Damage word) ∷ h) is = (refl, untold told from to h is.1)
untold told from to (Register w q ∷ h) is = untold told from to h is
untold told from to (Plan w q c ∷ h) is = untold told from to h is
untold told from to (Evict w c ∷ h) is = untold told from to h is
untold told from to (Fill w f p ∷ h) is = untold told from to h is
untold told from to (Filled w f p ∷ h) is = untold told from to h is
untold told from to (Deliver w q c ∷ h) is = untold told from to h is
untold told from to (Release w q c ∷ h) is = untold told from to h is
untold told from to (Stop w q ∷ h) is = untold told from to h is
untold told from to (End w q ∷ h) is = untold told from to h is

-- up to the last count of 64 bits
topped : (to : ℕ) (h : History) → AllByRecursion Fits h → Licensed false 0 to h → Licensed false 0 (2 ^ 64 - 1) h
topped to [] fit is = omega arith
topped to (Failed w q p (Fault before after) ∷ h) fit is = let k = fit.0 in (omega (arith, k.3.1), is.1, is.2)
topped to (Failed w q p (Damage word) ∷ h) fit is = (refl, topped to h fit.1 is.1)
topped to (Register w q ∷ h) fit is = topped to h fit.1 is
topped to (Plan w q c ∷ h) fit is = topped to h fit.1 is
topped to (Evict w c ∷ h) fit is = topped to h fit.1 is
topped to (Fill w f p ∷ h) fit is = topped to h fit.1 is
topped to (Filled w f p ∷ h) fit is = topped to h fit.1 is
topped to (Deliver w q c ∷ h) fit is = topped to h fit.1 is
topped to (Release w q c ∷ h) fit is = topped to h fit.1 is
topped to (Stop w q ∷ h) fit is = topped to h fit.1 is
topped to (End w q ∷ h) fit is = topped to h fit.1 is

licensed_so : (scratch : Bool) (held : Stored) (old new : DepotAt) (h : History) → old.held ≡ held → KeepsAs scratch old new → AllByRecursion Fits h → Licensed (is_some old.held) old.faults new.faults h → IsLicensed scratch h
licensed_so true held old new h same keeps fit is = topped new.faults h fit (untold (is_some old.held) old.faults new.faults h is)
licensed_so false None old new h same keeps fit is = absurd (subst Tells same keeps.0)
licensed_so false (Some pieces) old new h same keeps fit is =
    let Is = λ (s : Stored). Licensed (is_some s) old.faults new.faults h in
    let flat : (new.faults ≤ old.faults) × (new.faults < 2 ^ 64 - 1) = not_rose old.faults new.faults keeps.1 in
    calm old.faults new.faults h flat.0 flat.1 (subst Is same is)
  where
    not_rose : (before now : ℕ) → (Rose before now → ⊥) → (now ≤ before) × (now < 2 ^ 64 - 1)
    not_rose before now flat = let k = lt_of_not-le {n = min (before + 1) (2 ^ 64 - 1)} {m = now} flat in (omega (arith, k, min-le_left (before + 1) (2 ^ 64 - 1)), omega (arith, k, min-le_right (before + 1) (2 ^ 64 - 1)))

-- a depot that tells what it holds has no damage
undamaged : (z : TableShape) (from to : ℕ) (h : History) → Licensed true from to h → AllByRecursion (IsWithin z) h
undamaged z from to [] is = tt
undamaged z from to (Failed w q p (Fault before after) ∷ h) is = (tt, undamaged z from before h is.2)
undamaged z from to (Failed w q p (Damage word) ∷ h) is = let k = is.0 in absurd cc
undamaged z from to (Register w q ∷ h) is = (tt, undamaged z from to h is)
undamaged z from to (Plan w q c ∷ h) is = (tt, undamaged z from to h is)
undamaged z from to (Evict w c ∷ h) is = (tt, undamaged z from to h is)
undamaged z from to (Fill w f p ∷ h) is = (tt, undamaged z from to h is)
undamaged z from to (Filled w f p ∷ h) is = (tt, undamaged z from to h is)
undamaged z from to (Deliver w q c ∷ h) is = (tt, undamaged z from to h is)
undamaged z from to (Release w q c ∷ h) is = (tt, undamaged z from to h is)
undamaged z from to (Stop w q ∷ h) is = (tt, undamaged z from to h is)
undamaged z from to (End w q ∷ h) is = (tt, undamaged z from to h is)

telling : (z : TableShape) (held : Stored) (from to : ℕ) (h : History) → Tells held → Licensed (is_some held) from to h → AllByRecursion (IsWithin z) h
telling z None from to h tells is = absurd tells
telling z (Some pieces) from to h tells is = undamaged z from to h is

-- ---- the run

-- what is told is judged legal
pub judged_legal : (i : Inputs) (name : PolicyName) (scratch : Bool) (out : List ℕ) (story : List Entry) → IsRunTold i name scratch out story → (v : Verdict) → IsVerdict i name scratch out v → IsLegal v
judged_legal i name scratch out story told (verdict.Legal entries reads apart counts) is = tt
judged_legal i name scratch out story told (verdict.NotAnswered query line) is = is.none story told
judged_legal i name scratch out story told (verdict.NoSummary line) is = is.none story told
judged_legal i name scratch out story told (verdict.NoTrace line) is = is.none story told
judged_legal i name scratch out story told (verdict.NotStory line) is = is.none story told
judged_legal i name scratch out story told (verdict.Illegal line place reason) is = is.none story told
judged_legal i name scratch out story told (verdict.Unfit line place why) is = is.none story told
judged_legal i name scratch out story told (verdict.NotWhole line) is = is.2.none story told
judged_legal i name scratch out story told (verdict.Differs line) is = is.none story told

module _ (i : Inputs) (w : Work) (o : Text) (run : IsRunOf i w o) (scratch : Bool) (traced : i.trace ≡ true) (first : w.cursor ≡ first_cursor w.policy) (keeps : KeepsAs scratch w.old w.new) (fit : AllByRecursion Fits w.story) where
  abbrev h : History
  h = past w.story

  pub sound_is : Tells w.old.held → IsSound i w run.answers o
  sound_is tells = record {
    output = λ texts come. subst (λ (b : Bool). IsOutput i.loaded.table.columns (map (row_values i.loaded.dicts.items) i.loaded.table.rows) texts (losses i.outcomes.items run.answers) (totals_of i.summary w.story (length i.loaded.table.rows)) (trace_of b w.story) o.0 o.1) traced (run.means tells texts come);
    within = telling (shape_in i) w.old.held w.old.faults w.new.faults h tells run.are.worked.story.licensed;
  }

  pub told_is : IsSound i w run.answers o → IsRunTold i w.policy scratch o.1 w.story
  told_is sound =
      let worked = run.are.worked in
      let L = λ (c : List ℕ). Legal (setting_in i w.policy c) h in
      let W = λ (c : List ℕ). IsWhole (setting_in i w.policy c) h in
      let U = λ (c : List ℕ). Undisturbed (setting_in i w.policy c) h in
      record {
        fit = fit;
        legal = subst L first worked.story.whole.legal;
        whole = subst W first worked.story.whole.whole;
        undisturbed = subst U first worked.story.whole.undisturbed;
        registers = worked.registers;
        licensed = licensed_so scratch w.old.held w.old w.new h refl keeps (all_past Fits w.story fit) worked.story.licensed;
        within = sound.within;
        losses = losses i.outcomes.items run.answers;
        lost = run.are.lost;
        status = o.0;
        output = sound.output;
      }

-- no stop has status 0 or 1
stops_late : (s : StopOf) → status_of s ≤ 1 → ⊥
stops_late stop.Usage le = omega (arith, le)
stops_late stop.TableTooLong le = omega (arith, le)
stops_late stop.NoHeader le = omega (arith, le)
stops_late (stop.Columns n) le = omega (arith, le)
stops_late (stop.LongName n) le = omega (arith, le)
stops_late (stop.TwiceNamed n m) le = omega (arith, le)
stops_late (stop.Ragged n m) le = omega (arith, le)
stops_late stop.TooManyRows le = omega (arith, le)
stops_late (stop.Chunks n) le = omega (arith, le)
stops_late stop.TableFault le = omega (arith, le)
stops_late stop.BatchFault le = omega (arith, le)
stops_late (stop.NotStored n) le = omega (arith, le)
stops_late (stop.FramesNeeded n) le = omega (arith, le)
stops_late (stop.FrameWords n) le = omega (arith, le)
stops_late stop.BatchTooLong le = omega (arith, le)
stops_late (stop.Statements n) le = omega (arith, le)
stops_late (stop.Scans n) le = omega (arith, le)
stops_late stop.Memory le = omega (arith, le)

-- what was decided and written with 0 or 1 is judged legal
pub judged_back : (r : Request) (shelf : OverShelf) (sink : OverSink) (w : Work) (d : Result Text StopOf) (status : ℕ) → IsDecided r shelf w d → Prints d status sink → status ≤ 1 → r.trace ≡ true
    → w.cursor ≡ first_cursor w.policy → KeepsAs (is_some r.scratch) w.old w.new → AllByRecursion Fits w.story → IsJudgedBack r shelf sink w
judged_back r shelf sink w (Err s) status decided prints ended traced first keeps fit = absurd (stops_late s (subst (λ (n : ℕ). n ≤ 1) prints.0 ended))
judged_back r shelf sink w (Ok o) status decided (inr cut) ended traced first keeps fit = absurd (omega (arith, ended, cut.0))
judged_back r shelf sink w (Ok o) status decided (inl written) ended traced first keeps fit = by_coming decided.comes
  where
    by_coming : Runs r decided.table decided.batch w (Ok o) ⊎ (StopsBefore r decided.table decided.batch shelf (Ok o) × IsUntouched w) → IsJudgedBack r shelf sink w
    by_coming (inr never) = absurd never.0
    by_coming (inl runs) =
        let i = runs.given in
        let trace : i.trace ≡ true = runs.is_given.trace ∙ traced in
        record {
          table = decided.table;
          batch = decided.batch;
          table_is = decided.table_is;
          batch_is = decided.batch_is;
          accepted = runs.accepted;
          given = i;
          is_given = runs.is_given;
          text = o;
          run = runs.comes;
          written = written.1;
          sound = sound_is i w o runs.comes (is_some r.scratch) trace first keeps fit;
          told = told_is i w o runs.comes (is_some r.scratch) trace first keeps fit;
          legal = λ sound. judged_legal i w.policy (is_some r.scratch) o.1 w.story (told_is i w o runs.comes (is_some r.scratch) trace first keeps fit sound);
        }
