-- Each promise of a comparison, from what was decided and what of it was written.
use Rattle.std.proofs.Common.{◌≡◌, ◌≤◌, ◌∙◌, ◌++◌, ℕ, max, map, List, [], ◌∷◌, Option, Some, None, Result, Ok, Err, refl, sym, ap, subst, inl, inr, ◌⊎◌, arith}
use Rattle.std.specs.Prelude.{⊤, is_some}
use Rattle.std.proofs.lemmas.List.Elements.{All-from_recursion}
use Rattle.coop_outside.specs.Causes.{Rose}
use Rattle.command_words.specs.Options.{Request}
use Rattle.piece_format.specs.Shape.{TableShape}
use Rattle.run_stops.specs.declared.stop.Stop.{Stop}
use Rattle.run_stops.specs.declared.stop.Stop.TheVariants as stop
use Rattle.scan_story.specs.Views.{past}
use Rattle.scan_story.specs.declared.setting.PolicyName.{PolicyName}
use Rattle.table_core.specs.declared.cell.Cell.{Cell}
use Rattle.table_pieces.specs.Putting.{ArePut}
use Rattle.coop_outside.specs.Pieces.{Stored}
use Rattle.run_inputs.specs.Order.{first_stop}
use Rattle.run_inputs.specs.Sources.{batch_source, table_source, text_in}
use Rattle.batch_ends.specs.Lost.{Tells}
use Rattle.run_ends.specs.Devices.{DepotAt}
use Rattle.run_ends.specs.Losses.{OnlyForMemory}
use Rattle.run_ends.specs.Running.{IsWorked, Text}
use Rattle.run_ends.specs.Work.{Work}
use Rattle.run_inputs.specs.declared.inputs.Inputs.{Inputs}
use Rattle.run_output.specs.Answers.{printed}
use Rattle.run_output.specs.Printed.{status as status_in}
use Rattle.run_ends.specs.Compared.{AreRuns, Over, followed}
use Rattle.run_ends.specs.Lines.{line_of}
use Rattle.run_ends.specs.Policies.{PolicyAt}
use Rattle.run_ends.specs.PolicyRuns.{IsMade, work_in}
use Rattle.run_ends.specs.declared.policy_run.PolicyRun.{PolicyRun}
use Rattle.run_ends.specs.Comparing.{HaveWorked, HeadlineUnder, Headlines, Remark, for_any_parts, lost_for_memory, nothing_more}
use Rattle.run_ends.specs.Ending.{Headline}
use Rattle.run_ends.proofs.Endings.{headline-of, only-for-memory, status-small}
use Rattle.run_ends.proofs.Losses.{licensed-rises}
use Rattle.run_ends.proofs.Parts.{for-any-parts}

-- ---- the runs of a comparison

-- the depot's count of faults doesn't fall while workers run
worked-later : (i : Inputs) (w : Work) → IsWorked i w → w.old.faults ≤ w.new.faults
worked-later i w worked = licensed-rises (is_some w.old.held) w.old.faults w.new.faults (past w.story) worked.story.licensed

-- a run that is made ends with 0 or 1
made-small : (i : Inputs) (p : PolicyAt) (old new : DepotAt) (run : PolicyRun) (status : ℕ) → IsMade i p old new run status → status ≤ 1
made-small i p old new run status made =
    let is = made.is_run in
    let e : status ≡ status_in (printed i.loaded.table.columns i.loaded.dicts.items 1 i.outcomes.items is.answers) = ap (λ (o : Text). o.0) is.prints in
    rw e (status-small (printed i.loaded.table.columns i.loaded.dicts.items 1 i.outcomes.items is.answers))

rose-since : (a b c : ℕ) → a ≤ b → Rose b c → Rose a c
rose-since a b c low rose = omega (arith, low, rose)

rose-before : (a b c : ℕ) → b ≤ c → Rose a b → Rose a c
rose-before a b c high rose = omega (arith, high, rose)

abbrev pub policy_name : PolicyAt → PolicyName
policy_name p = p.name

abbrev pub run_name : PolicyRun → PolicyName
run_name run = run.name

abbrev text_status : Result Text Stop → ℕ
text_status (Ok o) = o.0
text_status (Err s) = 0

-- where a text is written of a run and the rest, the rest is a text
record Behind (rest : Result Text Stop) (first o : Text) : Type 0 where
  pub text : Text
  pub text_is : rest ≡ Ok text
  pub status_is : o.0 ≡ max first.0 text.0

rest_behind : (rest : Result Text Stop) (first o : Text) → Ok o ≡ followed first rest → Behind rest first o
rest_behind (Ok more) first o e = record { text = more; text_is = refl; status_is = ap text_status e }
rest_behind (Err s) first o e = cc e

module _ (r : Request) (table batch : Option (List ℕ)) where
  -- the workers of each run did their work
  pub runs-worked : (ps : List PolicyAt) (old new : DepotAt) (runs : List PolicyRun) (d : Result Text Stop) → AreRuns r table batch ps old new runs d → HaveWorked r table batch ps old runs
  runs-worked ps old new [] d are = tt
  runs-worked [] old new (run ∷ runs) (Ok o) are = absurd are
  runs-worked [] old new (run ∷ runs) (Err s) are = absurd are
  runs-worked (p ∷ ps) old new (run ∷ runs) d (inl (between, status, rest, over, more, e)) =
      (between, over.comes.name, record { given = over.given; is_given = over.is_given; comes = over.comes.is_run.are.worked }, runs-worked ps between new runs rest more)
  runs-worked (p ∷ ps) old new (run ∷ runs) d (inr (none, e, over)) =
      (new, over.comes.name, record { given = over.given; is_given = over.is_given; comes = over.comes.worked }, rw none tt)

  -- the depot's count of faults doesn't fall
  pub runs-later : (ps : List PolicyAt) (old new : DepotAt) (runs : List PolicyRun) (d : Result Text Stop) → AreRuns r table batch ps old new runs d → old.faults ≤ new.faults
  runs-later [] old new [] (Ok o) (same, e) = rw same (omega arith)
  runs-later [] old new [] (Err s) are = absurd are
  runs-later [] old new (run ∷ runs) (Ok o) are = absurd are
  runs-later [] old new (run ∷ runs) (Err s) are = absurd are
  runs-later (p ∷ ps) old new [] (Ok o) are = absurd are
  runs-later (p ∷ ps) old new [] (Err s) over = elim over.comes [
    | inl (memory, idle) ↦ idle.later
    | inr left ↦ left.idle.later
  ]
  runs-later (p ∷ ps) old new (run ∷ runs) d (inl (between, status, rest, over, more, e)) =
      let low = worked-later over.given (work_in p old between run) over.comes.is_run.are.worked in
      let high = runs-later ps between new runs rest more in
      omega (arith, low, high)
  runs-later (p ∷ ps) old new (run ∷ runs) d (inr (none, e, over)) = worked-later over.given (work_in p old new run) over.comes.worked

  -- a stop in a run is out of memory, or a piece that isn't stored, which counts a fault
  abbrev pub StopsIn : DepotAt → DepotAt → Stop → Type 0
  StopsIn old new s = (s ≡ stop.Memory) ⊎ ((piece : ℕ) × (s ≡ stop.NotStored piece) × Rose old.faults new.faults)

  stops-since : (old between new : DepotAt) (s : Stop) → old.faults ≤ between.faults → StopsIn between new s → StopsIn old new s
  stops-since old between new s low (inl memory) = inl memory
  stops-since old between new s low (inr (piece, is, rose)) = inr (piece, is, rose-since old.faults between.faults new.faults low rose)

  pub runs-stop : (ps : List PolicyAt) (old new : DepotAt) (runs : List PolicyRun) (s : Stop) → AreRuns r table batch ps old new runs (Err s) → StopsIn old new s
  runs-stop [] old new [] s are = absurd are
  runs-stop [] old new (run ∷ runs) s are = absurd are
  runs-stop (p ∷ ps) old new [] s over = elim over.comes [
    | inl (memory, idle) ↦ inl memory
    | inr left ↦ inr (left.piece, left.stop_is, left.left.rose)
  ]
  runs-stop (p ∷ ps) old new (run ∷ runs) s (inl (between, status, Ok rest, over, more, e)) = cc e
  runs-stop (p ∷ ps) old new (run ∷ runs) s (inl (between, status, Err t, over, more, e)) =
      let same : t ≡ s = cc e in
      stops-since old between new s (worked-later over.given (work_in p old between run) over.comes.is_run.are.worked) (subst (StopsIn between new) same (runs-stop ps between new runs t more))
  runs-stop (p ∷ ps) old new (run ∷ runs) s (inr (none, e, over)) = inl (cc e)

  -- the status of all runs
  pub runs-small : (ps : List PolicyAt) (old new : DepotAt) (runs : List PolicyRun) (o : Text) → AreRuns r table batch ps old new runs (Ok o) → o.0 ≤ 1
  runs-small [] old new [] o (same, e) = rw e (omega arith)
  runs-small [] old new (run ∷ runs) o are = absurd are
  runs-small (p ∷ ps) old new [] o are = absurd are
  runs-small (p ∷ ps) old new (run ∷ runs) o (inl (between, status, Err t, over, more, e)) = cc e
  runs-small (p ∷ ps) old new (run ∷ runs) o (inl (between, status, Ok rest, over, more, e)) =
      let own = made-small over.given p old between run status over.comes in
      let later = runs-small ps between new runs rest more in
      let is : o.0 ≡ max status rest.0 = ap text_status e in
      omega (arith, own, later, is)
  runs-small (p ∷ ps) old new (run ∷ runs) o (inr (none, e, over)) = cc e

  -- there is a run for each of the first policies, and behind a text one for all
  pub runs-names : (ps : List PolicyAt) (old new : DepotAt) (runs : List PolicyRun) (d : Result Text Stop) → AreRuns r table batch ps old new runs d
      → (without : List PolicyName) × (map policy_name ps ≡ map run_name runs ++ without) × ((o : Text) → d ≡ Ok o → without ≡ [])
  runs-names [] old new [] d are = ([], refl, λ o e. refl)
  runs-names [] old new (run ∷ runs) (Ok o) are = absurd are
  runs-names [] old new (run ∷ runs) (Err s) are = absurd are
  runs-names (p ∷ ps) old new [] (Ok o) are = absurd are
  runs-names (p ∷ ps) old new [] (Err s) over = (map policy_name (p ∷ ps), refl, λ o e. cc e)
  runs-names (p ∷ ps) old new (run ∷ runs) d (inl (between, status, rest, over, more, e)) =
      let (without, same, all) = runs-names ps between new runs rest more in
      (without, rw (over.comes.name, same) refl, λ o is. let behind = rest_behind rest (status, line_of run) o (sym is ∙ e) in all behind.text behind.text_is)
  runs-names (p ∷ ps) old new (run ∷ runs) d (inr (none, e, over)) = (map policy_name ps, rw (over.comes.name, none) refl, λ o is. cc (e, is))

-- behind a text the first run is made, and the others come to a text
abbrev FromFirst : Type 0 → (r : Request) (table batch : Option (List ℕ)) (p : PolicyAt) (ps : List PolicyAt) (old new : DepotAt) (run : PolicyRun) (runs : List PolicyRun) (o : Text) → Type 0
FromFirst C r table batch p ps old new run runs o = (between : DepotAt) (status : ℕ) (rest : Text) → Over r table batch (λ i. IsMade i p old between run status) → AreRuns r table batch ps between new runs (Ok rest) → o.0 ≡ max status rest.0 → C

from-rest : (C : Type 0) (r : Request) (table batch : Option (List ℕ)) (p : PolicyAt) (ps : List PolicyAt) (old between new : DepotAt) (run : PolicyRun) (runs : List PolicyRun) (status : ℕ) (line : List ℕ) (rest : Result Text Stop) (o : Text)
    → Over r table batch (λ i. IsMade i p old between run status) → AreRuns r table batch ps between new runs rest → Ok o ≡ followed (status, line) rest → FromFirst C r table batch p ps old new run runs o → C
from-rest C r table batch p ps old between new run runs status line (Ok rest) o over more e go = go between status rest over more (ap text_status e)
from-rest C r table batch p ps old between new run runs status line (Err s) o over more e go = cc e

from-first : (C : Type 0) (r : Request) (table batch : Option (List ℕ)) (p : PolicyAt) (ps : List PolicyAt) (old new : DepotAt) (run : PolicyRun) (runs : List PolicyRun) (o : Text) → AreRuns r table batch (p ∷ ps) old new (run ∷ runs) (Ok o)
    → FromFirst C r table batch p ps old new run runs o → C
from-first C r table batch p ps old new run runs o are go = elim are [
  | inl (between, status, rest, over, more, e) ↦ from-rest C r table batch p ps old between new run runs status (line_of run) rest o over more e go
  | inr (none, e, over) ↦ cc e
]

-- ---- the headlines

-- a depot that tells what it holds still does when pieces are put
still-tells : (s : TableShape) (rows : List (List Cell)) (below from : ℕ) (old new : Stored) → ArePut s rows below from old new → Tells old → Tells new
still-tells s rows below from None new put tells = absurd tells
still-tells s rows below from (Some old) None put tells = absurd put
still-tells s rows below from (Some old) (Some new) put tells = tt

-- what a run gives whose texts these are: Calm says of what two counts of faults it may be asked
abbrev GivesHeadlines : (r : Request) (files : List ℕ → Option (List ℕ)) → Remark r files → (ℕ → ℕ → Type 0) → Option (List ℕ) → Option (List ℕ) → Type 0
GivesHeadlines r files Holds Calm table batch = (p : PolicyAt) (old new : DepotAt) (run : PolicyRun) (status : ℕ) → Over r table batch (λ i. IsMade i p old new run status) → Tells old.held → Calm old.faults new.faults
    → HeadlineUnder r files Holds p old new run status

module _ (r : Request) (files : List ℕ → Option (List ℕ)) (Holds : Remark r files) (Calm : ℕ → ℕ → Type 0) (halves : (a b c : ℕ) → a ≤ b → b ≤ c → Calm a c → Calm a b × Calm b c) (table batch : Option (List ℕ))
    (gives : GivesHeadlines r files Holds Calm table batch) where
  -- the depot still tells what it holds behind a run
  tells-behind : (p : PolicyAt) (old new : DepotAt) (run : PolicyRun) (status : ℕ) → Over r table batch (λ i. IsMade i p old new run status) → Tells old.held → Tells new.held
  tells-behind p old new run status over tells = still-tells _ _ _ _ old.held new.held over.comes.is_run.are.worked.stored tells

  made-later : (p : PolicyAt) (old new : DepotAt) (run : PolicyRun) (status : ℕ) → Over r table batch (λ i. IsMade i p old new run status) → old.faults ≤ new.faults
  made-later p old new run status over = worked-later over.given (work_in p old new run) over.comes.is_run.are.worked

  -- one run, and those behind it
  next-headlines : (p : PolicyAt) (ps : List PolicyAt) (old between new : DepotAt) (run : PolicyRun) (runs : List PolicyRun) (status : ℕ) (rest o : Text) → Over r table batch (λ i. IsMade i p old between run status)
      → (Tells between.held → Calm between.faults new.faults → Headlines r files Holds ps between new runs rest.0) → between.faults ≤ new.faults → o.0 ≡ max status rest.0 → Tells old.held → Calm old.faults new.faults
      → Headlines r files Holds (p ∷ ps) old new (run ∷ runs) o.0
  next-headlines p ps old between new run runs status rest o over later high e tells calm =
      let parts = halves old.faults between.faults new.faults (made-later p old between run status over) high calm in
      (between, status, rest.0, gives p old between run status over tells parts.0, later (tells-behind p old between run status over tells) parts.1, e)

  pub runs-headlines : (ps : List PolicyAt) (old new : DepotAt) (runs : List PolicyRun) (o : Text) → AreRuns r table batch ps old new runs (Ok o) → Tells old.held → Calm old.faults new.faults
      → Headlines r files Holds ps old new runs o.0
  runs-headlines [] old new [] o (same, e) tells calm = (same, ap (λ (o : Text). o.0) e)
  runs-headlines [] old new (run ∷ runs) o are tells calm = absurd are
  runs-headlines (p ∷ ps) old new [] o are tells calm = absurd are
  runs-headlines (p ∷ ps) old new (run ∷ runs) o are tells calm =
      from-first (Headlines r files Holds (p ∷ ps) old new (run ∷ runs) o.0) r table batch p ps old new run runs o are (λ between status rest over more e.
      next-headlines p ps old between new run runs status rest o over (runs-headlines ps between new runs rest more) (runs-later r table batch ps between new runs (Ok rest) more) e tells calm)

-- of each run that is made the headline holds, and a remark that holds of all
module _ (r : Request) (files : List ℕ → Option (List ℕ)) (Holds : Remark r files) (Calm : ℕ → ℕ → Type 0)
    (gives : (w : Work) (status : ℕ) (text : List ℕ) (h : Headline r files w status text) → Tells w.old.held → Calm w.old.faults w.new.faults → Holds w status text h)
    (accepted : first_stop r (text_in (table_source r.table) files) (text_in (batch_source r.batch) files) ≡ None) where
  headline-under : GivesHeadlines r files Holds Calm (text_in (table_source r.table) files) (text_in (batch_source r.batch) files)
  headline-under p old new run status over tells calm =
      let made = over.comes in
      let h = headline-of r files (work_in p old new run) (status, made.text) tells (record { accepted = accepted; given = over.given; is_given = over.is_given; comes = made.is_run }) in
      record { name = made.name; text = made.text; headline = h; holds = gives (work_in p old new run) status made.text h tells calm }

-- where the counts didn't rise between the first and the last, they didn't between any two
no-rise : (a b c : ℕ) → a ≤ b → b ≤ c → (Rose a c → ⊥) → (Rose a b → ⊥) × (Rose b c → ⊥)
no-rise a b c low high none = (λ rose. none (rose-before a b c high rose), λ rose. none (rose-since a b c low rose))

memory-remark : (r : Request) (files : List ℕ → Option (List ℕ)) (w : Work) (status : ℕ) (text : List ℕ) (h : Headline r files w status text) → Tells w.old.held → (Rose w.old.faults w.new.faults → ⊥) → lost_for_memory r files w status text h
memory-remark r files w status text h tells none = All-from_recursion OnlyForMemory h.losses (only-for-memory r files w status text h tells none)

parts-remark : (r : Request) (files : List ℕ → Option (List ℕ)) (w : Work) (status : ℕ) (text : List ℕ) (h : Headline r files w status text) → Tells w.old.held → (Rose w.old.faults w.new.faults → ⊥) → for_any_parts r files w status text h
parts-remark r files w status text h tells none = for-any-parts r files w status text h (only-for-memory r files w status text h tells none)

module _ (r : Request) (files : List ℕ → Option (List ℕ)) (accepted : first_stop r (text_in (table_source r.table) files) (text_in (batch_source r.batch) files) ≡ None) (ps : List PolicyAt) (old new : DepotAt) (runs : List PolicyRun) (o : Text)
    (are : AreRuns r (text_in (table_source r.table) files) (text_in (batch_source r.batch) files) ps old new runs (Ok o)) (tells : Tells old.held) where
  pub any-headlines : Headlines r files (nothing_more r files) ps old new runs o.0
  any-headlines =
      runs-headlines r files (nothing_more r files) (λ _ _. ⊤) (λ a b c low high calm. (tt, tt)) _ _ (headline-under r files (nothing_more r files) (λ _ _. ⊤) (λ w status text h tells calm. tt) accepted) ps old new runs o are tells tt

  pub memory-headlines : (Rose old.faults new.faults → ⊥) → Headlines r files (lost_for_memory r files) ps old new runs o.0
  memory-headlines =
      runs-headlines r files (lost_for_memory r files) (λ a b. Rose a b → ⊥) no-rise _ _ (headline-under r files (lost_for_memory r files) (λ a b. Rose a b → ⊥) (memory-remark r files) accepted) ps old new runs o are tells

  pub parts-headlines : (Rose old.faults new.faults → ⊥) → Headlines r files (for_any_parts r files) ps old new runs o.0
  parts-headlines =
      runs-headlines r files (for_any_parts r files) (λ a b. Rose a b → ⊥) no-rise _ _ (headline-under r files (for_any_parts r files) (λ a b. Rose a b → ⊥) (parts-remark r files) accepted) ps old new runs o are tells
