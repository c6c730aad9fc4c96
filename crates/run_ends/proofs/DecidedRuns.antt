-- What a comparison comes to, from what was read and from its runs, and what follows from it.
use Rattle.std.proofs.Common.{◌≡◌, ◌≢◌, ◌∙◌, ◌∷◌, [], ℕ, true, false, length, List, Option, Some, Result, Ok, Err, arith, refl, sym, ap, subst, inl, inr}
use Rattle.std.specs.Prelude.{◌⊎◌, ◌==◌, IfOk, map}
use Rattle.std.proofs.lemmas.Bool.Decides.{nat_tests}
use Rattle.command_words.specs.Options.{Request}
use Rattle.run_stops.specs.declared.stop.Stop.{Stop}
use Rattle.run_stops.specs.declared.stop.Stop.TheVariants as stop
use Rattle.scan_story.specs.Views.{past}
use Rattle.run_inputs.specs.Ending.{IsReadAndKept, SourceFails}
use Rattle.run_inputs.specs.Sources.{batch_source, table_source}
use Rattle.run_inputs.specs.declared.inputs.Inputs.{Inputs}
use Rattle.run_inputs.specs.declared.inputs.ReadTexts.{ReadTexts}
use Rattle.run_ends.specs.Deciding.{shown}
use Rattle.run_ends.specs.Devices.{DepotAt, OverShelf}
use Rattle.run_ends.specs.Running.{Text}
use Rattle.run_ends.specs.declared.output.Output.{Output}
use Rattle.run_ends.specs.Compared.{AreRuns, Compares, IsCompared}
use Rattle.run_ends.specs.Joined.{joined_story}
use Rattle.run_ends.specs.Lines.{lines_of}
use Rattle.run_ends.specs.Policies.{PolicyAt}
use Rattle.run_ends.specs.PolicyRuns.{IsHindered}
use Rattle.run_ends.specs.declared.policy_run.PolicyRun.{PolicyRun}
use Rattle.run_ends.proofs.Joining.{Tells, runs_tell, runs_write}

-- ---- why runs stop

-- a run stops when out of memory, or for a piece
StopsRun : Stop → Type 0
StopsRun s = (s ≡ stop.Memory) ⊎ ((piece : ℕ) × (s ≡ stop.NotStored piece))

hindered_for : (i : Inputs) (p : PolicyAt) (old new : DepotAt) (s : Stop) → IsHindered i p old new s → StopsRun s
unfolding StopsRun
hindered_for i p old new s (inl memory) = inl memory.0
hindered_for i p old new s (inr not) = inr (not.piece, not.stop_is)

module _ (r : Request) (table batch : Option (List ℕ)) where
  stops_for : (ps : List PolicyAt) (old new : DepotAt) (runs : List PolicyRun) (d : Result Text Stop) (s : Stop) → AreRuns r table batch ps old new runs d → d ≡ Err s → StopsRun s
  unfolding StopsRun
  stops_for [] old new [] (Ok o) s are is = absurd (cc is)
  stops_for [] old new [] (Err t) s are is = absurd are
  stops_for [] old new (run ∷ runs) d s are is = absurd are
  stops_for (p ∷ ps) old new [] (Ok o) s are is = absurd are
  stops_for (p ∷ ps) old new [] (Err t) s are is = let same : t ≡ s = cc is in subst StopsRun same (hindered_for are.given p old new t are.comes)
  stops_for (p ∷ ps) old new (run ∷ runs) d s (inl (between, status, Ok rest, over, later, so)) is = absurd (cc (is, so))
  stops_for (p ∷ ps) old new (run ∷ runs) d s (inl (between, status, Err t, over, later, so)) is = stops_for ps between new runs (Err t) s later (let same : t ≡ s = cc (is, so) in ap (λ (x : Stop). Err x) same)
  stops_for (p ∷ ps) old new (run ∷ runs) d s (inr (none, so, over)) is = inl (cc (is, so))

  never : (ps : List PolicyAt) (old new : DepotAt) (runs : List PolicyRun) (d : Result Text Stop) (s : Stop) → AreRuns r table batch ps old new runs d → s ≢ stop.Memory → ((piece : ℕ) → s ≢ stop.NotStored piece) → d ≢ Err s
  unfolding StopsRun
  never ps old new runs d s are memory piece is = elim (stops_for ps old new runs d s are is) [
    | inl so ↦ memory so
    | inr so ↦ piece so.0 so.1
  ]

-- ---- the whole

-- over texts that were read, the runs decide
pub runs_decide : (r : Request) (shelf : OverShelf) (ps : List PolicyAt) (old new : DepotAt) (runs : List PolicyRun) (d : Result Text Stop) (i : Inputs) (texts : ReadTexts)
    → IsReadAndKept r shelf.held shelf.before shelf.now (Ok (i, texts)) → AreRuns r (Some texts.table) (Some texts.batch) ps old new runs d → Compares r shelf ps old new runs d
runs_decide r shelf ps old new runs d i texts read are =
    let kept = read.ends.1.1 in
    let them : AreRuns r read.table read.batch ps old new runs d = rw (kept.table_is, kept.batch_is) are in
    record {
      table = read.table;
      batch = read.batch;
      table_is = read.table_is;
      batch_is = read.batch_is;
      comes = inl (read.ends.0, them);
      table_fault = λ e. absurd (never r read.table read.batch ps old new runs d stop.TableFault them (λ h. cc h) (λ p h. cc h) e);
      batch_fault = λ e. absurd (never r read.table read.batch ps old new runs d stop.BatchFault them (λ h. cc h) (λ p h. cc h) e);
      no_usage = never r read.table read.batch ps old new runs d stop.Usage them (λ h. cc h) (λ p h. cc h);
    }

err_same : {T U : Type 0} (e s : Stop) → ◌≡◌ {A = Result T Stop} (Err e) (Err s) → ◌≡◌ {A = Result U Stop} (Err e) (Err s)
err_same e s h = let q : e ≡ s = cc h in ap (λ (x : Stop). Err x) q

-- where the texts weren't read, or stop the work, nothing runs
pub stops_decide : (r : Request) (shelf : OverShelf) (ps : List PolicyAt) (old : DepotAt) (s : Stop) → IsReadAndKept r shelf.held shelf.before shelf.now (Err s)
    → (◌≡◌ {A = Result (Inputs × ReadTexts) Stop} (Err s) (Err stop.TableFault) → SourceFails shelf.held (table_source r.table) shelf.before shelf.now)
    → (◌≡◌ {A = Result (Inputs × ReadTexts) Stop} (Err s) (Err stop.BatchFault) → SourceFails shelf.held (batch_source r.batch) shelf.before shelf.now)
    → ◌≢◌ {A = Result (Inputs × ReadTexts) Stop} (Err s) (Err stop.Usage) → Compares r shelf ps old old [] (Err s)
stops_decide r shelf ps old s read table batch usage = record {
  table = read.table;
  batch = read.batch;
  table_is = read.table_is;
  batch_is = read.batch_is;
  comes = inr (record { stops = read.ends; depot = refl; none = refl });
  table_fault = λ e. table (err_same s stop.TableFault e);
  batch_fault = λ e. batch (err_same s stop.BatchFault e);
  no_usage = λ e. usage (err_same s stop.Usage e);
}

-- where there is a policy
pub some_compared : (r : Request) (shelf : OverShelf) (ps : List PolicyAt) (old new : DepotAt) (runs : List PolicyRun) (d : Result Text Stop) → ps ≢ [] → Compares r shelf ps old new runs d → IsCompared r shelf ps old new runs d
some_compared r shelf [] old new runs d some is = absurd (some refl)
some_compared r shelf (p ∷ ps) old new runs d some is = is

-- where there is none
pub none_compared : (r : Request) (shelf : OverShelf) (ps : List PolicyAt) (old : DepotAt) → ps ≡ [] → shelf.now ≡ shelf.before → IsCompared r shelf ps old old [] (Ok (0, []))
none_compared r shelf [] old none unread = record { unread = unread; depot = refl; none = refl; writes = refl }
none_compared r shelf (p ∷ ps) old none unread = absurd (cc none)

-- ---- what follows

nothing_tells : (old new : DepotAt) (runs : List PolicyRun) → new ≡ old → runs ≡ [] → Tells old new (past (joined_story runs))
nothing_tells old new runs same none = rw (same, none) (record { licensed = omega arith; gets = omega arith })

compares_tells : (r : Request) (shelf : OverShelf) (ps : List PolicyAt) (old new : DepotAt) (runs : List PolicyRun) (d : Result Text Stop) → Compares r shelf ps old new runs d → Tells old new (past (joined_story runs))
compares_tells r shelf ps old new runs d is = elim is.comes [
  | inl ran ↦ runs_tell r is.table is.batch ps old new runs d ran.1
  | inr ended ↦ nothing_tells old new runs ended.depot ended.none
]

pub compared_tells : (r : Request) (shelf : OverShelf) (ps : List PolicyAt) (old new : DepotAt) (runs : List PolicyRun) (d : Result Text Stop) → IsCompared r shelf ps old new runs d → Tells old new (past (joined_story runs))
compared_tells r shelf [] old new runs d is = nothing_tells old new runs is.depot is.none
compared_tells r shelf (p ∷ ps) old new runs d is = compares_tells r shelf (p ∷ ps) old new runs d is

pub compared_writes : (r : Request) (shelf : OverShelf) (ps : List PolicyAt) (old new : DepotAt) (runs : List PolicyRun) (o : Text) → IsCompared r shelf ps old new runs (Ok o) → o.1 ≡ lines_of runs
compared_writes r shelf [] old new runs o is = let same : o ≡ (0, []) = cc is.writes in ap (λ (t : Text). t.1) same ∙ sym (ap lines_of is.none)
compared_writes r shelf (p ∷ ps) old new runs o is = elim is.comes [
  | inl ran ↦ runs_write r is.table is.batch (p ∷ ps) old new runs o ran.1
  | inr ended ↦ absurd ended.stops
]

pub lines_are : (r : Request) (shelf : OverShelf) (ps : List PolicyAt) (old new : DepotAt) (runs : List PolicyRun) (ending : Result Output Stop) → IsCompared r shelf ps old new runs (shown ending) → IfOk ending (λ o. o.text ≡ lines_of runs)
lines_are r shelf ps old new runs (Ok o) is = compared_writes r shelf ps old new runs (o.status, o.text) is
lines_are r shelf ps old new runs (Err s) is = tt

-- ---- how many policies there are

pub none_long : {A : Type 0} (xs : List A) (n : ℕ) → n ≡ length xs → (n == 0) ≡ true → xs ≡ []
none_long [] n long none = refl
none_long (x ∷ xs) n long none = absurd (omega (arith, long, zero_is n none)) where
  zero_is : (n : ℕ) → (n == 0) ≡ true → n ≡ 0
  zero_is n e = grind (arith, nat_tests, e)

pub some_long : {A : Type 0} (f : A → PolicyAt) (xs : List A) (n : ℕ) → n ≡ length xs → (n == 0) ≡ false → map f xs ≢ []
some_long f [] n long some e = let zero : (n == 0) ≡ true = ap (λ k. k == 0) long in cc (some, zero)
some_long f (x ∷ xs) n long some e = cc e
