-- What a run decides, from what it read and from what its batch came to.
use Rattle.std.proofs.Common.{◌≡◌, ◌≢◌, ℕ, List, [], Result, Ok, Err, refl, ap, inl, inr, ◌⊎◌}
use Rattle.command_words.specs.Options.{Request}
use Rattle.run_stops.specs.declared.stop.Stop.{Stop}
use Rattle.run_stops.specs.declared.stop.Stop.TheVariants as stop
use Rattle.scan_story.specs.declared.setting.PolicyName.{PolicyName}
use Rattle.run_inputs.specs.Ending.{IsRead, SourceFails}
use Rattle.run_inputs.specs.Sources.{batch_source, table_source}
use Rattle.run_inputs.specs.declared.inputs.Inputs.{Inputs}
use Rattle.run_ends.specs.Deciding.{ComesOf, IsDecided}
use Rattle.run_ends.specs.Devices.{DepotAt, OverShelf}
use Rattle.run_ends.specs.Running.{Text}
use Rattle.run_ends.specs.Work.{Work, work}

err-same : {T U : Type 0} (e s : Stop) → ◌≡◌ {A = Result T Stop} (Err e) (Err s) → ◌≡◌ {A = Result U Stop} (Err e) (Err s)
err-same e s h = let q : e ≡ s = cc h in ap (λ (x : Stop). Err x) q

-- a batch that runs stops for a piece or only when out of memory
comes-stop : (i : Inputs) (w : Work) (d : Result Text Stop) (s : Stop) → ComesOf i w d → d ≡ Err s → (s ≡ stop.Memory) ⊎ ((piece : ℕ) × (s ≡ stop.NotStored piece))
comes-stop i w (Ok o) s h e = cc e
comes-stop i w (Err t) s (inl memory) e = inl (cc (e, memory.stop_is))
comes-stop i w (Err t) s (inr not) e = inr (not.piece, cc (e, not.stop_is))

comes-no : (i : Inputs) (w : Work) (d : Result Text Stop) (s : Stop) → ComesOf i w d → s ≢ stop.Memory → ((piece : ℕ) → s ≢ stop.NotStored piece) → d ≢ Err s
comes-no i w d s h memory piece e = elim (comes-stop i w d s h e) [
  | inl is ↦ memory is
  | inr p ↦ piece p.0 p.1
]

-- a request whose batch runs
pub decided-runs : (r : Request) (shelf : OverShelf) (w : Work) (d : Result Text Stop) (i : Inputs) → IsRead r shelf.held shelf.before shelf.now (Ok i) → ComesOf i w d → IsDecided r shelf w d
decided-runs r shelf w d i read comes = record {
  table = read.table;
  batch = read.batch;
  table_is = read.table_is;
  batch_is = read.batch_is;
  comes = inl (record { accepted = read.ends.0; given = i; is_given = read.ends.1; comes = comes });
  table_fault = λ e. absurd (comes-no i w d stop.TableFault comes (λ h. cc h) (λ p h. cc h) e);
  batch_fault = λ e. absurd (comes-no i w d stop.BatchFault comes (λ h. cc h) (λ p h. cc h) e);
  no_usage = comes-no i w d stop.Usage comes (λ h. cc h) (λ p h. cc h);
}

-- a request that stops before
pub decided-stops : (r : Request) (shelf : OverShelf) (name : PolicyName) (cursor : List ℕ) (at : DepotAt) (s : Stop) → IsRead r shelf.held shelf.before shelf.now (Err s)
    → (◌≡◌ {A = Result Inputs Stop} (Err s) (Err stop.TableFault) → SourceFails shelf.held (table_source r.table) shelf.before shelf.now)
    → (◌≡◌ {A = Result Inputs Stop} (Err s) (Err stop.BatchFault) → SourceFails shelf.held (batch_source r.batch) shelf.before shelf.now)
    → ◌≢◌ {A = Result Inputs Stop} (Err s) (Err stop.Usage) → IsDecided r shelf (work name cursor at at [] []) (Err s)
decided-stops r shelf name cursor at s read table batch usage = record {
  table = read.table;
  batch = read.batch;
  table_is = read.table_is;
  batch_is = read.batch_is;
  comes = inr (read.ends, record { depot = refl; story = refl; taken = refl });
  table_fault = λ e. table (err-same s stop.TableFault e);
  batch_fault = λ e. batch (err-same s stop.BatchFault e);
  no_usage = λ e. usage (err-same s stop.Usage e);
}
