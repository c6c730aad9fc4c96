-- Stops for which a shelf that failed is the cause, or stands in place of a refusal.
use Rattle.std.proofs.Common.{◌≡◌, ◌∙◌, ℕ, List, Option, Result, Err, refl, ap, subst, inl, inr, ◌⊎◌}
use Rattle.command_words.specs.Options.{Request}
use Rattle.coop_outside.specs.Causes.{Rose}
use Rattle.run_stops.specs.Stops.{status_of}
use Rattle.run_stops.specs.declared.stop.Stop.{Stop}
use Rattle.run_stops.specs.declared.stop.Stop.TheVariants as stop
use Rattle.run_inputs.specs.Ending.{AcceptsTable, HasTable, IsReadFault, SourceFails}
use Rattle.run_inputs.specs.Order.{first_stop}
use Rattle.run_inputs.specs.Sources.{batch_source, table_source}
use Rattle.run_ends.specs.Deciding.{StopsBefore}
use Rattle.run_ends.specs.Devices.{OverShelf, OverSink}
use Rattle.run_ends.specs.Running.{Text}
use Rattle.run_ends.proofs.Stopping.{batch-behind, behind-table}
use Rattle.run_ends.specs.Ending.{FailsAtBatch, FailsAtEither, FailsAtTable, HasStatus, IsExcused, Prints}

-- what a decision says of a shelf that failed
pub record Faulty (r : Request) (shelf : OverShelf) (d : Result Text Stop) : Type 0 where
  pub table : d ≡ Err stop.TableFault → SourceFails shelf.held (table_source r.table) shelf.before shelf.now
  pub batch : d ≡ Err stop.BatchFault → SourceFails shelf.held (batch_source r.batch) shelf.before shelf.now
  pub behind : d ≡ Err stop.BatchFault → HasTable r shelf.held

prints-as : (d e : Result Text Stop) (status : ℕ) (sink : OverSink) → d ≡ e → Prints d status sink → Prints e status sink
prints-as d e status sink same prints = subst (λ (x : Result Text Stop). Prints x status sink) same prints

pub fails-at-table : (r : Request) (shelf : OverShelf) (d : Result Text Stop) (status : ℕ) (sink : OverSink) → Faulty r shelf d → Prints d status sink → d ≡ Err stop.TableFault → FailsAtTable r shelf sink status
fails-at-table r shelf d status sink faulty prints is =
    let p = prints-as d (Err stop.TableFault) status sink is prints in record { status_is = p.0; fails = faulty.table is; line = p.1 }

pub fails-at-batch : (r : Request) (shelf : OverShelf) (d : Result Text Stop) (status : ℕ) (sink : OverSink) → Faulty r shelf d → Prints d status sink → d ≡ Err stop.BatchFault → FailsAtBatch r shelf sink status
fails-at-batch r shelf d status sink faulty prints is =
    let p = prints-as d (Err stop.BatchFault) status sink is prints in record { status_is = p.0; fails = faulty.batch is; behind = faulty.behind is; line = p.1 }

pub fault-status : (r : Request) (table : Option (List ℕ)) (s : Stop) → IsReadFault r table s → status_of s ≡ 4
fault-status r table s (inl e) = ap status_of e
fault-status r table s (inr (e, accepted)) = ap status_of e

-- a fault of the batch comes behind a table that is accepted
pub stops-behind : (r : Request) (table batch : Option (List ℕ)) (shelf : OverShelf) → StopsBefore r table batch shelf (Err stop.BatchFault) → AcceptsTable r table
stops-behind r table batch shelf (inl first) = batch-behind r table batch first
stops-behind r table batch shelf (inr (inl memory)) = cc memory
stops-behind r table batch shelf (inr (inr (inl at_table, rose))) = cc at_table
stops-behind r table batch shelf (inr (inr (inr (at_batch, accepted), rose))) = accepted

-- how a run ends where there is a first stop of a status: with it, out of memory, or since the shelf failed
abbrev pub EndsFirst : Request → Option (List ℕ) → OverShelf → Result Text Stop → ℕ → ℕ → Type 0
EndsFirst r table shelf d due status = (status ≡ due) ⊎ (status ≡ 7) ⊎ ((s : Stop) × (d ≡ Err s) × IsReadFault r table s × Rose shelf.before shelf.now)

pub stops-first : (r : Request) (table batch : Option (List ℕ)) (shelf : OverShelf) (s : Stop) (status : ℕ) (sink : OverSink) (due : ℕ) → StopsBefore r table batch shelf (Err s) → Prints (Err s) status sink
    → HasStatus due (first_stop r table batch) → EndsFirst r table shelf (Err s) due status
stops-first r table batch shelf s status sink due (inl is) prints (t, first, by) = let e : s ≡ t = cc (is, first) in inl (prints.0 ∙ ap status_of e ∙ by)
stops-first r table batch shelf s status sink due (inr (inl memory)) prints h = inr (inl (prints.0 ∙ ap status_of memory))
stops-first r table batch shelf s status sink due (inr (inr (fault, rose))) prints h = inr (inr (s, refl, fault, rose))

-- ---- what excuses a refusal

-- the status of a refusal that comes before the batch is read
abbrev pub IsEarly : ℕ → Type 0
IsEarly due = (due ≡ 3) ⊎ (due ≡ 8)

-- behind a table that is accepted there is no such first stop
not-early : (r : Request) (table batch : Option (List ℕ)) (due : ℕ) → IsEarly due → AcceptsTable r table → HasStatus due (first_stop r table batch) → ⊥
not-early r table batch due early accepted (s, first, by) = go early (behind-table r table batch s accepted first)
  where
    go : IsEarly due → (status_of s ≡ 4) ⊎ (status_of s ≡ 9) → ⊥
    go (inl three) (inl four) = cc (three, four, by)
    go (inl three) (inr nine) = cc (three, nine, by)
    go (inr eight) (inl four) = cc (eight, four, by)
    go (inr eight) (inr nine) = cc (eight, nine, by)

as-stop : (d : Result Text Stop) (s t : Stop) → d ≡ Err s → s ≡ t → d ≡ Err t
as-stop d s t is same = is ∙ ap (λ (x : Stop). Err x) same

pub excused-early : (r : Request) (table batch : Option (List ℕ)) (shelf : OverShelf) (d : Result Text Stop) (status : ℕ) (sink : OverSink) (due : ℕ) → Faulty r shelf d → Prints d status sink → IsEarly due
    → HasStatus due (first_stop r table batch) → EndsFirst r table shelf d due status → (status ≡ due) ⊎ IsExcused (FailsAtTable r shelf sink status) status shelf
excused-early r table batch shelf d status sink due faulty prints early h (inl is) = inl is
excused-early r table batch shelf d status sink due faulty prints early h (inr (inl seven)) = inr (inl seven)
excused-early r table batch shelf d status sink due faulty prints early h (inr (inr (s, is, inl at_table, rose))) =
    inr (inr (rose, fails-at-table r shelf d status sink faulty prints (as-stop d s stop.TableFault is at_table)))
excused-early r table batch shelf d status sink due faulty prints early h (inr (inr (s, is, inr (at_batch, accepted), rose))) = absurd (not-early r table batch due early accepted h)

pub excused-late : (r : Request) (table : Option (List ℕ)) (shelf : OverShelf) (d : Result Text Stop) (status : ℕ) (sink : OverSink) (due : ℕ) → Faulty r shelf d → Prints d status sink
    → EndsFirst r table shelf d due status → (status ≡ due) ⊎ IsExcused (FailsAtEither r shelf sink status) status shelf
excused-late r table shelf d status sink due faulty prints (inl is) = inl is
excused-late r table shelf d status sink due faulty prints (inr (inl seven)) = inr (inl seven)
excused-late r table shelf d status sink due faulty prints (inr (inr (s, is, inl at_table, rose))) =
    inr (inr (rose, inl (fails-at-table r shelf d status sink faulty prints (as-stop d s stop.TableFault is at_table))))
excused-late r table shelf d status sink due faulty prints (inr (inr (s, is, inr (at_batch, accepted), rose))) =
    inr (inr (rose, inr (fails-at-batch r shelf d status sink faulty prints (as-stop d s stop.BatchFault is at_batch))))

-- where the first stop is a file that isn't there the run ends with 4, or out of memory with 7
pub misses : (r : Request) (table : Option (List ℕ)) (shelf : OverShelf) (d : Result Text Stop) (status : ℕ) (sink : OverSink) → Prints d status sink → EndsFirst r table shelf d 4 status → (status ≡ 4) ⊎ (status ≡ 7)
misses r table shelf d status sink prints (inl four) = inl four
misses r table shelf d status sink prints (inr (inl seven)) = inr seven
misses r table shelf d status sink prints (inr (inr (s, is, fault, rose))) = inl ((prints-as d (Err s) status sink is prints).0 ∙ fault-status r table s fault)
