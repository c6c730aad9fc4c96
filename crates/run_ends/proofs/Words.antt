-- Words that are refused, and out of memory for them.
use Rattle.std.proofs.Common.{◌≡◌, Option, Some, None, Err, refl, ap, inl, inr, ◌⊎◌}
use Rattle.command_words.specs.Options.{Request}
use Rattle.run_stops.specs.declared.stop.Stop.{Stop}
use Rattle.run_stops.specs.declared.stop.Stop.TheVariants as stop
use Rattle.run_inputs.specs.Sources.{batch_source, table_source}
use Rattle.run_inputs.proofs.Texts.{some-text}
use Rattle.run_ends.specs.Deciding.{IsDecided, IsDecision, IsUntouched}
use Rattle.run_ends.specs.Devices.{OverShelf}
use Rattle.run_ends.specs.Work.{Work}

-- out of memory may end any run before it reads
pub memory-ends : (r : Request) (shelf : OverShelf) (w : Work) → IsUntouched w → IsDecided r shelf w (Err stop.Memory)
memory-ends r shelf w untouched =
    let (table, table_is) = some-text shelf.held (table_source r.table) in
    let (batch, batch_is) = some-text shelf.held (batch_source r.batch) in
    record {
      table = table;
      batch = batch;
      table_is = table_is;
      batch_is = batch_is;
      comes = inr (inr (inl refl), untouched);
      table_fault = λ e. cc e;
      batch_fault = λ e. cc e;
      no_usage = λ e. cc e;
    }

pub refused-words : (asked : Option Request) (shelf : OverShelf) (w : Work) (s : Stop) → (s ≡ stop.Usage) ⊎ (s ≡ stop.Memory) → (s ≡ stop.Usage → asked ≡ None) → IsUntouched w → IsDecision asked shelf w (Err s)
refused-words None shelf w s (inl usage) none untouched = (inl (ap (λ (x : Stop). Err x) usage), untouched)
refused-words None shelf w s (inr memory) none untouched = (inr (ap (λ (x : Stop). Err x) memory), untouched)
refused-words (Some r) shelf w s (inl usage) none untouched = cc (none usage)
refused-words (Some r) shelf w s (inr memory) none untouched = rw memory (memory-ends r shelf w untouched)
