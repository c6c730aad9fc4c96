use Rattle.std.proofs.Common.{◌∷◌, [], ◌++◌, List, take, slice_index, refl}
use Rattle.scan_story.specs.declared.entry.Entry.{Entry}
use Rattle.scan_story.specs.declared.entry.Entry.TheVariants.{Failed}
use Rattle.abm_policy.specs.Loads.{all_filled, pieces}
use Rattle.cscan.proofs.Stories.{by_append, filled_by, filled_loads, loads_append}
use Rattle.cscan.proofs.loading.settle.Goals as goal

pub returns-in-Ok-clause-settled : goal.returns-in-Ok-clause-settled
returns-in-Ok-clause-settled g c =
    let t = c.args.ticket in
    record { added = all_filled t.worker t.slots; is = c.filled.ensures.entries; by_worker = filled_by t.worker t.slots; of_loads = filled_loads t.worker t.slots }

pub returns-in-Err-clause-settled : goal.returns-in-Err-clause-settled
returns-in-Err-clause-settled g c =
    let t = c.args.ticket in
    let done = c.in-Err.field-0.done in
    let first = all_filled t.worker (take done t.slots) in
    let last : List Entry = Failed t.worker t.query (slice_index (pieces t.slots) done) c.in-Err.field-0.why ∷ [] in
    record {
      added = first ++ last;
      is = c.failed.ensures.entries;
      by_worker = by_append t.worker first last (filled_by t.worker (take done t.slots)) (refl, tt);
      of_loads = loads_append first last (filled_loads t.worker (take done t.slots)) (refl, tt);
    }
