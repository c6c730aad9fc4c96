-- The queries of a worker, in the order of the batch.
use Rattle.std.proofs.Common.{◌≡◌, ◌∙◌, ◌==◌, ◌∷◌, [], ℕ, Bool, true, false, List, append-nil, refl, sym, ap}
use Rattle.std.specs.Prelude.{filter, if◌then◌else◌, map}
use Rattle.filter_zones.specs.declared.zone.ChunkZones.{ChunkZones}
use Rattle.chunk_interest.specs.Fresh.{as_need}
use Rattle.scan_story.specs.Makers.{entries_by}
use Rattle.scan_story.specs.declared.entry.Entry.{Entry}
use Rattle.scan_story.specs.declared.setting.Need.{Need}
use Rattle.scan_story.specs.declared.setting.PolicyName.{PolicyName}
use Rattle.batch_plan.specs.Scans.{Scan, need_of}
use Rattle.batch_ends.specs.Registering.{RegistersInOrder, numbers_on, registered}
use Rattle.run_inputs.specs.declared.inputs.Inputs.{Inputs}
use Rattle.run_ends.specs.Running.{scans_in, zones_in}
use Rattle.inspect_verdict.specs.Told.{run_setting}
use Rattle.inspect_verdict.specs.Words.{LeavesDue, due_among, due_on}

due_are : (zones : List ChunkZones) (parts w : ℕ) (ks : List Scan) → due_among (map as_need (map (need_of zones parts) ks)) w ≡ numbers_on w ks
due_are zones parts w [] = refl
due_are zones parts w (k ∷ ks) = by_worker (k.worker == w) (due_are zones parts w ks)
  where
    by_worker : (b : Bool) → due_among (map as_need (map (need_of zones parts) ks)) w ≡ numbers_on w ks
        → map (λ (n : Need). n.query) (if b then as_need (need_of zones parts k) ∷ filter (λ (n : Need). n.worker == w) (map as_need (map (need_of zones parts) ks)) else filter (λ (n : Need). n.worker == w) (map as_need (map (need_of zones parts) ks)))
        ≡ map (λ (j : Scan). j.number) (if b then k ∷ filter (λ (j : Scan). j.worker == w) ks else filter (λ (j : Scan). j.worker == w) ks)
    by_worker true again = ap (λ (l : List ℕ). k.number ∷ l) again
    by_worker false again = again

-- the needs of a worker are those of its scans, in their order
pub due_in : (i : Inputs) (name : PolicyName) (w : ℕ) → due_on (run_setting i name) w ≡ numbers_on w (scans_in i)
due_in i name w = due_are (zones_in i) i.options.parts w (scans_in i)

pub all_due : (i : Inputs) (name : PolicyName) (w : ℕ) (es : List Entry) → RegistersInOrder es (scans_in i) w → LeavesDue es w (due_on (run_setting i name) w) []
all_due i name w es in_turn = due_in i name w ∙ (sym in_turn ∙ sym (append-nil (registered (entries_by w es))))

pub in_turn : (i : Inputs) (name : PolicyName) (w : ℕ) (es : List Entry) → LeavesDue es w (due_on (run_setting i name) w) [] → RegistersInOrder es (scans_in i) w
in_turn i name w es all = sym (append-nil (registered (entries_by w es))) ∙ (sym all ∙ due_in i name w)
