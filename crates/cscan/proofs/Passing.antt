-- A pass over a turn: what its worker knows before and after.
use Rattle.std.proofs.Common.{◌≡◌, ℕ, List, sym, ap, ◌∙◌}
use Rattle.atomic_table.specs.Seated.{TableId}
use Rattle.scan_story.specs.declared.entry.Entry.{Entry}
use Rattle.scan_story.specs.declared.origin.Start.{Start}
use Rattle.scan_story.specs.Legal.{Legal}
use Rattle.scan_story.specs.Makers.{entries_by, StartsWith}
use Rattle.scan_story.specs.Views.{past}
use Rattle.abm_policy.specs.Waiting.{WentOn}
use Rattle.baton.specs.Passes.{PassView}
use Rattle.cscan.specs.Stations.{Waits}
use Rattle.cscan.proofs.Stories.{given, taken}

-- the story as the state has it went on from what the pass had seen
pub went_on_since : (id : TableId) (o : Start) (w : ℕ) (p : PassView) (story : List Entry) → Waits id o w p → Legal o.setting (past story) → StartsWith story p.seen → entries_by p.number story ≡ p.mine
    → WentOn o.setting w p.seen story
went_on_since id o w p story waits legal begins mine = record {
  legal = legal;
  begins = begins;
  own = ap (λ (n : ℕ). entries_by n story) (sym waits.1) ∙ (mine ∙ sym waits.4);
}

-- after the turn it waits again
pub waits_again : (id : TableId) (o : Start) (w : ℕ) (p q r : PassView) (before after : List Entry) → Waits id o w p → q ≡ taken p before → r ≡ given q after → Waits id o w r
waits_again id o w p q r before after waits takes gives =
    let number = ap (λ (x : PassView). x.number) takes ∙ waits.1 in (
      ap (λ (x : PassView). x.baton) gives ∙ (ap (λ (x : PassView). x.baton) takes ∙ waits.0),
      ap (λ (x : PassView). x.number) gives ∙ number,
      ap (λ (x : PassView). x.origin) gives ∙ (ap (λ (x : PassView). x.origin) takes ∙ waits.2),
      ap (λ (x : PassView). x.holding) gives,
      ap (λ (x : PassView). entries_by w x.seen) gives ∙ (ap (λ (n : ℕ). entries_by n after) (sym number) ∙ sym (ap (λ (x : PassView). x.mine) gives)),
    )
