-- A desk stays sound when an entry is written.
use Rattle.std.proofs.Common.{◌≡◌, ◌∷◌, ◌++◌, [], ℕ, List, Option, sym, ◌∙◌, ap, subst}
use Rattle.scan_story.specs.declared.entry.Entry.{Entry}
use Rattle.scan_story.specs.declared.origin.Start.{Start}
use Rattle.scan_story.specs.declared.setting.PolicyName.{PolicyName}
use Rattle.scan_story.specs.Kept.{Kept}
use Rattle.scan_story.specs.Views.{History, past}
use Rattle.scan_story.specs.Loads.{underway}
use Rattle.scan_story.specs.Legal.{cursor_at}
use Rattle.interest_book.specs.declared.book.Book.{Book}
use Rattle.abm_policy.specs.Depots.{DepotView, HasDepot}
use Rattle.abm_policy.specs.Sound.{IsSound, IsWritten}
use Rattle.abm_policy.proofs.Stories.{past_push}

pub stays_sound : (o : Start) (name name' : PolicyName) (cursor cursor' : List ℕ) (b b' : Book) (k k' : Kept) (d d' : Option DepotView) (e : Entry)
    → IsSound o name cursor b k d → IsWritten o.setting b' k' → k'.entries ≡ k.entries ++ e ∷ [] → name' ≡ name → cursor' ≡ cursor_at o.setting (e ∷ past k.entries)
    → HasDepot o (e ∷ past k.entries) (underway o.setting (e ∷ past k.entries)) d' → IsSound o name' cursor' b' k' d'
stays_sound o name name' cursor cursor' b b' k k' d d' e is written added named at depot =
    let now : past k'.entries ≡ e ∷ past k.entries = ap past added ∙ past_push k.entries e in
    let H : History → Type 0 = λ h. HasDepot o h (underway o.setting h) d' in
    record {
      start = is.start;
      written = written;
      named = named ∙ is.named;
      at_cursor = at ∙ ap (cursor_at o.setting) (sym now);
      depot = subst H (sym now) depot;
    }
