-- Passes that are taken over from the end of their list.
use Rattle.std.proofs.Common.{◌≡◌, List, [], ◌∷◌, ◌++◌, All}
use Rattle.std.specs.Prelude.{Some}
use Rattle.std.proofs.lemmas.List.Elements.{All-same, All-push, All-pop}
use Rattle.atomic_table.specs.Seated.{TableId}
use Rattle.scan_story.specs.declared.entry.Entry.{Entry}
use Rattle.scan_story.specs.declared.origin.Start.{Start}
use Rattle.baton.specs.Passes.{PassView, AgreesWith, IsFree}

pub agrees_pop : (o : Start) (s : List Entry) (xs ys : List PassView) (x : PassView) → xs ≡ ys ++ x ∷ [] → AgreesWith o s x → All (AgreesWith o s) ys → All (AgreesWith o s) xs
agrees_pop o s xs ys x is here rest = All-same (AgreesWith o s) xs (ys ++ x ∷ []) is (All-push (AgreesWith o s) ys x rest here)

pub free_pop : (id : TableId) (xs ys : List PassView) (x : PassView) → xs ≡ ys ++ x ∷ [] → All (IsFree id) xs → All (IsFree id) ys × IsFree id x
free_pop id xs ys x is all = All-pop (IsFree id) xs ys (Some x) is all
