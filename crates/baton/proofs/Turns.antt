-- Turns of a worker, one after the other.
use Rattle.std.proofs.Common.{◌≡◌, false, List, [], ◌++◌, refl, sym, ap, ◌∙◌, append_assoc}
use Rattle.std.proofs.lemmas.List.{append-nil}
use Rattle.scan_story.specs.declared.entry.Entry.{Entry}
use Rattle.scan_story.proofs.Growing.{starts_self, starts_trans}
use Rattle.baton.specs.Passes.{PassView, Went}

pub went_nowhere : (p : PassView) → p.holding ≡ false → Went p p []
went_nowhere p free = record { baton = refl; number = refl; origin = refl; free = free; seen = starts_self p.seen; mine = sym (append-nil p.mine) }

pub went_on : (p q r : PassView) (added more : List Entry) → Went p q added → Went q r more → Went p r (added ++ more)
went_on p q r added more a b = record {
  baton = b.baton ∙ a.baton;
  number = b.number ∙ a.number;
  origin = b.origin ∙ a.origin;
  free = b.free;
  seen = starts_trans r.seen q.seen p.seen b.seen a.seen;
  mine = b.mine ∙ (ap (λ (l : List Entry). l ++ more) a.mine ∙ append_assoc p.mine added more);
}
