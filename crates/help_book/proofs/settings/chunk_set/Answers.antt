use Rattle.std.proofs.Common.{◌∙◌, ◌||◌, ℕ, List, ap, sym, subst}
use Rattle.scan_story.specs.Counting.{has}
use Rattle.table_sets.specs.Sets.{Rising}
use Rattle.help_book.proofs.Listed.{same_members, or_false}
use Rattle.help_book.proofs.settings.chunk_set.Goals as goal

pub returns-clause-same : goal.returns-clause-same
returns-clause-same c =
    let over = c.in-None.ensures.steps.0 in
    let l = c.loop-chunk in
    same_members 0 1024 c.args.end l.set c.args.chunks.now c.len-size.ensures.members
    (l.invariant.rising (subst (λ (xs : List ℕ). Rising l.next xs c.args.end) (sym over) l.invariant.within))
    (λ x. sym (or_false (has l.set x)) ∙ (ap (λ (xs : List ℕ). has l.set x || has xs x) (sym over) ∙ l.invariant.same x))
