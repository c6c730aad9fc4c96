use Rattle.std.proofs.Common.{ap, ◌∙◌, List, Option, get_or, None}
use Rattle.scan_story.specs.declared.view.Hold.{Hold}
use Rattle.scan_story.specs.Counting.{any_below}
use Rattle.scan_story.specs.Views.{is_hold_of}
use Rattle.interest_book.proofs.Shown.{held_is}
use Rattle.interest_book.proofs.book.Book.is_held.Goals as goal

pub returns : goal.returns
returns c = λ s h st.
    let b = c.args.self.now in
    c.holds_chunk.ensures ∙ (ap (λ (hs : List (Option Hold)). any_below (λ w. is_hold_of c.args.c (get_or hs w None)) b.workers) c.deref.ensures.value ∙ held_is b s h c.args.c st)
