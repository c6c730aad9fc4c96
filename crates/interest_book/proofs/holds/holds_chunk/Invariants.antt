use Rattle.std.proofs.Common.{◌≡◌, get_or, None}
use Rattle.scan_story.specs.Counting.{any_below}
use Rattle.scan_story.specs.Views.{is_hold_of}
use Rattle.interest_book.proofs.holds.holds_chunk.Given as goal

abbrev pub invariant-loop-w : goal.invariant-loop-w
invariant-loop-w l = l.found ≡ any_below (λ w. is_hold_of l.c (get_or l.holds w None)) l.w
