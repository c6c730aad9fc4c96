use Rattle.std.proofs.Common.{◌≡◌, ◌<◌, ◌&&◌, not, ℕ, get_or, None}
use Rattle.scan_story.specs.Counting.{any_below, has}
use Rattle.scan_story.specs.Views.{is_hold_of}
use Rattle.interest_book.proofs.holds.unheld.Given as goal

abbrev pub invariant-loop-w : goal.invariant-loop-w
invariant-loop-w l = (c : ℕ) → c < 1024 → has l.left c ≡ (has l.chunks c && not (any_below (λ w. is_hold_of c (get_or l.holds w None)) l.w))
