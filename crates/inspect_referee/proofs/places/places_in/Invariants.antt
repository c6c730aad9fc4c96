use Rattle.std.proofs.Common.{◌≡◌, ◌<◌, ◌≤◌, ℕ, length, drop, get_or}
use Rattle.scan_story.specs.Policies.{place_in}
use Rattle.inspect_referee.proofs.Placing.{shifted}
use Rattle.inspect_referee.proofs.places.places_in.Given as goal

abbrev pub invariant-loop-left : goal.invariant-loop-left
invariant-loop-left l = (l.left ≤ length l.list) × ((c : ℕ) → c < 1024 → get_or l.places c 0 ≡ shifted l.left (place_in (drop l.left l.list) c))

abbrev pub decreases-loop-left : goal.decreases-loop-left
decreases-loop-left l = l.left
