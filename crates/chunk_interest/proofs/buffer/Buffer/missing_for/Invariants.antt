use Rattle.std.proofs.Common.{◌≡◌, ◌≤◌, ◌+◌, ◌*◌, ◌&&◌, not, is_some}
use Rattle.scan_story.specs.Counting.{has, count_below}
use Rattle.chunk_interest.specs.Frames.{place_at}
use Rattle.chunk_interest.proofs.buffer.Buffer.missing_for.Given as goal

abbrev pub invariant-loop-g : goal.invariant-loop-g
invariant-loop-g l = record {
  value : l.count ≡ count_below (λ g. has l.reads g && not (is_some (place_at l.self.places.items (l.chunk * l.self.groups + g)))) l.g;
  fits : l.count ≤ l.g;
}
