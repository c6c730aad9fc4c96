use Rattle.std.proofs.Common.{◌≡◌, ◌≤◌, ◌+◌, ◌*◌, is_some}
use Rattle.scan_story.specs.Counting.{count_below}
use Rattle.chunk_interest.specs.Frames.{place_at}
use Rattle.chunk_interest.proofs.buffer.Buffer.cached.Given as goal

abbrev pub invariant-loop-g : goal.invariant-loop-g
invariant-loop-g l = record {
  value : l.count ≡ count_below (λ g. is_some (place_at l.self.places.items (l.chunk * l.self.groups + g))) l.g;
  fits : l.count ≤ l.g;
}
