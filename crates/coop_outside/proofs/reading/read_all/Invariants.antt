use Rattle.std.proofs.Common.{◌≡◌, ◌≤◌, List, ℕ, take, vec_len, ◌+◌, ◌-◌}
use Rattle.coop_outside.specs.Held.{Holds}
use Rattle.coop_outside.proofs.reading.read_all.Given as goal

abbrev pub invariant-loop-bytes : goal.invariant-loop-bytes
invariant-loop-bytes g l = record {
  block : vec_len l.block ≡ 262144;
  within : vec_len l.bytes ≤ l.limit;
  held : g.F.Shelf.held l.shelf ≡ g.F.Shelf.held l.fn.shelf;
  later : g.F.Shelf.faults l.fn.shelf ≤ g.F.Shelf.faults l.shelf;
  given : g.F.Shelf.given l.shelf ≤ g.F.Shelf.given l.fn.shelf + vec_len l.bytes;
  so_far : (told : List ℕ) → Holds (g.F.Shelf.held l.fn.shelf) l.name told → l.bytes.items ≡ take (vec_len l.bytes) told;
}

abbrev pub decreases-loop-bytes : goal.decreases-loop-bytes
decreases-loop-bytes g l = l.limit + 1 - vec_len l.bytes
