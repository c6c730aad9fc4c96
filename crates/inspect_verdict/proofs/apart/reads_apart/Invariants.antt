use Rattle.std.proofs.Common.{◌≡◌, ◌+◌, ◌*◌, ◌≤◌, drop}
use Rattle.std.specs.Prelude.{map}
use Rattle.story_laws.specs.Lists.{sum_among}
use Rattle.chunk_interest.specs.Fresh.{as_need}
use Rattle.inspect_verdict.specs.Apart as spec
use Rattle.inspect_verdict.proofs.apart.reads_apart.Given as goal

-- with the needs that are left those so far make all
abbrev pub invariant-loop-need : goal.invariant-loop-need
invariant-loop-need l = record {
  all : l.reads + sum_among (spec.pieces_of l.terms.groups) (map as_need (drop l.need-index l.terms.needs.items)) ≡ sum_among (spec.pieces_of l.terms.groups) (map as_need l.terms.needs.items);
  few : l.reads ≤ 16384 * l.need-index;
}
