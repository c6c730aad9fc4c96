use Rattle.std.proofs.Common.{◌∙◌, arith, sym}
use Rattle.chunk_interest.proofs.Marking.{all_free}
use Rattle.chunk_interest.proofs.frames.Frames.new.Goals as goal

pub invariant_of-result : goal.invariant_of-result
invariant_of-result c = record {
  few = omega (arith, c.in_ok-list.ensures.length, c.requires);
  free = sym (all_free c.in_ok-list.list.items c.in_ok-list.ensures.free ∙ c.in_ok-list.ensures.length);
}
