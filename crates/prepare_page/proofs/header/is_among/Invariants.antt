use Rattle.std.proofs.Common.{◌≡◌, drop}
use Rattle.prepare_page.specs.Headers.{is_among}
use Rattle.prepare_page.proofs.header.is_among.Given as goal

abbrev pub invariant-loop-i : goal.invariant-loop-i
invariant-loop-i l = is_among l.kind l.kinds ≡ is_among l.kind (drop l.i l.kinds)
