use Rattle.std.proofs.Common.{arith}
use Rattle.std.proofs.lemmas.List.{length-map}
use Rattle.chunk_interest.specs.Fresh.{as_need}
use Rattle.inspect_referee.specs.Terms.{setting_of}
use Rattle.inspect_verdict.proofs.apart.reads_apart.Goals as goal

pub overflow_add-reads : goal.overflow_add-reads
overflow_add-reads c =
    let fit = (c.settings_fit_capacity.ensures (setting_of c.args.terms.now) c.requires).queries in
    omega (arith, fit, length-map c.args.terms.now.needs.items as_need, c.loop-need.invariant.few, c.pieces_of-reads.ensures.few)
