use Rattle.std.proofs.Common.{◌≡◌, ◌∙◌, true, sym, subst, arith, []}
use Rattle.std.proofs.lemmas.List.Elements.{All-nil, All-cons}
use Rattle.filter_zones.specs.declared.truth_set.TruthSet.{TruthSet}
use Rattle.filter_zones.specs.declared.zone.ChunkZones.{ChunkZones}
use Rattle.filter_zones.specs.Truth.{truth_of}
use Rattle.filter_zones.specs.Possible.{FitsZones, has}
use Rattle.filter_zones.proofs.Law.{truth_in}
use Rattle.filter_zones.proofs.possible.may_be.Goals as goal

pub truths_in_each-requires-clause-fits : goal.truths_in_each-requires-clause-fits
truths_in_each-requires-clause-fits c =
    let fits = λ (chunk : ChunkZones). FitsZones c.args.cond.now chunk.zones in
    All-cons fits c.args.zones.now [] c.requires (All-nil fits)

pub returns-clause-truths : goal.returns-clause-truths
returns-clause-truths c = c.at.ensures ∙ c.truths_in_each.ensures 0 (omega arith)

pub returns-clause-each_row : goal.returns-clause-each_row
returns-clause-each_row c = λ row fits covers.
    let Holds = λ (s : TruthSet). has s (truth_of c.args.cond.now row) ≡ true in
    subst Holds (sym (c.at.ensures ∙ c.truths_in_each.ensures 0 (omega arith))) (truth_in c.args.cond.now c.args.zones.now.zones row fits c.requires covers)
