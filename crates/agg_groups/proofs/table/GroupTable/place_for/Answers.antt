use Rattle.std.proofs.Common.{◌∙◌, sym}
use Rattle.std.proofs.lemmas.Result.{on_err_weaker}
use Rattle.agg_groups.proofs.Places.{unplaced}
use Rattle.agg_groups.proofs.table.GroupTable.place_for.Goals as goal

pub returns-in-None-clause-unknown : goal.returns-in-None-clause-unknown
returns-in-None-clause-unknown c =
    let none = unplaced c.args.self.now.places c.args.key.now (sym c.known.ensures ∙ c.in-None.is) in
    on_err_weaker c.put_start.result (λ _. none) c.put_start.ensures.err_places
