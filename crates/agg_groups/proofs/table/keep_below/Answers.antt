use Rattle.std.proofs.Common.{◌∙◌, ap, rules, nat_lt}
use Rattle.std.proofs.lemmas.Map.Made.{filter_same_pairs}
use Rattle.agg_groups.specs.Table.{plain_places}
use Rattle.agg_groups.proofs.Places.{Entry, plain_first}
use Rattle.agg_groups.proofs.table.keep_below.Goals as goal

pub returns : goal.returns
returns c =
    ap plain_places (filter_same_pairs _ (λ (e : Entry). nat_lt e.1 c.args.count) _ (λ k v b w f' t. search rules) c.args.places.now.entries _ c.retain.ensures.filtered)
    ∙ plain_first c.args.count c.args.places.now.entries
