use Rattle.std.proofs.Common.{refl, subst, List, ℕ}
use Rattle.query_meaning.specs.declared.item.Item.{Item}
use Rattle.agg_groups.specs.Table.{IsFirst}
use Rattle.agg_groups.proofs.Stands.{groups_first}
use Rattle.agg_groups.proofs.groups.Groups.new.Goals as goal

pub returns-clause-stands : goal.returns-clause-stands
returns-clause-stands c =
    let I : List Item → Type 0 = λ is. IsFirst is c.deref-2.result.now c.in_ok-table.table in
    let K : List ℕ → Type 0 = λ ks. IsFirst c.args.items.items ks c.in_ok-table.table in
    record {
      count = refl;
      groups = groups_first c.args.items.items c.args.keys.items c.in_ok-table.table c.in_ok-table.ensures.ready.placed (subst K c.deref-2.ensures.value (subst I c.deref.ensures.value c.in_ok-table.ensures.first));
    }
