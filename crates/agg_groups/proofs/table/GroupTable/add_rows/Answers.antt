use Rattle.std.proofs.Common.{◌≡◌, ◌∙◌, ap, length, subst, sym, List}
use Rattle.std.specs.Prelude.{Vec}
use Rattle.std.specs.Global.{Global}
use Rattle.std.specs.Vec.{with_items}
use Rattle.std.proofs.lemmas.List.{with_items_is}
use Rattle.table_core.specs.Lists.{lists}
use Rattle.agg_groups.specs.declared.running.Running.{Running}
use Rattle.agg_groups.specs.Table.{AddsRows, Placed}
use Rattle.agg_groups.proofs.table.GroupTable.add_rows.Goals as goal

pub returns-clause-added : goal.returns-clause-added
returns-clause-added c =
    let v = c.self.inside.values in
    let new = c.step_all.new.values in
    let Adds : List (List Running) → List (List Running) → Type 0 = λ old these. AddsRows c.args.items.now c.args.block.now c.args.word c.args.places.now old these in
    let l : length new ≡ v.len = c.step_all.ensures.len ∙ ap length c.deref_mut.ensures.value ∙ sym v.ok.0 in
    let added = subst (λ (us : List (Vec Running Global)). Adds (lists us) (lists new)) c.deref_mut.ensures.value c.step_all.ensures.added in
    let back = subst (λ (us : List (Vec Running Global)). Adds (lists v.items) (lists us)) (sym (with_items_is v new l)) added in
    subst (λ (t : Placed). Adds t.values (lists (with_items v new).items)) c.self.view_is back
