-- New values written over those at a place.
use Rattle.std.proofs.Common.{◌≡◌, ◌<◌, ◌∙◌, ℕ, List, length, get_or, set, sym, ap}
use Rattle.std.specs.Prelude.{Vec}
use Rattle.std.specs.Global.{Global}
use Rattle.std.specs.Vec.{with_items}
use Rattle.std.proofs.lemmas.List.{with_items_is, map-set}
use Rattle.table_core.specs.Lists.{lists}
use Rattle.table_core.proofs.Lists.{lists_at}
use Rattle.agg_groups.specs.declared.running.Running.{Running}
use Rattle.agg_groups.specs.Table.{values_at}

pub set_items : (vs : List (Vec Running Global)) (place : ℕ) (d : Vec Running Global) (now new : List Running) (f : List Running → List Running) → place < length vs
    → now ≡ (get_or vs place d).items → length new ≡ length now → new ≡ f now → lists (set vs place (with_items (get_or vs place d) new)) ≡ set (lists vs) place (f (values_at (lists vs) place))
set_items vs place d now new f low is long by =
    let v = get_or vs place d in
    map-set (λ (v : Vec Running Global). v.items) vs place (with_items v new)
    ∙ ap (set (lists vs) place) (with_items_is v new (long ∙ ap length is ∙ sym v.ok.0) ∙ by ∙ ap f (is ∙ sym (lists_at vs place d low)))
