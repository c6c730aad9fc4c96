use Rattle.std.proofs.Common.{◌≡◌, ◌∙◌, ◌+◌, ◌++◌, ◌∷◌, [], sym, ap, subst, length, length-append, ℕ, List, arith}
use Rattle.std.specs.Prelude.{Some, if◌then◌else◌}
use Rattle.table_core.specs.Lists.{lists}
use Rattle.agg_groups.specs.Table.{plain_places, place_at, AreBelow}
use Rattle.agg_groups.proofs.Order.{same_key}
use Rattle.table_core.proofs.Lists.{length-lists, lists-push}
use Rattle.agg_groups.proofs.Places.{Entry, inserted, rising, below_insert, inserted_apart}
use Rattle.agg_groups.proofs.table.put_start.Goals as goal

-- what the insertion leaves at each key
pub returns-clause-ok : goal.returns-clause-ok
returns-clause-ok c =
    let vs = c.args.values.now in
    record {
      is_last = c.len-place.ensures ∙ vs.ok.0 ∙ sym (length-lists vs.items);
      starts = ap lists c.in_ok-push.ensures.items ∙ lists-push vs.items c.in_ok-start.start ∙ ap (λ s. lists vs.items ++ s ∷ []) c.in_ok-start.ensures;
      placed = λ q. ap (λ m. place_at (plain_places m) q) c.in-Ok.ensures.entries ∙ inserted _ c.cell_order.ensures c.args.places.now.entries c.in_ok-key.key c.len-place.result q
          ∙ ap (λ k. if same_key q k then Some c.len-place.result else place_at (plain_places c.args.places.now.entries) q) c.in_ok-key.ensures.items;
    }

pub returns-clause-placed : goal.returns-clause-placed
returns-clause-placed c =
    let vs = c.args.values.now in
    let es = c.args.places.now.entries in
    let n : c.len-place.result ≡ length (lists vs.items) = c.len-place.ensures ∙ vs.ok.0 ∙ sym (length-lists vs.items) in
    let k = c.in_ok-key.key in
    let i = c.len-place.result in
    let B : ℕ → Type 0 = λ m. AreBelow m (plain_places es) in
    let C : List Entry → Type 0 = λ fs. AreBelow (i + 1) (plain_places fs) in
    let D : ℕ → Type 0 = λ m. AreBelow m (plain_places c.insert.new.self.entries) in
    let b = subst B (sym n) c.requires.placed.below in
    let more : i + 1 ≡ length (lists c.push.new.self.items) =
    omega (arith, n, ap length (ap lists c.in_ok-push.ensures.items ∙ lists-push vs.items c.in_ok-start.start), length-append (lists vs.items) (c.in_ok-start.start.items ∷ [])) in
    record {
      rising = rising _ c.cell_order.ensures c.insert.new.self.entries c.insert.ensures.ordered;
      below = subst D more (subst C (sym c.in-Ok.ensures.entries) (below_insert _ i es k b));
      apart = inserted_apart (plain_places es) (plain_places c.insert.new.self.entries) k.items i b
          (λ q. ap (λ m. place_at (plain_places m) q) c.in-Ok.ensures.entries ∙ inserted _ c.cell_order.ensures es k i q) c.requires.placed.apart;
    }
