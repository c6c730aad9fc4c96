use Rattle.std.proofs.Common.{◌≡◌, ◌∙◌, ◌+◌, sym, ap, subst, List, length, length-append, arith}
use Rattle.table_core.specs.declared.cell.Cell.{Cell}
use Rattle.query_meaning.specs.declared.item.Item.{Item}
use Rattle.agg_groups.specs.Groups.{Kept, Stands, groups_of}
use Rattle.agg_groups.specs.Table.{AreSound, at, merged, seen}
use Rattle.agg_groups.proofs.Grown.{ready_on}
use Rattle.agg_groups.proofs.Stands.{groups_joined}
use Rattle.agg_groups.proofs.groups.Groups.merge.Goals as goal

pub returns-in-Ok-clause-ok : goal.returns-in-Ok-clause-ok
returns-in-Ok-clause-ok c = λ rows more s t.
    let g = c.self.inside in
    let o = c.other.inside in
    let items = g.items.items in
    let keys = g.keys.items in
    let new = c.absorb.new.self in
    let S : Kept → Type 0 = λ k. Stands k rows in
    let T : Kept → Type 0 = λ k. Stands k more in
    let first = subst S (sym c.self.view_is) s in
    let second = subst T (sym c.other.view_is) t in
    let same_items : o.items.items ≡ items = ap (λ (k : Kept). k.items) c.other.view_is ∙ c.requires.items ∙ sym (ap (λ (k : Kept). k.items) c.self.view_is) in
    let same_keys : o.keys.items ≡ keys = ap (λ (k : Kept). k.keys) c.other.view_is ∙ c.requires.keys ∙ sym (ap (λ (k : Kept). k.keys) c.self.view_is) in
    let J : List Item → Type 0 = λ is. (q : List Cell) → at (seen new) q ≡ merged is (at (seen g.table) q) (at (seen o.table) q) in
    record {
      count = ap (λ n. n + o.rows) first.count ∙ ap (λ n. length rows + n) second.count ∙ sym (length-append rows more);
      groups = groups_joined items keys g.table o.table new c.absorb.ensures.placed (subst J c.deref.ensures.value c.in-Ok.ensures.joined) rows more first.groups
          (second.groups ∙ ap (λ is. groups_of is o.keys.items more) same_items ∙ ap (λ ks. groups_of items ks more) same_keys);
    }

pub invariant_of-self : goal.invariant_of-self
invariant_of-self c =
    let n = c.self.inside.rows + c.other.inside.rows in
    let before = c.self.invariant in
    let new = c.absorb.new.self in
    let last = c.self.inside.last in
    record {
      few = omega (arith, c.requires.few, ap (λ (k : Kept). k.rows) c.self.view_is, ap (λ (k : Kept). k.rows) c.other.view_is);
      short = before.short;
      ready = ready_on (length c.self.inside.keys.items) last.key.items last.place last.met.items c.self.inside.table new c.absorb.ensures.placed c.absorb.ensures.kept before.ready;
      sound = subst (λ (is : List Item). AreSound n (length is) new.values) c.deref.ensures.value c.in-Ok.ensures.sound;
    }

pub invariant_of-self-in-Err : goal.invariant_of-self-in-Err
invariant_of-self-in-Err c =
    let before = c.self.invariant in
    let new = c.absorb.new.self in
    let last = c.self.inside.last in
    record {
      few = before.few;
      short = before.short;
      ready = ready_on (length c.self.inside.keys.items) last.key.items last.place last.met.items c.self.inside.table new c.absorb.ensures.placed c.absorb.ensures.kept before.ready;
      sound = subst (λ (is : List Item). AreSound c.self.inside.rows (length is) new.values) c.deref.ensures.value c.in-Err.ensures.err_sound;
    }
