use Rattle.std.proofs.Common.{◌≡◌, ◌∙◌, ◌+◌, ◌++◌, [], sym, ap, subst, List, ℕ, length, length-append, set, All, arith}
use Rattle.std.specs.Prelude.{Contains, count_ones}
use Rattle.std.proofs.lemmas.List.{length-map}
use Rattle.table_core.specs.declared.cell.Cell.{Cell}
use Rattle.query_meaning.specs.declared.item.Item.{Item}
use Rattle.agg_groups.specs.declared.running.Running.{Running}
use Rattle.agg_groups.specs.Blocks.{chosen_in}
use Rattle.query_meaning.specs.Cells.{codes}
use Rattle.query_meaning.specs.Meaning.{key_of}
use Rattle.agg_groups.specs.Running.{HasRoom, joins, running_of, runnings}
use Rattle.agg_groups.specs.Groups.{Kept, IsKnown, Stands, groups_of}
use Rattle.agg_groups.specs.Table.{IsPlaceFor, IsReady, AreSound, names, values_at}
use Rattle.agg_groups.proofs.Columns.{few-chosen, ones-block}
use Rattle.agg_groups.proofs.One.{groups_one}
use Rattle.agg_groups.proofs.Grown.{ready_on, same_places}
use Rattle.agg_groups.proofs.Seen.{names-seen, placed_put, sound_place, sound_set, sound_there}
use Rattle.agg_groups.proofs.Values.{joins_len}
use Rattle.agg_groups.proofs.groups.Groups.add_to_one.Goals as goal

pub returns-clause-ok : goal.returns-clause-ok
returns-clause-ok c = λ rows s.
    let items = c.self.inside.items.items in
    let keys = c.self.inside.keys.items in
    let block = c.args.block.now in
    let word = c.args.word in
    let more = chosen_in block word in
    let old = c.self.inside.table in
    let mid = c.place_of.new.table in
    let new = c.add_chosen.new.self in
    let i = c.in_ok-place.place in
    let are = c.as_slice-items.ensures.value in
    let none : keys ≡ [] = ap (λ (g : Kept). g.keys) c.self.view_is ∙ c.requires.one in
    let H : List Item → Type 0 = λ is. IsPlaceFor is (key_of codes c.deref.result.now []) i old mid in
    let K : List ℕ → Type 0 = λ ks. IsPlaceFor items (key_of codes ks []) i old mid in
    let ok = subst K (c.deref.ensures.value ∙ none) (subst H are c.in_ok-place.ensures.ok) in
    let values = subst (λ (is : List Item). new.values ≡ set mid.values i (joins is (values_at mid.values i) (runnings is more))) are c.add_chosen.ensures.values in
    let puts = placed_put items [] i old mid new (λ vs. joins items vs (runnings items more)) c.in_ok-place.ensures.ready.placed ok c.add_chosen.ensures.places values in
    let stands = subst (λ (g : Kept). Stands g rows) (sym c.self.view_is) s in
    record {
      count = omega (arith, stands.count, c.count_of.ensures.count, ones-block block word c.requires.below, length-append rows more);
      groups = groups_one items more old new c.add_chosen.ensures.placed puts rows (stands.groups ∙ ap (λ ks. groups_of items ks rows) none)
          ∙ sym (ap (λ ks. groups_of items ks (rows ++ more)) none);
    }

pub add_chosen-requires-clause-values : goal.add_chosen-requires-clause-values
add_chosen-requires-clause-values c =
    let n = c.self.inside.rows in
    let old = c.self.inside.table in
    let sound = subst (λ (is : List Item). AreSound n (length is) old.values) (sym c.as_slice-items.ensures.value) c.self.invariant.sound in
    sound_there n c.as_slice-items.result.now (key_of codes c.deref.result.now []) c.in_ok-place.place old c.place_of.new.table c.in_ok-place.ensures.ready.placed c.in_ok-place.ensures.ok sound

pub invariant_of-self-2 : goal.invariant_of-self-2
invariant_of-self-2 c =
    let items = c.self.inside.items.items in
    let width = length c.self.inside.keys.items in
    let b = c.args.block.now in
    let word = c.args.word in
    let more = chosen_in b word in
    let mid = c.place_of.new.table in
    let new = c.add_chosen.new.self in
    let last = c.place_of.new.last in
    let i = c.in_ok-place.place in
    let n = c.self.inside.rows in
    let ones = c.count_of.ensures.count in
    let found = c.in_ok-place.ensures in
    let are = c.as_slice-items.ensures.value in
    let key = key_of codes c.deref.result.now [] in
    let ok = subst (λ (is : List Item). IsPlaceFor is key i c.self.inside.table mid) are found.ok in
    let here = sound_there n items key i c.self.inside.table mid found.ready.placed ok c.self.invariant.sound in
    let sound = sound_place n items key i c.self.inside.table mid ok c.self.invariant.sound in
    let joined : List Item → List Running = λ is. joins is (values_at mid.values i) (runnings is more) in
    let room = subst (λ m. All (HasRoom (n + m)) (joined items)) (sym ones) (subst (λ (is : List Item). All (HasRoom (n + count_ones word)) (joined is)) are c.add_chosen.ensures.room) in
    let values = subst (λ (is : List Item). new.values ≡ set mid.values i (joined is)) are c.add_chosen.ensures.values in
    record {
      few = omega (arith, c.requires.few, ap (λ (g : Kept). g.rows) c.self.view_is, ones, ones-block b word c.requires.below, few-chosen b word);
      short = c.self.invariant.short;
      ready = ready_on width last.key.items last.place last.met.items mid new c.add_chosen.ensures.placed (same_places mid new c.add_chosen.ensures.places)
          (subst (λ (ks : List ℕ). IsReady (length ks) last.key.items last.place last.met.items mid) c.deref.ensures.value found.ready);
      sound = subst (λ (vs : List (List Running)). AreSound (n + c.count_of.result) (length items) vs) (sym values)
          (sound_set n (n + c.count_of.result) (length items) i (joined items) mid.values (omega arith)
          (joins_len items (values_at mid.values i) (runnings items more) here.same (length-map items (running_of more))) room sound);
    }

pub returns-clause-count : goal.returns-clause-count
returns-clause-count c =
    omega (arith, ap (λ (g : Kept). g.rows) c.self.view_is, c.count_of.ensures.count, ones-block c.args.block.now c.args.word c.requires.below)

-- the one key has a place
pub returns-in_err-place-clause-free : goal.returns-in_err-place-clause-free
returns-in_err-place-clause-free c = λ known.
    let t = c.self.inside.table in
    let none : c.self.inside.keys.items ≡ [] = ap (λ (g : Kept). g.keys) c.self.view_is ∙ c.requires.one in
    let G : Kept → Type 0 = λ g. IsKnown g [] in
    let N : List (List Cell) → Type 0 = λ qs. Contains qs [] in
    let K : List ℕ → Type 0 = λ ks. Contains (names t.places) (key_of codes ks []) in
    absurd (c.in_err-place.ensures.unknown (subst K (sym (c.deref.ensures.value ∙ none)) (subst N (names-seen t.values t.places) (subst G (sym c.self.view_is) known))))
