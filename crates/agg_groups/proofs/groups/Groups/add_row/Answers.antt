use Rattle.std.proofs.Common.{◌≡◌, ◌∙◌, ◌+◌, sym, ap, subst, List, ℕ, length, set, All, arith}
use Rattle.std.specs.Prelude.{Contains}
use Rattle.table_core.specs.declared.cell.Cell.{Cell}
use Rattle.query_meaning.specs.declared.item.Item.{Item}
use Rattle.agg_groups.specs.declared.running.Running.{Running}
use Rattle.query_meaning.specs.Cells.{codes}
use Rattle.query_meaning.specs.Meaning.{key_of}
use Rattle.agg_groups.specs.Running.{HasRoom, nexts}
use Rattle.agg_groups.specs.Groups.{Kept, IsKnown, Stands}
use Rattle.agg_groups.specs.Table.{IsPlaceFor, IsReady, AreSound, names, values_at}
use Rattle.agg_groups.proofs.Values.{nexts_len, length-push}
use Rattle.agg_groups.proofs.Grown.{ready_on, same_places}
use Rattle.agg_groups.proofs.Seen.{names-seen, placed_put, sound_place, sound_set, sound_there}
use Rattle.agg_groups.proofs.Stands.{groups_more}
use Rattle.agg_groups.proofs.groups.Groups.add_row.Goals as goal

pub step-requires-clause-values : goal.step-requires-clause-values
step-requires-clause-values c =
    let n = c.self.inside.rows in
    let old = c.self.inside.table in
    let sound = subst (λ (is : List Item). AreSound n (length is) old.values) (sym c.as_slice-items.ensures.value) c.self.invariant.sound in
    sound_there n c.as_slice-items.result.now (key_of codes c.deref.result.now c.args.row.now) c.in_ok-place.place old c.place_of.new.table c.in_ok-place.ensures.ready.placed c.in_ok-place.ensures.ok sound

pub invariant_of-self-2 : goal.invariant_of-self-2
invariant_of-self-2 c =
    let items = c.self.inside.items.items in
    let width = length c.self.inside.keys.items in
    let row = c.args.row.now in
    let mid = c.place_of.new.table in
    let new = c.step.new.self in
    let last = c.place_of.new.last in
    let i = c.in_ok-place.place in
    let n = c.self.inside.rows in
    let found = c.in_ok-place.ensures in
    let are = c.as_slice-items.ensures.value in
    let ok = subst (λ (is : List Item). IsPlaceFor is (key_of codes c.deref.result.now row) i c.self.inside.table mid) are found.ok in
    let here = sound_there n items (key_of codes c.deref.result.now row) i c.self.inside.table mid found.ready.placed ok c.self.invariant.sound in
    let sound = sound_place n items (key_of codes c.deref.result.now row) i c.self.inside.table mid ok c.self.invariant.sound in
    let room = subst (λ (is : List Item). All (HasRoom (n + 1)) (nexts is row (values_at mid.values i))) are c.step.ensures.room in
    let values = subst (λ (is : List Item). new.values ≡ set mid.values i (nexts is row (values_at mid.values i))) are c.step.ensures.values in
    record {
      few = omega (arith, c.requires.few, ap (λ (g : Kept). g.rows) c.self.view_is);
      short = c.self.invariant.short;
      ready = ready_on width last.key.items last.place last.met.items mid new c.step.ensures.placed (same_places mid new c.step.ensures.places)
          (subst (λ (ks : List ℕ). IsReady (length ks) last.key.items last.place last.met.items mid) c.deref.ensures.value found.ready);
      sound = subst (λ (vs : List (List Running)). AreSound (n + 1) (length items) vs) (sym values)
          (sound_set n (n + 1) (length items) i (nexts items row (values_at mid.values i)) mid.values (omega arith) (nexts_len items row (values_at mid.values i) here.same) room sound);
    }

pub returns-clause-ok : goal.returns-clause-ok
returns-clause-ok c = λ rows s.
    let items = c.self.inside.items.items in
    let keys = c.self.inside.keys.items in
    let row = c.args.row.now in
    let old = c.self.inside.table in
    let mid = c.place_of.new.table in
    let new = c.step.new.self in
    let i = c.in_ok-place.place in
    let are = c.as_slice-items.ensures.value in
    let H : List Item → Type 0 = λ is. IsPlaceFor is (key_of codes c.deref.result.now row) i old mid in
    let K : List ℕ → Type 0 = λ ks. IsPlaceFor items (key_of codes ks row) i old mid in
    let ok = subst K c.deref.ensures.value (subst H are c.in_ok-place.ensures.ok) in
    let values = subst (λ (is : List Item). new.values ≡ set mid.values i (nexts is row (values_at mid.values i))) are c.step.ensures.values in
    let puts = placed_put items (key_of codes keys row) i old mid new (λ vs. nexts items row vs) c.in_ok-place.ensures.ready.placed ok c.step.ensures.places values in
    let stands = subst (λ (g : Kept). Stands g rows) (sym c.self.view_is) s in
    record {
      count = ap (λ n. n + 1) stands.count ∙ sym (length-push rows row);
      groups = groups_more items keys row old new c.step.ensures.placed puts rows stands.groups;
    }

-- a known key has a place
pub returns-in_err-place-clause-free : goal.returns-in_err-place-clause-free
returns-in_err-place-clause-free c = λ known.
    let t = c.self.inside.table in
    let row = c.args.row.now in
    let G : Kept → Type 0 = λ g. IsKnown g (key_of codes g.keys row) in
    let N : List (List Cell) → Type 0 = λ qs. Contains qs (key_of codes c.self.inside.keys.items row) in
    let K : List ℕ → Type 0 = λ ks. Contains (names t.places) (key_of codes ks row) in
    absurd (c.in_err-place.ensures.unknown (subst K (sym c.deref.ensures.value) (subst N (names-seen t.values t.places) (subst G (sym c.self.view_is) known))))
