use Rattle.std.proofs.Common.{◌≡◌, ◌∙◌, ◌+◌, sym, ap, subst, refl, true, List, length, rules, All, arith}
use Rattle.std.specs.Prelude.{is_some}
use Rattle.table_core.specs.declared.cell.Cell.{Cell}
use Rattle.agg_groups.specs.declared.running.Running.{Running}
use Rattle.agg_groups.specs.Running.{HasRoom, joins}
use Rattle.agg_groups.specs.Groups.{Group}
use Rattle.table_core.specs.Lists.{lists}
use Rattle.agg_groups.specs.Table.{AreBelow, HasRoomAt, HavePlaces, place_at, Rising, Puts, names, at, base, seen, plain_places, values_at}
use Rattle.table_core.proofs.Lists.{length-lists}
use Rattle.agg_groups.proofs.Places.{Entry}
use Rattle.agg_groups.proofs.Seen.{names-seen, sound_wider}
use Rattle.agg_groups.proofs.Merge.{absorb, absorb_all, IsLeft, left_head, left_step, joined_at, all_left, known_head, known_rest}
use Rattle.agg_groups.proofs.table.join_groups.Goals as goal

pub loop-key-init : goal.loop-key-init
loop-key-init c =
    let es = c.args.places.now.entries in
    let vs = c.args.values.now in
    let items = c.args.items.now in
    let start : c.into_iter-key-iterator.result ≡ es = search rules in
    let B : List Entry → Type 0 = λ s. AreBelow (length (lists vs)) (plain_places s) in
    let R : List Entry → Type 0 = λ s. Rising (names (plain_places s)) in
    let K : List Entry → Type 0 = λ s. HavePlaces (names (plain_places s)) c.args.table.now.places in
    record {
      value = λ q. ap (λ s. absorb items (at (seen c.args.table.now) q) (seen (record { places = plain_places s; values = lists vs })) q) start;
      rising = subst R (sym start) c.requires.placed.rising;
      below = subst B (sym start) c.requires.placed.below;
      known = subst K (sym start) c.requires.known;
      left = all_left c.args.rows (length items) c.args.table.now (names (plain_places c.into_iter-key-iterator.result)) c.requires.placed_table c.requires.sound;
      places = refl;
      placed = c.requires.placed_table;
      sound = sound_wider c.args.rows (c.args.rows + c.args.more) (length items) c.args.table.now.values (omega arith) c.requires.sound;
    }

pub values_of-requires : goal.values_of-requires
values_of-requires c =
    let vs = c.args.values.now in
    let B : List Entry → Type 0 = λ s. AreBelow (length (lists vs)) (plain_places s) in
    let below = (subst B c.in-Some.ensures.steps c.loop-key.invariant.below).0 in
    omega (arith, below, length-lists vs)

pub join_known-requires-clause-same : goal.join_known-requires-clause-same
join_known-requires-clause-same c =
    let vs = c.args.values.now in
    let B : List Entry → Type 0 = λ s. AreBelow (length (lists vs)) (plain_places s) in
    let below = (subst B c.in-Some.ensures.steps c.loop-key.invariant.below).0 in
    ap length c.values_of.ensures ∙ (c.requires.sound_other c.in-Some.place.now below).0

pub join_known-requires-clause-room_more : goal.join_known-requires-clause-room_more
join_known-requires-clause-room_more c =
    let vs = c.args.values.now in
    let B : List Entry → Type 0 = λ s. AreBelow (length (lists vs)) (plain_places s) in
    let below = (subst B c.in-Some.ensures.steps c.loop-key.invariant.below).0 in
    let P : List Running → Type 0 = λ rs. All (HasRoom c.args.more) rs in
    subst P (sym c.values_of.ensures) (c.requires.sound_other c.in-Some.place.now below).1

pub join_known-requires-clause-known : goal.join_known-requires-clause-known
join_known-requires-clause-known c =
    let places = c.loop-key.table.places in
    let K : List Entry → Type 0 = λ s. HavePlaces (names (plain_places s)) places in
    let P : List Cell → Type 0 = λ k. is_some (place_at places k) ≡ true in
    subst P (sym c.deref.ensures.value) (known_head c.in-Some.key.now.items (names (plain_places c.next.new.self)) places (subst K c.in-Some.ensures.steps c.loop-key.invariant.known))

pub join_known-requires-clause-room : goal.join_known-requires-clause-room
join_known-requires-clause-room c =
    let n = c.args.rows in
    let m = length c.args.items.now in
    let kept = seen c.loop-key.table in
    let L : List Entry → Type 0 = λ s. IsLeft n m (names (plain_places s)) kept in
    let P : List Cell → Type 0 = λ k. HasRoomAt n m (at kept k) in
    subst P (sym c.deref.ensures.value) (left_head n m c.in-Some.key.now.items (names (plain_places c.next.new.self)) kept (subst L c.in-Some.ensures.steps c.loop-key.invariant.left))

pub loop-key-preserved : goal.loop-key-preserved
loop-key-preserved c =
    let vs = lists c.args.values.now in
    let items = c.args.items.now in
    let n = c.args.rows in
    let m = length items in
    let es = c.next.new.self in
    let g : Group = (c.in-Some.key.now.items, values_at vs c.in-Some.place.now) in
    let kept = seen c.loop-key.table in
    let new = seen c.join_known.new.self in
    let t = c.in-Some.ensures.steps in
    let P : List Cell → Type 0 = λ k. Puts k (joins items (base items (at kept k)) c.values_of.result.now) kept new in
    let Q : List Running → Type 0 = λ os. Puts g.0 (joins items (base items (at kept g.0)) os) kept new in
    let puts = subst Q c.values_of.ensures (subst P c.deref.ensures.value c.join_known.ensures.joined) in
    let B : List Entry → Type 0 = λ s. AreBelow (length vs) (plain_places s) in
    let R : List Entry → Type 0 = λ s. Rising (names (plain_places s)) in
    let L : List Entry → Type 0 = λ s. IsLeft n m (names (plain_places s)) kept in
    let K : List Entry → Type 0 = λ s. HavePlaces (names (plain_places s)) c.loop-key.table.places in
    let rising = subst R t c.loop-key.invariant.rising in
    let rest = seen (record { places = plain_places es; values = vs }) in
    record {
      value = λ q. ap (λ o. absorb items o rest q) (joined_at items g kept new puts q)
          ∙ sym (ap (λ s. absorb items (at kept q) (seen (record { places = plain_places s; values = vs })) q) t) ∙ c.loop-key.invariant.value q;
      rising = rising.1;
      below = (subst B t c.loop-key.invariant.below).1;
      left = left_step n m g.0 (names (plain_places es)) (joins items (base items (at kept g.0)) g.1) kept new rising (subst L t c.loop-key.invariant.left) puts;
      known = subst (λ es. HavePlaces (names (plain_places c.next.new.self)) es) (sym c.join_known.ensures.places)
          (known_rest g.0 (names (plain_places es)) c.loop-key.table.places (subst K t c.loop-key.invariant.known));
      places = c.join_known.ensures.places ∙ c.loop-key.invariant.places;
      placed = c.join_known.ensures.placed;
      sound = c.join_known.ensures.sound;
    }

pub returns-clause-joined : goal.returns-clause-joined
returns-clause-joined c = λ q.
    let items = c.args.items.now in
    let vs = lists c.args.values.now in
    let es = c.args.places.now.entries in
    let old = at (seen c.args.table.now) q in
    let R : List (List Cell) → Type 0 = λ ks. Rising ks in
    sym (ap (λ s. absorb items (at (seen c.loop-key.table) q) (seen (record { places = plain_places s; values = vs })) q) c.in-None.ensures.steps.0)
    ∙ c.loop-key.invariant.value q
    ∙ absorb_all items (seen (record { places = plain_places es; values = vs })) old q (subst R (sym (names-seen vs (plain_places es))) c.requires.placed.rising)
