use Rattle.std.proofs.Common.{◌∙◌, ◌+◌, sym, subst, length, List, arith}
use Rattle.agg_groups.specs.declared.running.Running.{Running}
use Rattle.agg_groups.specs.Running.{joins}
use Rattle.agg_groups.specs.Table.{AreSound, Puts, seen, values_at}
use Rattle.agg_groups.proofs.Values.{joins_len}
use Rattle.agg_groups.proofs.Seen.{set_puts, sound_set}
use Rattle.agg_groups.proofs.Merge.{joined_room, known_room, known_values}
use Rattle.agg_groups.proofs.table.GroupTable.join_known.Goals as goal

pub join-requires-clause-values : goal.join-requires-clause-values
join-requires-clause-values c =
    let items = c.args.items.now in
    let t = c.args.self.now in
    let key = c.args.key.now in
    let i = c.in-Some.place in
    let there = sym c.known.ensures ∙ c.in-Some.is in
    known_room c.args.rows items t key i c.requires.placed there c.requires.room

pub returns-in-Some-clause-joined : goal.returns-in-Some-clause-joined
returns-in-Some-clause-joined c =
    let items = c.args.items.now in
    let t = c.args.self.now in
    let key = c.args.key.now in
    let i = c.in-Some.place in
    let new = c.join.new.self in
    let there = sym c.known.ensures ∙ c.in-Some.is in
    subst (λ (vs : List Running). Puts key (joins items vs c.args.others.now) (seen t) (seen new)) (known_values items t key i there)
    (set_puts key i (joins items (values_at t.values i) c.args.others.now) t new c.requires.placed there c.join.ensures.places c.join.ensures.values)

pub returns-in-Some-clause-sound : goal.returns-in-Some-clause-sound
returns-in-Some-clause-sound c =
    let items = c.args.items.now in
    let t = c.args.self.now in
    let i = c.in-Some.place in
    let os = c.args.others.now in
    let n = c.args.rows + c.args.more in
    let kept = known_room c.args.rows items t c.args.key.now i c.requires.placed (sym c.known.ensures ∙ c.in-Some.is) c.requires.room in
    subst (λ (vs : List (List Running)). AreSound n (length items) vs) (sym c.join.ensures.values)
    (sound_set n n (length items) i (joins items (values_at t.values i) os) t.values (omega arith) (joins_len items (values_at t.values i) os kept.same c.requires.same)
    (joined_room items (values_at t.values i) os c.args.rows c.args.more kept.room c.requires.room_more) c.requires.sound)
