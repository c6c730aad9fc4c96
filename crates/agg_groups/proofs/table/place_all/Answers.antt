use Rattle.std.proofs.Common.{◌≡◌, ◌∙◌, List, length, sym, ap, subst, rules}
use Rattle.std.specs.Prelude.{◌||◌, is_some}
use Rattle.std.proofs.Math.Bool.{or-false}
use Rattle.table_core.specs.declared.cell.Cell.{Cell}
use Rattle.agg_groups.specs.Table.{AreSound, HasGrown, IsPlaceFor, Placed, has_key, names, place_at, plain_places}
use Rattle.agg_groups.proofs.Grown.{grown_more, grown_none, named_more, or_assoc}
use Rattle.agg_groups.proofs.Order.{same_key}
use Rattle.agg_groups.proofs.Places.{Entry}
use Rattle.agg_groups.proofs.Seen.{sound_place}
use Rattle.agg_groups.proofs.table.place_all.Goals as goal

pub loop-key-init : goal.loop-key-init
loop-key-init c =
    let t = c.args.table.now in
    let start : c.into_iter-key-iterator.result ≡ c.args.others.now.entries = search rules in
    record {
      named = λ q. ap (λ (es : List Entry). is_some (place_at t.places q) || has_key (names (plain_places es)) q) start;
      grown = grown_none c.args.items.now t;
      placed = c.requires.placed;
      sound = λ n s. s;
    }

pub loop-key-preserved : goal.loop-key-preserved
loop-key-preserved c =
    let items = c.args.items.now in
    let key = c.in-Some.key.now.items in
    let start = c.args.table.now in
    let old = c.loop-key.table in
    let new = c.place_for.new.self in
    let place = c.in_ok-place_for.field-0 in
    let before = c.loop-key.invariant in
    let rest = names (plain_places c.next.new.self) in
    let ok = subst (λ (k : List Cell). IsPlaceFor items k place old new) c.deref.ensures.value c.in_ok-place_for.ensures.ok in
    record {
      named = λ q. ap (λ b. b || has_key rest q) (named_more items key place old new ok q) ∙ or_assoc (is_some (place_at old.places q)) (same_key q key) (has_key rest q)
          ∙ sym (ap (λ (es : List Entry). is_some (place_at old.places q) || has_key (names (plain_places es)) q) c.in-Some.ensures.steps) ∙ before.named q;
      grown = grown_more items key place start old new c.place_for.ensures.placed before.grown ok;
      placed = c.place_for.ensures.placed;
      sound = λ n s. sound_place n items key place old new ok (before.sound n s);
    }

pub returns-in_err-place_for-clause-grown : goal.returns-in_err-place_for-clause-grown
returns-in_err-place_for-clause-grown c =
    subst (λ (t : Placed). HasGrown c.args.items.now c.args.table.now t) (sym c.in_err-place_for.ensures.err) c.loop-key.invariant.grown

pub returns-in_err-place_for-clause-sound : goal.returns-in_err-place_for-clause-sound
returns-in_err-place_for-clause-sound c = λ n s.
    subst (λ (t : Placed). AreSound n (length c.args.items.now) t.values) (sym c.in_err-place_for.ensures.err) (c.loop-key.invariant.sound n s)

pub returns-clause-named : goal.returns-clause-named
returns-clause-named c = λ q.
    let t = c.loop-key.table in
    sym (or-false (is_some (place_at t.places q))) ∙ sym (ap (λ (es : List Entry). is_some (place_at t.places q) || has_key (names (plain_places es)) q) c.in-None.ensures.steps.0)
    ∙ c.loop-key.invariant.named q
