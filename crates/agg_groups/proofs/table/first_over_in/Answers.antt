use Rattle.std.proofs.Common.{◌≡◌, ◌∙◌, sym, ap, subst, List, length, rules, None}
use Rattle.query_meaning.specs.Meaning.{or_else}
use Rattle.agg_groups.specs.Running.{over_shown}
use Rattle.table_core.specs.Lists.{lists}
use Rattle.agg_groups.specs.Table.{AreBelow, first_over, seen, plain_places, values_at}
use Rattle.agg_groups.proofs.Places.{Entry}
use Rattle.agg_groups.proofs.Shows.{is_none}
use Rattle.agg_groups.proofs.table.first_over_in.Goals as goal

pub loop-place-init : goal.loop-place-init
loop-place-init c =
    let es = c.args.places.now.entries in
    let vs = c.args.values.now in
    let start : c.into_iter-place-iterator.result ≡ es = search rules in
    let B : List Entry → Type 0 = λ s. AreBelow (length vs) (plain_places s) in
    record {
      value = ap (λ s. first_over (seen (record { places = plain_places s; values = lists vs }))) start;
      below = subst B (sym start) c.requires.below;
    }

pub values_of-requires : goal.values_of-requires
values_of-requires c =
    let B : List Entry → Type 0 = λ s. AreBelow (length c.args.values.now) (plain_places s) in
    (subst B c.in-Some.ensures.steps c.loop-place.invariant.below).0

pub loop-place-preserved : goal.loop-place-preserved
loop-place-preserved c =
    let vs = c.args.values.now in
    let B : List Entry → Type 0 = λ s. AreBelow (length vs) (plain_places s) in
    let o : over_shown 1 (values_at (lists vs) c.in-Some.place.now) ≡ None = ap (over_shown 1) (sym c.values_of.ensures) ∙ sym c.over-one.ensures ∙ is_none _ (sym c.if-is_some.ensures) in
    record {
      value = sym (ap (λ x. or_else x (first_over (seen (record { places = plain_places c.next.new.self; values = lists vs })))) o)
          ∙ sym (ap (λ s. first_over (seen (record { places = plain_places s; values = lists vs }))) c.in-Some.ensures.steps) ∙ c.loop-place.invariant.value;
      below = (subst B c.in-Some.ensures.steps c.loop-place.invariant.below).1;
    }
