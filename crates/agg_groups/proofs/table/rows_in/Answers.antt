use Rattle.std.proofs.Common.{◌≡◌, ◌∙◌, ◌∷◌, ◌++◌, sym, ap, subst, List, length, rules, arith, All}
use Rattle.agg_groups.specs.declared.running.Running.{Running}
use Rattle.agg_groups.specs.Running.{all_shown, FitsCell}
use Rattle.table_core.specs.Lists.{lists}
use Rattle.agg_groups.specs.Table.{AreBelow, AllFit, result_rows, seen, plain_places, values_at}
use Rattle.table_core.proofs.Lists.{length-lists}
use Rattle.agg_groups.proofs.Places.{Entry}
use Rattle.agg_groups.proofs.Shows.{rows_push}
use Rattle.agg_groups.proofs.table.rows_in.Goals as goal

pub loop-key-init : goal.loop-key-init
loop-key-init c =
    let es = c.args.places.now.entries in
    let vs = c.args.values.now in
    let items = c.args.items.now in
    let start : c.into_iter-key-iterator.result ≡ es = search rules in
    let B : List Entry → Type 0 = λ s. AreBelow (length vs) (plain_places s) in
    let F : List Entry → Type 0 = λ s. AllFit (seen (record { places = plain_places s; values = lists vs })) in
    record {
      value = ap (λ rs. lists rs ++ result_rows items (seen (record { places = plain_places c.into_iter-key-iterator.result; values = lists vs }))) c.new-rows.ensures.items
          ∙ ap (λ s. result_rows items (seen (record { places = plain_places s; values = lists vs }))) start;
      below = subst B (sym start) c.requires.below;
      fits = subst F (sym start) c.requires.fits;
    }

pub values_of-requires : goal.values_of-requires
values_of-requires c =
    let B : List Entry → Type 0 = λ s. AreBelow (length c.args.values.now) (plain_places s) in
    (subst B c.in-Some.ensures.steps c.loop-key.invariant.below).0

pub row_of-requires-clause-same : goal.row_of-requires-clause-same
row_of-requires-clause-same c =
    let vs = c.args.values.now in
    let B : List Entry → Type 0 = λ s. AreBelow (length vs) (plain_places s) in
    let below = (subst B c.in-Some.ensures.steps c.loop-key.invariant.below).0 in
    ap length c.values_of.ensures ∙ c.requires.same c.in-Some.place.now (omega (arith, below, length-lists vs))

pub row_of-requires-clause-fits : goal.row_of-requires-clause-fits
row_of-requires-clause-fits c =
    let vs = c.args.values.now in
    let F : List Entry → Type 0 = λ s. AllFit (seen (record { places = plain_places s; values = lists vs })) in
    let P : List Running → Type 0 = λ rs. All FitsCell rs in
    subst P (sym c.values_of.ensures) (subst F c.in-Some.ensures.steps c.loop-key.invariant.fits).0

pub loop-key-preserved : goal.loop-key-preserved
loop-key-preserved c =
    let vs = c.args.values.now in
    let items = c.args.items.now in
    let rest = result_rows items (seen (record { places = plain_places c.next.new.self; values = lists vs })) in
    let done = lists c.loop-key.rows.items in
    let B : List Entry → Type 0 = λ s. AreBelow (length vs) (plain_places s) in
    let F : List Entry → Type 0 = λ s. AllFit (seen (record { places = plain_places s; values = lists vs })) in
    let row : c.in_ok-row.row.items ≡ all_shown c.in-Some.key.now.items items (values_at (lists vs) c.in-Some.place.now) =
    c.in_ok-row.ensures ∙ ap (λ k. all_shown k items c.values_of.result.now) c.deref.ensures.value ∙ ap (all_shown c.in-Some.key.now.items items) c.values_of.ensures in
    record {
      value = ap (λ rs. lists rs ++ rest) c.in_ok-push.ensures.items ∙ rows_push c.loop-key.rows.items c.in_ok-row.row rest ∙ ap (λ r. done ++ (r ∷ rest)) row
          ∙ sym (ap (λ s. done ++ result_rows items (seen (record { places = plain_places s; values = lists vs }))) c.in-Some.ensures.steps) ∙ c.loop-key.invariant.value;
      below = (subst B c.in-Some.ensures.steps c.loop-key.invariant.below).1;
      fits = (subst F c.in-Some.ensures.steps c.loop-key.invariant.fits).1;
    }
