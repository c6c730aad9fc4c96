use Rattle.std.proofs.Common.{◌≡◌, arith, refl, length, get_or, [], None}
use Rattle.std.specs.Prelude.{replicate}
use Rattle.std.proofs.lemmas.List.{length-replicate}
use Rattle.csv_load.proofs.Assigning.{assigned-none, assigned-step, no_code}
use Rattle.csv_load.proofs.Ordered.{as-many, may-push, named-at, ranked-end}
use Rattle.csv_load.proofs.rank.assigned.Goals as goal

pub loop-place-init : goal.loop-place-init
loop-place-init c = record {
  assigned = rw (c.new-dict.ensures, c.in_ok-codes.ensures, c.len.ensures)
      (assigned-none c.args.names.now c.args.texts.now c.args.places.now
      (replicate (length c.args.names.now) None) (length-replicate (length c.args.names.now) None) (no_code (length c.args.names.now)));
  few = rw c.new-dict.ensures (omega arith);
}

pub get-requires : goal.get-requires
get-requires c = omega (arith, c.loop-place-test.true, as-many c.args.names.now c.args.texts.now c.args.places.now c.requires.in_order)

pub push-requires : goal.push-requires
push-requires c some = rw c.get.ensures
    (may-push c.args.names.now c.args.texts.now c.args.places.now c.requires.in_order c.loop-place.place c.loop-place.dict c.loop-place-test.true (c.loop-place.invariant.assigned.last some))

pub index_mut-requires : goal.index_mut-requires
index_mut-requires c =
    let name = named-at c.args.names.now c.args.texts.now c.args.places.now c.requires.in_order c.loop-place.place c.loop-place-test.true in
    omega (arith, name.0, c.loop-place.invariant.assigned.room, c.loop-place.codes.ok.0)

pub loop-place-preserved : goal.loop-place-preserved
loop-place-preserved c =
    let names = c.args.names.now in
    let texts = c.args.texts.now in
    let places = c.args.places.now in
    let place = c.loop-place.place in
    let name = named-at names texts places c.requires.in_order place c.loop-place-test.true in
    record {
      assigned = assigned-step names texts places place c.loop-place.dict c.push.new.self c.loop-place.codes.items (get_or texts place []) (get_or places place 0) c.in_ok-code.code
          c.loop-place.invariant.assigned refl refl name.0 name.1 name.2 (rw c.get.ensures at c.in_ok-code.ensures.ok) c.in_ok-code.ensures.rises.rises;
      few = c.in_ok-code.ensures.rises.small;
    }

pub returns-clause-ranked : goal.returns-clause-ranked
returns-clause-ranked c =
    let e : c.loop-place.place ≡ length c.args.places.now = omega arith in
    ranked-end c.args.names.now c.args.texts.now c.args.places.now c.loop-place.dict c.loop-place.codes.items c.requires.in_order (rw e at c.loop-place.invariant.assigned)
