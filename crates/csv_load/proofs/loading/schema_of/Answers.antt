use Rattle.std.proofs.Common.{◌∷◌, [], arith, ap, sym, length, length-append}
use Rattle.csv_load.proofs.Finishing.{columns-more}
use Rattle.csv_load.proofs.loading.schema_of.Goals as goal

pub loop-name-init : goal.loop-name-init
loop-name-init c = record {
  place = omega arith;
  columns = c.new-columns.ensures.items;
  room = omega (arith, c.requires, ap length c.into_iter-name-iterator.ensures.into_iter_gives.0);
}

pub loop-name-preserved : goal.loop-name-preserved
loop-name-preserved c =
    let is = c.loop-name.invariant in
    let names = c.loop-name.yielded in
    let grown = length-append names (c.in-Some.name ∷ []) in
    let next = ap length c.in-Some.ensures.steps.0 in
    record {
      place = omega (arith, is.place, grown);
      columns = rw (c.in_ok-push.ensures.items, is.columns)
          (sym (columns-more names c.in-Some.name c.args.typed.now c.loop-name.place c.index-typed-place.result is.place (omega (arith, is.place, is.room, next))));
      room = omega (arith, is.room, grown, next);
    }
