use Rattle.std.proofs.Common.{◌∙◌, length}
use Rattle.csv_load.proofs.Keys.{keyed-moved}
use Rattle.csv_load.proofs.rank.rank_texts.Goals as goal

pub assigned-requires : goal.assigned-requires
assigned-requires c = record {
  in_order = record {
    order = c.sort_unstable.new.self.items;
    keyed = keyed-moved c.args.names.now (length c.args.names.now) c.in_ok-order.order.items c.sort_unstable.new.self.items c.sort_unstable.ensures.permutation c.in_ok-order.ensures;
    sorted = c.sort_unstable.ensures.sorted;
    texts_are = rw c.as_slice-sorted.ensures.value at c.in_ok-texts.ensures;
    places_are = c.as_slice.ensures.value ∙ (rw c.as_slice-sorted.ensures.value at c.in_ok-places.ensures);
  };
}
