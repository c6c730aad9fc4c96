use Rattle.std.proofs.Common.{rules, ◌≡◌, ◌∙◌, ◌+◌, ap, sym, length, true, false, Some}
use Rattle.std.specs.Prelude.{nat_le}
use Rattle.prepare_words.specs.Items.{item_view}
use Rattle.prepare_words.proofs.Steps.{few, too_many}
use Rattle.prepare_words.proofs.columns.push_item.Goals as goal

pub returns-then-not-is_few-clause-faulty : goal.returns-then-not-is_few-clause-faulty
returns-then-not-is_few-clause-faulty c =
    let many : nat_le (length c.args.columns.now.items + c.in-Some-Places.count) 16 ≡ false = search rules in
    too_many c.args.word c.args.item.now c.args.columns.now.items c.in-Some-Places.from c.in-Some-Places.count _ (sym (ap (λ i. Some (item_view i)) c.in-Some-Places.field-0-is) ∙ c.in-Some-Places.ensures.names) many

pub returns-in_ok-push_places-in-Some-Places-clause-read : goal.returns-in_ok-push_places-in-Some-Places-clause-read
returns-in_ok-push_places-in-Some-Places-clause-read c =
    let enough : nat_le (length c.args.columns.now.items + c.in-Some-Places.count) 16 ≡ true = search rules in
    few c.args.word c.args.item.now c.args.columns.now.items c.push_places.new.columns.items c.in-Some-Places.from c.in-Some-Places.count _ (sym (ap (λ i. Some (item_view i)) c.in-Some-Places.field-0-is) ∙ c.in-Some-Places.ensures.names) enough c.in_ok-push_places-in-Some-Places.ensures
