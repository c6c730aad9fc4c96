use Rattle.std.proofs.Common.{◌∙◌, sym, ap, subst}
use Rattle.query_meaning.specs.Cells.{codes}
use Rattle.top_rows.specs.declared.standing.Standing.{Standing}
use Rattle.query_meaning.specs.Rows.{insert_row}
use Rattle.top_rows.specs.Standing.{AreKeyed, numbered, places_of}
use Rattle.top_rows.proofs.Entries.{inserted, inserted_keyed}
use Rattle.top_rows.proofs.top.put.Goals as goal

pub returns-clause-ok : goal.returns-clause-ok
returns-clause-ok c = λ n.
    let orders = c.args.order.now in
    let es = c.args.rows.now.entries in
    let k : Standing = record { places = c.in_ok-places.places; number = c.args.number } in
    let v = c.in_ok-row.row in
    ap numbered c.in_ok-insert.ensures.entries ∙ inserted orders _ c.standing_order.ensures es k v (c.in_ok-places.ensures ∙ ap (places_of orders) (sym c.in_ok-row.ensures.items)) c.requires.keyed n
    ∙ ap (λ cs. insert_row codes orders (c.args.number, cs) (numbered es)) c.in_ok-row.ensures.items

pub returns-clause-keyed : goal.returns-clause-keyed
returns-clause-keyed c =
    let orders = c.args.order.now in
    let k : Standing = record { places = c.in_ok-places.places; number = c.args.number } in
    subst (AreKeyed orders) (sym c.in_ok-insert.ensures.entries)
    (inserted_keyed orders _ c.standing_order.ensures c.args.rows.now.entries k c.in_ok-row.row (c.in_ok-places.ensures ∙ ap (places_of orders) (sym c.in_ok-row.ensures.items)) c.requires.keyed)
