use Rattle.std.proofs.Common.{◌∙◌, ◌+◌, ap, nat_eq, sym}
use Rattle.std.specs.HashMap.{get}
use Rattle.std.proofs.lemmas.Result.{on_ok_weaker}
use Rattle.inspect_page.specs.Ahead.{with_entry}
use Rattle.inspect_page.proofs.Back.{known_more}
use Rattle.inspect_page.proofs.tallies.Tallies.note.Goals as goal

pub returns-in-Some : goal.returns-in-Some
returns-in-Some c = λ es few ahead.
    let r = c.in-Some.query in
    on_ok_weaker c.put.result
    (λ put. known_more (get nat_eq c.args.self.now.queries) (get nat_eq c.put.new.map) r c.args.number c.args.entry es c.with_entry-tally.result few (sym c.query_of.ensures ∙ c.in-Some.is) ahead
    (c.with_entry-tally.ensures ∙ ap (with_entry c.args.number c.args.entry) (c.of.ensures (c.args.number + 1) es ahead)) put)
    c.put.ensures
