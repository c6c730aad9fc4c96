use Rattle.std.proofs.Common.{sym, subst}
use Rattle.sql_tokens.specs.Tokens.{HasTokens}
use Rattle.inspect_places.proofs.StatementPlaces.{statement_is}
use Rattle.inspect_places.proofs.statement.statement_place.Goals as goal

pub returns-in-Ok : goal.returns-in-Ok
returns-in-Ok c =
    let bytes = c.args.text.now in
    let has = subst (HasTokens 0 bytes) (sym c.deref.ensures.value) c.in-Ok.ensures.found in
    record { place = statement_is bytes c.args.columns.now c.args.refusal.now c.deref.result.now has c.refusal_place.result c.refusal_place.ensures.place }
