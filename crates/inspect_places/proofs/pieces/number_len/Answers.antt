use Rattle.std.proofs.Common.{arith}
use Rattle.sql_tokens.specs.declared.piece.Piece.TheVariants.{Lexeme}
use Rattle.sql_tokens.specs.declared.token.TokenKind.TheVariants as kind
use Rattle.sql_tokens.proofs.Numbers.{number_found, decimal_found}
use Rattle.inspect_places.proofs.pieces.number_len.Goals as goal

pub overflow_add-result-else-places-eq0 : goal.overflow_add-result-else-places-eq0
overflow_add-result-else-places-eq0 c =
    let h = decimal_found c.args.bytes.now c.requires.some c.requires.first _ _ c.digits_len-whole.ensures.value c.fraction_len-places.ensures c.if-places-eq0.false in
    omega (arith, h.1)

pub returns-then-places-eq0 : goal.returns-then-places-eq0
returns-then-places-eq0 c =
    (Lexeme kind.Number, number_found c.args.bytes.now c.requires.some c.requires.first _ _ c.digits_len-whole.ensures.value c.fraction_len-places.ensures c.if-places-eq0.true)

pub returns-else-places-eq0 : goal.returns-else-places-eq0
returns-else-places-eq0 c =
    (Lexeme kind.Decimal, decimal_found c.args.bytes.now c.requires.some c.requires.first _ _ c.digits_len-whole.ensures.value c.fraction_len-places.ensures c.if-places-eq0.false)
