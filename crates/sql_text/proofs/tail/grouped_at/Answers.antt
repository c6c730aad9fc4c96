use Rattle.std.proofs.Common.{◌≡◌, sym, Some, None, refl}
use Rattle.std.proofs.lemmas.Result.{err_from_is_err_and}
use Rattle.sql_tokens.specs.declared.keyword.Keyword.TheVariants as key
use Rattle.sql_text.specs.Reading.{after_key}
use Rattle.sql_text.specs.Words.{tokens_of}
use Rattle.sql_text.proofs.Tokens.{none_left, some_left}
use Rattle.sql_text.proofs.Rules.{fails_on}
use Rattle.sql_text.proofs.tail.grouped_at.Goals as goal

pub returns-in_default : goal.returns-in_default
returns-in_default c =
    let e : after_key key.By (tokens_of c.args.words.now) ≡ None = sym c.in_default.ensures in
    rw e refl

pub returns-in_err-keys : goal.returns-in_err-keys
returns-in_err-keys c =
    let e : after_key key.By (tokens_of c.args.words.now) ≡ Some (tokens_of c.in-Some.rest.now) = sym c.in-Some.ensures in
    let p = err_from_is_err_and c.from_residual.result c.from_residual.ensures.1 in
    rw (p.1, p.2, e) (fails_on _ _ _ c.in_err-keys.ensures)

pub returns-in-empty : goal.returns-in-empty
returns-in-empty c =
    let e : after_key key.By (tokens_of c.args.words.now) ≡ Some (tokens_of c.in-Some.rest.now) = sym c.in-Some.ensures in
    rw (e, c.in_ok-keys.ensures, none_left c.in_ok-keys.rest.now c.in-empty.len_below, c.new.ensures.items) refl

pub returns-in_default-rest : goal.returns-in_default-rest
returns-in_default-rest c =
    let e : after_key key.By (tokens_of c.args.words.now) ≡ Some (tokens_of c.in-Some.rest.now) = sym c.in-Some.ensures in
    rw (e, c.in_ok-keys.ensures) (some_left c.in_ok-keys.keys.items c.in_ok-keys.rest.now c.in_default-rest.len_at_least)
