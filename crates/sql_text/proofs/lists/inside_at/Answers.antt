use Rattle.std.proofs.Common.{◌≡◌, sym, Some, None, refl}
use Rattle.std.proofs.lemmas.Result.{err_from_is_err_and}
use Rattle.sql_text.specs.declared.word.Sign.TheVariants.{Open, Close}
use Rattle.sql_text.specs.Reading.{after_sign}
use Rattle.sql_text.specs.Words.{tokens_of}
use Rattle.sql_text.proofs.Rules.{fails_on}
use Rattle.sql_text.proofs.lists.inside_at.Goals as goal

pub returns-in_default : goal.returns-in_default
returns-in_default c =
    let e : after_sign Open (tokens_of c.args.words.now) ≡ None = sym c.in_default.ensures in
    rw e refl

pub returns-in_err-name : goal.returns-in_err-name
returns-in_err-name c =
    let e : after_sign Open (tokens_of c.args.words.now) ≡ Some (tokens_of c.in-Some.rest.now) = sym c.in-Some.ensures in
    let p = err_from_is_err_and c.from_residual.result c.from_residual.ensures.1 in
    rw (p.1, p.2, e) (fails_on _ _ _ c.in_err-name.ensures)

pub returns-in-Some-after_sign : goal.returns-in-Some-after_sign
returns-in-Some-after_sign c =
    let e : after_sign Open (tokens_of c.args.words.now) ≡ Some (tokens_of c.in-Some.rest.now) = sym c.in-Some.ensures in
    let f : after_sign Close (tokens_of c.in_ok-name.rest.now) ≡ Some (tokens_of c.in-Some-after_sign.rest.now) = sym c.in-Some-after_sign.ensures in
    rw (e, c.in_ok-name.ensures, f) refl

pub returns-in-None : goal.returns-in-None
returns-in-None c =
    let e : after_sign Open (tokens_of c.args.words.now) ≡ Some (tokens_of c.in-Some.rest.now) = sym c.in-Some.ensures in
    let f : after_sign Close (tokens_of c.in_ok-name.rest.now) ≡ None = sym c.in-None.ensures in
    rw (e, c.in_ok-name.ensures, f) refl
