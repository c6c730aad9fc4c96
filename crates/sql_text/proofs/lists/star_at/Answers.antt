use Rattle.std.proofs.Common.{◌≡◌, sym, ap, ◌∙◌, Some, None, refl}
use Rattle.sql_text.specs.declared.word.Sign.TheVariants.{Open, Star}
use Rattle.sql_text.specs.Reading.{after_sign, rest_seen}
use Rattle.sql_text.specs.Words.{tokens_of}
use Rattle.sql_text.proofs.lists.star_at.Goals as goal

pub returns-in_err-rest : goal.returns-in_err-rest
returns-in_err-rest c =
    let e : after_sign Open (tokens_of c.args.words.now) ≡ None = sym c.after_sign.ensures ∙ ap rest_seen c.in_err-rest.was in
    rw (c.from_residual.ensures, e) refl

pub returns-in_err-rest-2 : goal.returns-in_err-rest-2
returns-in_err-rest-2 c =
    let e : after_sign Open (tokens_of c.args.words.now) ≡ Some (tokens_of c.in_ok-rest.rest.now) = sym c.after_sign.ensures ∙ ap rest_seen c.in_ok-rest.was in
    let f : after_sign Star (tokens_of c.in_ok-rest.rest.now) ≡ None = sym c.after_sign-2.ensures ∙ ap rest_seen c.in_err-rest-2.was in
    rw (c.from_residual-in_err-rest-2.ensures, e, f) refl

pub returns : goal.returns
returns c =
    let e : after_sign Open (tokens_of c.args.words.now) ≡ Some (tokens_of c.in_ok-rest.rest.now) = sym c.after_sign.ensures ∙ ap rest_seen c.in_ok-rest.was in
    let f : after_sign Star (tokens_of c.in_ok-rest.rest.now) ≡ Some (tokens_of c.in_ok-rest-2.rest.now) = sym c.after_sign-2.ensures ∙ ap rest_seen c.in_ok-rest-2.was in
    rw (e, f) c.after_sign-3.ensures
