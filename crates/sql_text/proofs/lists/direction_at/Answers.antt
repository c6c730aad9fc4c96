use Rattle.std.proofs.Common.{◌≡◌, sym, Some, None, refl}
use Rattle.sql_tokens.specs.declared.keyword.Keyword.TheVariants as key
use Rattle.sql_text.specs.Reading.{after_key}
use Rattle.sql_text.specs.Words.{tokens_of}
use Rattle.sql_text.proofs.lists.direction_at.Goals as goal

pub returns-in-Some : goal.returns-in-Some
returns-in-Some c =
    let e : after_key key.Desc (tokens_of c.args.words.now) ≡ Some (tokens_of c.in-Some.rest.now) = sym c.in-Some.ensures in
    rw e refl

pub returns-in-Some-after_key : goal.returns-in-Some-after_key
returns-in-Some-after_key c =
    let e : after_key key.Desc (tokens_of c.args.words.now) ≡ None = sym c.in_default.ensures in
    let f : after_key key.Asc (tokens_of c.args.words.now) ≡ Some (tokens_of c.in-Some-after_key.rest.now) = sym c.in-Some-after_key.ensures in
    rw (e, f) refl

pub returns-in-None : goal.returns-in-None
returns-in-None c =
    let e : after_key key.Desc (tokens_of c.args.words.now) ≡ None = sym c.in_default.ensures in
    let f : after_key key.Asc (tokens_of c.args.words.now) ≡ None = sym c.in-None.ensures in
    rw (e, f) refl
