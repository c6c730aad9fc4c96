use Rattle.std.proofs.Common.{◌≡◌, sym, ap, ◌∙◌, Some, None, refl}
use Rattle.std.proofs.lemmas.Result.{err_from_is_err_and}
use Rattle.sql_text.specs.Reading as spec
use Rattle.sql_tokens.specs.declared.keyword.Keyword.TheVariants as key
use Rattle.sql_text.specs.declared.word.Sign.TheVariants.{Open}
use Rattle.sql_text.specs.Reading.{tree_of, rest_seen, column_seen}
use Rattle.sql_text.specs.Words.{name_of, tokens_of}
use Rattle.sql_text.proofs.Rules.{or_at-zero, or_tail_at-zero, and_at-zero, and_tail_at-zero, not_at-zero, or_at-more, or_tail_at-more, and_at-more, and_tail_at-more, not_at-more, fails_on}
use Rattle.sql_text.proofs.conditions.+condition.Goals as goal

pub or_at-returns-then-depth-eq0 : goal.or_at-returns-then-depth-eq0
or_at-returns-then-depth-eq0 t c =
    or_at-zero c.args.depth (tokens_of c.args.words.now) c.if-depth-eq0.true

pub or_at-returns : goal.or_at-returns
or_at-returns t c =
    rw (or_at-more c.args.depth (tokens_of c.args.words.now) c.if-depth-eq0.false, c.in_ok-first.ensures) c.or_tail_at.ensures

pub or_at-returns-in_err-first : goal.or_at-returns-in_err-first
or_at-returns-in_err-first t c =
    let p = err_from_is_err_and c.from_residual.result c.from_residual.ensures.1 in
    rw (p.1, p.2, or_at-more c.args.depth (tokens_of c.args.words.now) c.if-depth-eq0.false) (fails_on _ _ _ c.in_err-first.ensures)

pub or_tail_at-returns-then-depth-eq0 : goal.or_tail_at-returns-then-depth-eq0
or_tail_at-returns-then-depth-eq0 t c =
    or_tail_at-zero c.args.depth (tree_of c.args.left) (tokens_of c.args.words.now) c.if-depth-eq0.true

pub or_tail_at-returns-in_err-right-in-Some : goal.or_tail_at-returns-in_err-right-in-Some
or_tail_at-returns-in_err-right-in-Some t c =
    let e : spec.after_key key.Or (tokens_of c.args.words.now) ≡ Some (tokens_of c.in-Some.rest.now) = sym c.after_key.ensures ∙ ap rest_seen c.in-Some.is in
    let p = err_from_is_err_and c.from_residual.result c.from_residual.ensures.1 in
    rw (p.1, p.2, or_tail_at-more c.args.depth (tree_of c.args.left) (tokens_of c.args.words.now) c.if-depth-eq0.false, e) (fails_on _ _ _ c.in_err-right-in-Some.ensures)

pub or_tail_at-returns-in_ok-both-in-Some : goal.or_tail_at-returns-in_ok-both-in-Some
or_tail_at-returns-in_ok-both-in-Some t c =
    let e : spec.after_key key.Or (tokens_of c.args.words.now) ≡ Some (tokens_of c.in-Some.rest.now) = sym c.after_key.ensures ∙ ap rest_seen c.in-Some.is in
    let m = rw c.in_ok-both-in-Some.ensures at c.or_tail_at.ensures in
    rw (or_tail_at-more c.args.depth (tree_of c.args.left) (tokens_of c.args.words.now) c.if-depth-eq0.false, e, c.in_ok-right-in-Some.ensures) m

pub or_tail_at-returns-in-None : goal.or_tail_at-returns-in-None
or_tail_at-returns-in-None t c =
    let e : spec.after_key key.Or (tokens_of c.args.words.now) ≡ None = sym c.after_key.ensures ∙ ap rest_seen c.in-None.is in
    rw (or_tail_at-more c.args.depth (tree_of c.args.left) (tokens_of c.args.words.now) c.if-depth-eq0.false, e) refl

pub and_at-returns-then-depth-eq0 : goal.and_at-returns-then-depth-eq0
and_at-returns-then-depth-eq0 t c =
    and_at-zero c.args.depth (tokens_of c.args.words.now) c.if-depth-eq0.true

pub and_at-returns : goal.and_at-returns
and_at-returns t c =
    rw (and_at-more c.args.depth (tokens_of c.args.words.now) c.if-depth-eq0.false, c.in_ok-first.ensures) c.and_tail_at.ensures

pub and_at-returns-in_err-first : goal.and_at-returns-in_err-first
and_at-returns-in_err-first t c =
    let p = err_from_is_err_and c.from_residual.result c.from_residual.ensures.1 in
    rw (p.1, p.2, and_at-more c.args.depth (tokens_of c.args.words.now) c.if-depth-eq0.false) (fails_on _ _ _ c.in_err-first.ensures)

pub and_tail_at-returns-then-depth-eq0 : goal.and_tail_at-returns-then-depth-eq0
and_tail_at-returns-then-depth-eq0 t c =
    and_tail_at-zero c.args.depth (tree_of c.args.left) (tokens_of c.args.words.now) c.if-depth-eq0.true

pub and_tail_at-returns-in_err-right-in-Some : goal.and_tail_at-returns-in_err-right-in-Some
and_tail_at-returns-in_err-right-in-Some t c =
    let e : spec.after_key key.And (tokens_of c.args.words.now) ≡ Some (tokens_of c.in-Some.rest.now) = sym c.after_key.ensures ∙ ap rest_seen c.in-Some.is in
    let p = err_from_is_err_and c.from_residual.result c.from_residual.ensures.1 in
    rw (p.1, p.2, and_tail_at-more c.args.depth (tree_of c.args.left) (tokens_of c.args.words.now) c.if-depth-eq0.false, e) (fails_on _ _ _ c.in_err-right-in-Some.ensures)

pub and_tail_at-returns-in_ok-both-in-Some : goal.and_tail_at-returns-in_ok-both-in-Some
and_tail_at-returns-in_ok-both-in-Some t c =
    let e : spec.after_key key.And (tokens_of c.args.words.now) ≡ Some (tokens_of c.in-Some.rest.now) = sym c.after_key.ensures ∙ ap rest_seen c.in-Some.is in
    let m = rw c.in_ok-both-in-Some.ensures at c.and_tail_at.ensures in
    rw (and_tail_at-more c.args.depth (tree_of c.args.left) (tokens_of c.args.words.now) c.if-depth-eq0.false, e, c.in_ok-right-in-Some.ensures) m

pub and_tail_at-returns-in-None : goal.and_tail_at-returns-in-None
and_tail_at-returns-in-None t c =
    let e : spec.after_key key.And (tokens_of c.args.words.now) ≡ None = sym c.after_key.ensures ∙ ap rest_seen c.in-None.is in
    rw (and_tail_at-more c.args.depth (tree_of c.args.left) (tokens_of c.args.words.now) c.if-depth-eq0.false, e) refl

pub not_at-returns-then-depth-eq0 : goal.not_at-returns-then-depth-eq0
not_at-returns-then-depth-eq0 t c =
    not_at-zero c.args.depth (tokens_of c.args.words.now) c.if-depth-eq0.true

pub not_at-returns-in_err-inner : goal.not_at-returns-in_err-inner
not_at-returns-in_err-inner t c =
    let e : spec.after_key key.Not (tokens_of c.args.words.now) ≡ Some (tokens_of c.in-Some.rest.now) = sym c.after_key.ensures ∙ ap rest_seen c.in-Some.is in
    let p = err_from_is_err_and c.from_residual.result c.from_residual.ensures.1 in
    rw (p.1, p.2, not_at-more c.args.depth (tokens_of c.args.words.now) c.if-depth-eq0.false, e) (fails_on _ _ _ c.in_err-inner.ensures)

pub not_at-returns-in-Some : goal.not_at-returns-in-Some
not_at-returns-in-Some t c =
    let e : spec.after_key key.Not (tokens_of c.args.words.now) ≡ Some (tokens_of c.in-Some.rest.now) = sym c.after_key.ensures ∙ ap rest_seen c.in-Some.is in
    rw (not_at-more c.args.depth (tokens_of c.args.words.now) c.if-depth-eq0.false, e, c.in_ok-inner.ensures, c.in_ok-negated.ensures) refl

pub not_at-returns-in_err-inner-2 : goal.not_at-returns-in_err-inner-2
not_at-returns-in_err-inner-2 t c =
    let e0 : spec.after_key key.Not (tokens_of c.args.words.now) ≡ None = sym c.after_key.ensures ∙ ap rest_seen c.in_default.is in
    let e : spec.after_sign Open (tokens_of c.args.words.now) ≡ Some (tokens_of c.in-Some-after_sign.rest.now) = sym c.after_sign.ensures ∙ ap rest_seen c.in-Some-after_sign.is in
    let p = err_from_is_err_and c.from_residual-in_err-inner-2.result c.from_residual-in_err-inner-2.ensures.1 in
    rw (p.1, p.2, not_at-more c.args.depth (tokens_of c.args.words.now) c.if-depth-eq0.false, e0, e) (fails_on _ _ _ c.in_err-inner-2.ensures)

pub not_at-returns-in-Some-after_sign : goal.not_at-returns-in-Some-after_sign
not_at-returns-in-Some-after_sign t c =
    let e0 : spec.after_key key.Not (tokens_of c.args.words.now) ≡ None = sym c.after_key.ensures ∙ ap rest_seen c.in_default.is in
    let e : spec.after_sign Open (tokens_of c.args.words.now) ≡ Some (tokens_of c.in-Some-after_sign.rest.now) = sym c.after_sign.ensures ∙ ap rest_seen c.in-Some-after_sign.is in
    rw (not_at-more c.args.depth (tokens_of c.args.words.now) c.if-depth-eq0.false, e0, e, c.in_ok-inner-2.ensures) c.close_at.ensures

pub not_at-returns-in-Some-column_at : goal.not_at-returns-in-Some-column_at
not_at-returns-in-Some-column_at t c =
    let e0 : spec.after_key key.Not (tokens_of c.args.words.now) ≡ None = sym c.after_key.ensures ∙ ap rest_seen c.in_default.is in
    let e1 : spec.after_sign Open (tokens_of c.args.words.now) ≡ None = sym c.after_sign.ensures ∙ ap rest_seen c.in_default-after_sign.is in
    let e : spec.column_at (tokens_of c.args.words.now) ≡ Some (name_of c.in-Some-column_at.is_quoted c.in-Some-column_at.spelling.now, tokens_of c.in-Some-column_at.rest.now) = sym c.column_at.ensures ∙ ap column_seen c.in-Some-column_at.is in
    rw (not_at-more c.args.depth (tokens_of c.args.words.now) c.if-depth-eq0.false, e0, e1, e) c.leaf_at.ensures

pub not_at-returns-in-None : goal.not_at-returns-in-None
not_at-returns-in-None t c =
    let e0 : spec.after_key key.Not (tokens_of c.args.words.now) ≡ None = sym c.after_key.ensures ∙ ap rest_seen c.in_default.is in
    let e1 : spec.after_sign Open (tokens_of c.args.words.now) ≡ None = sym c.after_sign.ensures ∙ ap rest_seen c.in_default-after_sign.is in
    let e : spec.column_at (tokens_of c.args.words.now) ≡ None = sym c.column_at.ensures ∙ ap column_seen c.in-None.is in
    rw (not_at-more c.args.depth (tokens_of c.args.words.now) c.if-depth-eq0.false, e0, e1, e) refl
