use Rattle.std.proofs.Common.{◌≡◌, ◌++◌, ◌∷◌, [], Some, None, sym, ap, ◌∙◌}
use Rattle.std.proofs.lemmas.Result.{err_from_is_err_and}
use Rattle.sql_text.specs.declared.word.Sign.TheVariants.{Comma}
use Rattle.sql_text.specs.Reading.{after_sign, rest_seen}
use Rattle.sql_text.specs.Words.{tokens_of}
use Rattle.sql_text.proofs.ReadLists.{starts, goes_on, shrinks, ends, first_breaks, breaks}
use Rattle.sql_text.proofs.lists.all_at.Goals as goal

pub loop-more-init : goal.loop-more-init
loop-more-init g c =
    starts g.T.Listed.thing_at c.requires.takes c.push.new.self.items (tokens_of c.args.words.now) (tokens_of c.in_ok-first.left.now) _ c.in_ok-first.ensures (c.in_ok-push.ensures.items ∙ ap (λ l. l ++ c.in_ok-first.first ∷ []) c.new-things.ensures.items)

pub loop-more-smaller : goal.loop-more-smaller
loop-more-smaller g c =
    let f : after_sign Comma (tokens_of c.loop-more.left.now) ≡ Some (tokens_of c.in-Some.more.now) = sym c.after_sign.ensures ∙ ap rest_seen c.in-Some.is in
    shrinks g.T.Listed.thing_at c.requires.takes (tokens_of c.loop-more.left.now) (tokens_of c.in-Some.more.now) (tokens_of c.in_ok-thing.rest.now) c.in_ok-thing.thing f c.in_ok-thing.ensures

pub loop-more-preserved : goal.loop-more-preserved
loop-more-preserved g c =
    let f : after_sign Comma (tokens_of c.loop-more.left.now) ≡ Some (tokens_of c.in-Some.more.now) = sym c.after_sign.ensures ∙ ap rest_seen c.in-Some.is in
    goes_on g.T.Listed.thing_at c.requires.takes c.loop-more.things.items c.push-in-Some.new.self.items (tokens_of c.loop-more.left.now) (tokens_of c.in-Some.more.now) (tokens_of c.in_ok-thing.rest.now) c.in_ok-thing.thing _ c.loop-more.invariant f c.in_ok-thing.ensures c.in_ok-push-2.ensures.items

pub returns-in_err-first : goal.returns-in_err-first
returns-in_err-first g c =
    let p = err_from_is_err_and c.from_residual.result c.from_residual.ensures.1 in
    rw (p.1, p.2) (first_breaks g.T.Listed.thing_at c.requires.takes _ (tokens_of c.args.words.now) c.in_err-first.ensures)

pub returns-in_err-thing : goal.returns-in_err-thing
returns-in_err-thing g c =
    let f : after_sign Comma (tokens_of c.loop-more.left.now) ≡ Some (tokens_of c.in-Some.more.now) = sym c.in-Some.ensures in
    let p = err_from_is_err_and c.from_residual-in_err-thing.result c.from_residual-in_err-thing.ensures.1 in
    rw (p.1, p.2) (breaks g.T.Listed.thing_at c.requires.takes _ c.loop-more.things.items (tokens_of c.loop-more.left.now) (tokens_of c.in-Some.more.now) _ c.loop-more.invariant f c.in_err-thing.ensures)

pub returns : goal.returns
returns g c =
    let f : after_sign Comma (tokens_of c.loop-more.left.now) ≡ None = sym c.in_default.ensures in
    ends g.T.Listed.thing_at c.requires.takes c.loop-more.things.items (tokens_of c.loop-more.left.now) _ c.loop-more.invariant f
