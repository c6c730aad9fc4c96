use Rattle.std.proofs.Common.{◌≡◌, ◌+◌, ◌-◌, ◌++◌, ◌∷◌, List, [], drop, length, take, arith, ap, sym, subst, length-append}
use Rattle.query_gather.specs.declared.answer.Answer.{Answer}
use Rattle.batch_ends.specs.Answering.{AnswersSome, AreAllJoinable, Came}
use Rattle.batch_ends.proofs.Results.{answers_more, may_join, next_joinable}
use Rattle.batch_ends.proofs.answering.answer_all.Goals as goal

pub take_parts-kept-requires : goal.take_parts-kept-requires
take_parts-kept-requires c =
    (next_joinable c.args.parts (c.args.queries - c.loop-query._query) (c.args.queries - (c.loop-query._query + 1)) c.loop-query.results.items (omega (arith, c.loop-query-test.true)) c.loop-query.invariant.joinable).0

pub answer_of-requires : goal.answer_of-requires
answer_of-requires c =
    may_join (take c.args.parts c.loop-query.results.items) c.take_parts-kept.result c.take_parts-kept.ensures.parts
    (next_joinable c.args.parts (c.args.queries - c.loop-query._query) (c.args.queries - (c.loop-query._query + 1)) c.loop-query.results.items (omega (arith, c.loop-query-test.true)) c.loop-query.invariant.joinable).1

pub loop-query-preserved : goal.loop-query-preserved
loop-query-preserved c =
    let parts = c.args.parts in
    let rs = c.args.results.items in
    let old = c.loop-query.answers.items in
    let now = c.loop-query.results.items in
    let before = c.loop-query.invariant in
    let answer = c.answer_of.result in
    let left = c.args.queries - (c.loop-query._query + 1) in
    let grown : c.push_reserved.new.self.items ≡ old ++ answer ∷ [] = c.push_reserved.ensures.items in
    let rest : c.take_parts-kept.new.results.items ≡ drop parts now = c.take_parts-kept.ensures.left in
    let Grown = λ (answers : List Answer). AnswersSome parts rs answers c.take_parts-kept.new.results.items in
    let Rest = λ (l : List Came). AnswersSome parts rs (old ++ answer ∷ []) l in
    let Joinable = λ (l : List Came). AreAllJoinable parts left l in
    record {
      answered = subst Grown (sym grown) (subst Rest (sym rest) (answers_more parts rs old now answer before.answered (c.answer_of.ensures (take parts now) c.take_parts-kept.ensures.parts)));
      joinable = subst Joinable (sym rest) (next_joinable parts (c.args.queries - c.loop-query._query) left now (omega (arith, c.loop-query-test.true)) before.joinable).2;
      count = let long = ap length grown in omega (arith, long, length-append old (answer ∷ []), before.count);
      room = omega (arith, before.room, c.push_reserved.ensures.capacity);
    }
