use Rattle.std.proofs.Common.{◌≡◌, ◌∙◌, ◌<◌, ◌++◌, ◌∷◌, [], ℕ, List, get_or, rules, arith, ap, sym, length, length-append}
use Rattle.std.specs.Prelude.{None}
use Rattle.query_gather.specs.declared.answer.Answer.{Answer}
use Rattle.inspect_verdict.specs.Stops.{answer_with, answers_with}
use Rattle.inspect_verdict.proofs.Stopping.{answers-more, none_given}
use Rattle.inspect_verdict.proofs.stops.answers_with.Goals as goal

pub loop-answer-init : goal.loop-answer-init
loop-answer-init c = record {
  place = omega arith;
  given = rw c.new-given.ensures.items (sym (none_given c.args.stops.now));
  room = omega (arith, c.requires, ap length c.into_iter-answer-iterator.ensures.into_iter_gives.0);
}

pub loop-answer-preserved : goal.loop-answer-preserved
loop-answer-preserved c =
    let is = c.loop-answer.invariant in
    let stops = c.args.stops.now in
    let before = c.loop-answer.yielded in
    let answer = c.in-Some.answer in
    let grown = length-append before (answer ∷ []) in
    let next = ap length c.in-Some.ensures.steps.0 in
    let low : length before < length stops = omega (arith, is.room, next) in
    let pushed : c.push.new.self.items ≡ c.loop-answer.given.items ++ c.answer_with.result ∷ [] = search rules in
    let value : c.answer_with.result ≡ answer_with (get_or stops (length before) None) answer = c.answer_with.ensures ∙ ap (λ (k : ℕ). answer_with (get_or stops k None) answer) is.place in
    record {
      place = omega (arith, is.place, grown);
      given = pushed ∙ (ap (λ (xs : List Answer). xs ++ c.answer_with.result ∷ []) is.given
          ∙ (ap (λ (a : Answer). answers_with stops before ++ a ∷ []) value ∙ sym (answers-more stops before answer low)));
      room = omega (arith, is.room, grown, next);
    }
