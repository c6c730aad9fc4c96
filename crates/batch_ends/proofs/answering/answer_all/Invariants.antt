use Rattle.std.proofs.Common.{◌≡◌, ◌≤◌, ◌-◌, length}
use Rattle.std.specs.Prelude.{vec_capacity}
use Rattle.batch_ends.specs.Answering.{AnswersSome, AreAllJoinable}
use Rattle.batch_ends.proofs.answering.answer_all.Given as goal

-- the first queries are answered, and the results of the others are left
abbrev pub invariant-loop-query : goal.invariant-loop-query
invariant-loop-query l = record {
  answered : AnswersSome l.parts l.fn.results.items l.answers.items l.results.items;
  joinable : AreAllJoinable l.parts (l.queries - l._query) l.results.items;
  count : length l.answers.items ≡ l._query;
  room : l.queries ≤ vec_capacity l.answers;
}
