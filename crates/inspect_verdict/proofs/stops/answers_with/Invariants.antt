use Rattle.std.proofs.Common.{◌≡◌, ◌+◌, length}
use Rattle.inspect_verdict.specs.Stops as spec
use Rattle.inspect_verdict.proofs.stops.answers_with.Given as goal

abbrev pub invariant-loop-answer : goal.invariant-loop-answer
invariant-loop-answer l = record {
  place : l.place ≡ length l.yielded;
  given : l.given.items ≡ spec.answers_with l.stops l.yielded;
  room : length l.yielded + length l.answer-iterator.rest.items ≡ length l.stops;
}
