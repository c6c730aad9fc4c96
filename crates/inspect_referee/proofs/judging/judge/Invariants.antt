use Rattle.std.proofs.Common.{◌≡◌}
use Rattle.inspect_referee.specs.Seen.{IsReading}
use Rattle.inspect_referee.proofs.judging.judge.Given as goal

abbrev pub invariant-loop-place : goal.invariant-loop-place
invariant-loop-place l = record {
  reading : IsReading l.referee;
  choices : l.referee.choices ≡ l.fn.choices;
  terms : l.referee.terms.now ≡ l.terms;
  entries : l.referee.entries.now ≡ l.entries;
  place : l.referee.place ≡ l.place;
}
