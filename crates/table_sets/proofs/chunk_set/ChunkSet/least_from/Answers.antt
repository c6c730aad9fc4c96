use Rattle.std.proofs.Common.{◌<◌, ◌^◌, ◌/◌, arith, rules, get_or}
use Rattle.std.proofs.lemmas.Bool.{cases_lt}
use Rattle.std.proofs.Common.{inl, inr}
use Rattle.table_sets.specs.declared.limits.TheConstants.{MOST_CHUNKS}
use Rattle.table_sets.proofs.Members.{none-left, first-left, none-from, least-from}
use Rattle.table_sets.proofs.chunk_set.ChunkSet.least_from.Goals as goal

pub returns-then-word-ne0-clause-least : goal.returns-then-word-ne0-clause-least
returns-then-word-ne0-clause-least c =
    let words = c.self.inside.words in
    let from = c.loop-from.from in
    let small : get_or words (from / 64) 0 < 2 ^ 64 = search rules in
    let found = first-left words from small (omega (arith, c.if-word-ne0.true)) in
    rw (← c.self.view_is) (least-from words c.args.c MOST_CHUNKS _ (omega (arith, c.loop-from.invariant.onward)) (omega (arith, found.0, c.loop-from-test.true)) found.1
    (λ x low high. elim (cases_lt x from) [
      | inl before ↦ c.loop-from.invariant.none x low before (omega (arith, before, c.loop-from-test.true))
      | inr after ↦ found.2 x after high
    ]))

pub loop-from-preserved : goal.loop-from-preserved
loop-from-preserved c =
    let words = c.self.inside.words in
    let from = c.loop-from.from in
    record {
      onward = omega (arith, c.loop-from.invariant.onward);
      none = λ x low high below. elim (cases_lt x from) [
        | inl before ↦ c.loop-from.invariant.none x low before below
        | inr after ↦ none-left words from x (omega (arith, c.if-word-ne0.false)) after high
      ];
    }

pub returns-clause-none : goal.returns-clause-none
returns-clause-none c x after =
    rw (← c.self.view_is) (none-from c.self.inside.words c.args.c MOST_CHUNKS x (λ y low high. c.loop-from.invariant.none y low (omega (arith, high, c.loop-from-test.false)) high) after)
