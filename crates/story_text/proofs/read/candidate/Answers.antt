use Rattle.std.proofs.Common.{◌∙◌}
use Rattle.story_text.specs.Reading.{pair_entry, triple_entry, failed_entry}
use Rattle.story_text.proofs.LineReading.{AreRead, entry_is, ors_are}
use Rattle.story_text.proofs.read.candidate.Goals as goal

pub returns-in-Some-clause-reads : goal.returns-in-Some-clause-reads
returns-in-Some-clause-reads c e fits is =
    let read : AreRead c.in-Some.rest.now c.pair.result c.triple.result c.failed.result = record { pair = c.pair.ensures.reads; triple = c.triple.ensures.reads; failed = c.failed.ensures.reads } in
    let all = entry_is e c.args.line.now c.in-Some.word.now c.in-Some.rest.now c.pair.result c.triple.result c.failed.result read c.in-Some.ensures.parts fits is in
    ors_are c.of_pair.result c.of_triple.result c.of_failed.result (pair_entry c.in-Some.word.now c.pair.result) (triple_entry c.in-Some.word.now c.triple.result) (failed_entry c.in-Some.word.now c.failed.result)
    c.or.result c.or-in-Some.result c.or.ensures c.or-in-Some.ensures c.of_pair.ensures.entry c.of_triple.ensures.entry c.of_failed.ensures.entry ∙ all
