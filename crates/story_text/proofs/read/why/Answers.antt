use Rattle.std.proofs.Common.{◌∙◌}
use Rattle.story_text.proofs.LineReading.{why_is}
use Rattle.story_text.proofs.read.why.Goals as goal

pub returns-in-Some : goal.returns-in-Some
returns-in-Some c = record {
  reads = λ y fits is.
      c.of_why.ensures ∙ why_is y c.args.text.now c.in-Some.word.now c.in-Some.rest.now c.long_pair.result c.short_number.result fits c.in-Some.ensures.parts is c.long_pair.ensures.reads c.short_number.ensures.value c.short_number.ensures.none;
}
