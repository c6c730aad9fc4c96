use Rattle.std.proofs.Common.{◌^◌, ◌∙◌, arith}
use Rattle.std.specs.Prelude.{decimal}
use Rattle.story_text.proofs.LineReading.{zip_is, read_as, first_number}
use Rattle.story_text.proofs.read.long_pair.Goals as goal

pub returns-in-Some : goal.returns-in-Some
returns-in-Some c = record {
  reads = λ a b la lb is.
      let one = first_number (2 ^ 64) a c.args.text.now c.in-Some.first.now c.in-Some.second.now (decimal b) c.number.result (omega arith) c.in-Some.ensures.parts la is c.number.ensures.value c.number.ensures.none in
      let two = read_as (2 ^ 64) b c.in-Some.second.now c.number-in-Some.result (omega arith) lb one.1 c.number-in-Some.ensures.value c.number-in-Some.ensures.none in
      c.zip.ensures ∙ zip_is c.number.result c.number-in-Some.result a b one.0 two;
}
