use Rattle.std.proofs.Common.{◌^◌, ◌∙◌, ◌++◌, arith}
use Rattle.std.specs.Prelude.{codes, decimal}
use Rattle.story_text.proofs.LineReading.{zip_is, first_number}
use Rattle.story_text.proofs.read.triple.Goals as goal

pub returns-in-Some : goal.returns-in-Some
returns-in-Some c = record {
  reads = λ a b d la lb ld is.
      let one = first_number (2 ^ 32) a c.args.text.now c.in-Some.first.now c.in-Some.rest.now (decimal b ++ (codes " " ++ decimal d)) c.short_number.result (omega arith) c.in-Some.ensures.parts la is c.short_number.ensures.value c.short_number.ensures.none in
      c.zip.ensures ∙ zip_is c.short_number.result c.pair.result a (b, d) one.0 (c.pair.ensures.reads b d lb ld one.1);
}
