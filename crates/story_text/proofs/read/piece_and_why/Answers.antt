use Rattle.std.proofs.Common.{◌^◌, ◌∙◌, arith}
use Rattle.story_text.specs.Text.{why_text}
use Rattle.story_text.proofs.LineReading.{zip_is, first_number}
use Rattle.story_text.proofs.read.piece_and_why.Goals as goal

pub returns-in-Some : goal.returns-in-Some
returns-in-Some c = record {
  reads = λ p y lp fy is.
      let one = first_number (2 ^ 32) p c.args.text.now c.in-Some.piece.now c.in-Some.rest.now (why_text y) c.short_number.result (omega arith) c.in-Some.ensures.parts lp is c.short_number.ensures.value c.short_number.ensures.none in
      c.zip.ensures ∙ zip_is c.short_number.result c.why.result p (y) one.0 (c.why.ensures.reads y fy one.1);
}
