use Rattle.std.proofs.Common.{◌^◌, ◌∙◌, ◌++◌, arith}
use Rattle.std.specs.Prelude.{codes, decimal}
use Rattle.story_text.specs.Text.{why_text}
use Rattle.story_text.proofs.LineReading.{zip_is, first_number}
use Rattle.story_text.proofs.read.query_piece_and_why.Goals as goal

pub returns-in-Some : goal.returns-in-Some
returns-in-Some c = record {
  reads = λ q p y lq lp fy is.
      let one = first_number (2 ^ 32) q c.args.text.now c.in-Some.query.now c.in-Some.rest.now (decimal p ++ (codes " " ++ why_text y)) c.short_number.result (omega arith) c.in-Some.ensures.parts lq is c.short_number.ensures.value c.short_number.ensures.none in
      c.zip.ensures ∙ zip_is c.short_number.result c.piece_and_why.result q (p, y) one.0 (c.piece_and_why.ensures.reads p y lp fy one.1);
}
