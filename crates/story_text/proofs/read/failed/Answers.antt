use Rattle.std.proofs.Common.{◌^◌, ◌∙◌, ◌++◌, arith}
use Rattle.std.specs.Prelude.{codes, decimal}
use Rattle.story_text.specs.Text.{why_text}
use Rattle.story_text.proofs.LineReading.{zip_is, first_number}
use Rattle.story_text.proofs.read.failed.Goals as goal

pub returns-in-Some : goal.returns-in-Some
returns-in-Some c = record {
  reads = λ w q p y lw lq lp fy is.
      let one = first_number (2 ^ 32) w c.args.text.now c.in-Some.worker.now c.in-Some.rest.now (decimal q ++ (codes " " ++ (decimal p ++ (codes " " ++ why_text y)))) c.short_number.result (omega arith) c.in-Some.ensures.parts lw is c.short_number.ensures.value c.short_number.ensures.none in
      c.zip.ensures ∙ zip_is c.short_number.result c.query_piece_and_why.result w (q, (p, y)) one.0 (c.query_piece_and_why.ensures.reads q p y lq lp fy one.1);
}
