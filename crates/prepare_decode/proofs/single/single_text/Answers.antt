use Rattle.std.proofs.Common.{◌∙◌, string_bytes, sym}
use Rattle.prepare_decode.specs.Decoding.{characters}
use Rattle.prepare_decode.proofs.Going.{single-bad, single-end, single-more}
use Rattle.prepare_decode.proofs.single.single_text.Goals as goal

pub returns-in-None : goal.returns-in-None
returns-in-None c =
    sym (single-bad (characters c.args.page) c.args.bytes.now c.loop-i.i (string_bytes c.loop-i.text) c.loop-i-test.true (sym c.of.ensures ∙ c.in-None.is)) ∙ c.loop-i.invariant

pub loop-i-preserved : goal.loop-i-preserved
loop-i-preserved c = rw c.in_ok-push-in-Some.ensures.bytes
    (sym (single-more (characters c.args.page) c.args.bytes.now c.loop-i.i (string_bytes c.loop-i.text) c.in-Some.character c.loop-i-test.true (sym c.of.ensures ∙ c.in-Some.is))
    ∙ c.loop-i.invariant)

pub returns : goal.returns
returns c = sym (single-end (characters c.args.page) c.args.bytes.now c.loop-i.i (string_bytes c.loop-i.text) c.loop-i-test.false) ∙ c.loop-i.invariant
