use Rattle.std.proofs.Common.{◌∙◌, drop, string_bytes, sym}
use Rattle.std.specs.Char.Utf16.{utf16_chars}
use Rattle.prepare_decode.proofs.Going.{wide-bad, wide-end, wide-more}
use Rattle.prepare_decode.proofs.wide.wide_text.Goals as goal

pub returns-in_default : goal.returns-in_default
returns-in_default c =
    let first = c.char_at-found.ensures.first in
    sym (wide-bad c.args.is_half c.args.units.now c.loop-at.at (string_bytes c.loop-at.text) (utf16_chars (drop c.char_at-found.result.1 c.args.units.now)) (rw c.in_default.is at first))
    ∙ c.loop-at.invariant.joins

pub loop-at-preserved : goal.loop-at-preserved
loop-at-preserved c =
    let first = c.char_at-found.ensures.first in
    let here = rw c.in-Some.is at first in
    let apart = rw c.in-Some.is at c.char_at-found.ensures.wide in
    record {
      within = c.char_at-found.ensures.next.1;
      joins = rw c.in_ok-push.ensures.bytes
          (sym (wide-more c.args.is_half c.args.units.now c.loop-at.at (string_bytes c.loop-at.text) c.in-Some.character c.char_at-found.result.1 here apart)
          ∙ c.loop-at.invariant.joins);
    }

pub returns : goal.returns
returns c = rw c.half_at.ensures
    (sym (wide-end c.args.is_half c.args.units.now c.loop-at.at (string_bytes c.loop-at.text) c.loop-at-test.false) ∙ c.loop-at.invariant.joins)
