use Rattle.std.proofs.Common.{refl, sym, arith}
use Rattle.std.proofs.lemmas.Grind.{common_steps}
use Rattle.story_text.proofs.Cuts.{cut_here, none_here}
use Rattle.setting_text.proofs.Parts.{parts_next, parts_last}
use Rattle.setting_text.proofs.words.parts_of.Goals as goal

pub loop-place-preserved : goal.loop-place-preserved
loop-place-preserved c = record {
  split =
      parts_next _ c.args.mark c.loop-place.parts.items _ _ c.args.bytes.now c.loop-place.rest.now _ _ c.in_ok-push.ensures.items refl
      (cut_here c.args.mark c.loop-place.rest.now c.in-Some.place (sym c.in-Some.ensures.value)) c.loop-place.invariant.split;
  short = grind (arith, common_steps, c.loop-place.invariant.short);
}

pub returns : goal.returns
returns c =
    parts_last _ c.args.mark c.loop-place.parts.items _ _ c.args.bytes.now c.loop-place.rest.now c.in_ok-push-2.ensures.items refl
    (none_here c.args.mark c.loop-place.rest.now (sym c.in_default.ensures.value)) c.loop-place.invariant.split
