use Rattle.std.proofs.Common.{◌%◌, ◌∷◌, arith, List, Some, set, subst, sym}
use Rattle.scan_story.specs.declared.entry.Entry.TheVariants.{Fill}
use Rattle.chunk_interest.specs.declared.frame.Frame.{Frame}
use Rattle.chunk_interest.specs.Buffers.{AreFrames}
use Rattle.chunk_interest.proofs.Buffering.{frames_fill}
use Rattle.chunk_interest.proofs.Kept.{keeps}
use Rattle.chunk_interest.proofs.buffer.Buffer.begin.Goals as goal

pub returns : goal.returns
returns c = λ s h w ok all may is.
    let b = c.args.self.now in
    let few = b.sized.groups.1 in
    let p = c.args.piece in
    let Frames : List Frame → Type 0 = λ x. AreFrames s (Fill w c.args.frame p ∷ h) b.groups x b.places.items (set b.begun.items (p % b.groups) (Some c.args.frame)) in
    subst Frames (sym c.put.ensures) (frames_fill s w c.args.frame p h b.groups b.frames b.places.items b.begun.items b.sized.groups.0 (omega (arith, few, b.sized.begun)) (keeps s h ok all) may is)
