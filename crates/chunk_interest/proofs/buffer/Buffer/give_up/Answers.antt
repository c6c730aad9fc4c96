use Rattle.std.proofs.Common.{◌∷◌, arith}
use Rattle.scan_story.specs.declared.entry.Entry.TheVariants.{Failed}
use Rattle.chunk_interest.proofs.Buffering.{frames_failed, frames_kept}
use Rattle.chunk_interest.proofs.buffer.Buffer.give_up.Goals as goal

pub returns : goal.returns
returns c = λ s h w q p why is.
    let b = c.args.self.now in
    let e = c.settle.ensures in
    let few = b.sized.groups.1 in
    frames_kept s (Failed w q p why ∷ h) c.settle.new.self b.groups b.places.items b.begun.items e.groups e.places e.begun
    (frames_failed s w q p why h b.groups b.frames c.settle.new.self.frames b.places.items b.begun.items b.sized.groups.0 (omega (arith, few, b.sized.begun)) e.length e.frames is)
