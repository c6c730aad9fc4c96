use Rattle.std.proofs.Common.{◌≡◌, ◌≤◌, ◌<◌, ◌∙◌, ℕ, List, Bool, length, ap, subst, sym, arith}
use Rattle.std.proofs.lemmas.List.{get_or_default, length-set}
use Rattle.scan_story.proofs.Counts.{below_within}
use Rattle.chunk_interest.specs.declared.frame.Frame.{Frame}
use Rattle.chunk_interest.specs.declared.frame.Frame.TheVariants.{Free}
use Rattle.chunk_interest.specs.Frames.{frame_at, free_in, is_free_frame}
use Rattle.chunk_interest.specs.Freed.{bit}
use Rattle.chunk_interest.proofs.Marking.{frees_moved, frame_counted}
use Rattle.chunk_interest.proofs.frames.Frames.put.Goals as goal

pub exchanged-self-inside-requires-clause-counted : goal.exchanged-self-inside-requires-clause-counted
exchanged-self-inside-requires-clause-counted c =
    let fs = c.self.inside.list.items in
    let there = subst (λ (vs : List Frame). c.args.f < length vs) (sym c.self.view_is) c.requires in
    let was : c.is_free.result ≡ is_free_frame (frame_at fs c.args.f) = c.is_free.ensures ∙ ap is_free_frame (c.index-old.ensures ∙ sym (get_or_default fs c.args.f Free c.index-old.result.now there)) in
    subst (λ (n : ℕ). bit c.is_free.result ≤ n) (sym c.self.invariant.free) (subst (λ (b : Bool). bit b ≤ free_in fs) (sym was) (frame_counted fs c.args.f there))

pub exchanged-self-inside-requires-clause-room : goal.exchanged-self-inside-requires-clause-room
exchanged-self-inside-requires-clause-room c =
    let fs = c.self.inside.list.items in
    let most = below_within (λ f. is_free_frame (frame_at fs f)) (length fs) in
    omega (arith, most, c.self.invariant.few, c.self.invariant.free)

pub invariant_of-self : goal.invariant_of-self
invariant_of-self c =
    let fs = c.self.inside.list.items in
    let f = c.args.f in
    let there = subst (λ (vs : List Frame). f < length vs) (sym c.self.view_is) c.requires in
    let was : c.is_free.result ≡ is_free_frame (frame_at fs f) = c.is_free.ensures ∙ ap is_free_frame (c.index-old.ensures ∙ sym (get_or_default fs f Free c.index-old.result.now there)) in
    let before = ap bit was in
    let after = ap bit c.is_free-2.ensures in
    let moved = frees_moved fs f c.args.frame there in
    record {
      few = subst (λ (n : ℕ). n ≤ 33554432) (sym (length-set fs f c.args.frame)) c.self.invariant.few;
      free = omega (arith, moved, before, after, c.exchanged-self-inside.ensures, c.self.invariant.free);
    }
