use Rattle.std.proofs.Common.{◌≡◌, true, vec_len, All}
use Rattle.crossbeam_queue.specs.Passes.{view, IsPassOf}
use Rattle.baton.specs.declared.view.Role.TheVariants.{Worker}
use Rattle.baton.specs.Passes.{AgreesWith, IsFree, line_id}
use Rattle.baton.proofs.baton.Baton.finish.Given as goal

abbrev pub invariant-loop-pass : goal.invariant-loop-pass
invariant-loop-pass g l =
    let origin = g.T.Storied.origin l.state in
    let story = g.T.Storied.story l.state in
    IsPassOf l.line l.seat
    × ((view l.seat).role ≡ Worker)
    × ((view l.seat).holding ≡ true)
    × ((view l.seat).share.origin ≡ origin)
    × ((view l.seat).share.seen ≡ story)
    × All (IsFree (line_id l.line)) l.passes.items
    × (All (AgreesWith origin story) l.passes.items → All (AgreesWith origin story) l.fn.passes.items)

abbrev pub decreases-loop-pass : goal.decreases-loop-pass
decreases-loop-pass g l = vec_len l.passes
