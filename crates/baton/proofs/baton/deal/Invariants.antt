use Rattle.std.proofs.Common.{◌≡◌, ◌≤◌, false, vec_len, vec_capacity}
use Rattle.crossbeam_queue.specs.Passes.{view, IsPassOf}
use Rattle.baton.specs.Rule.{dealer}
use Rattle.baton.specs.Passes.{new_passes, line_id}
use Rattle.baton.proofs.baton.deal.Given as goal

abbrev pub invariant-loop-number : goal.invariant-loop-number
invariant-loop-number g l =
    IsPassOf l.line l.seat
    × (view l.seat ≡ dealer l._number (view l.initial.seat).share.origin (view l.initial.seat).share.seen false)
    × (l.passes.items ≡ new_passes (line_id l.line) (view l.initial.seat).share.origin (view l.initial.seat).share.seen l._number)
    × (vec_len l.passes ≡ l._number)
    × (l.workers ≤ vec_capacity l.passes)
