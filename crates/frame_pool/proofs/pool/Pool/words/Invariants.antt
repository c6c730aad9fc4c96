use Rattle.std.proofs.Common.{◌≡◌, ◌<◌, ◌+◌, ◌*◌, ℕ, get_or}
use Rattle.frame_pool.specs.Steps.{IsWordOf}
use Rattle.frame_pool.proofs.pool.Pool.words.Given as goal

-- the seat is as it was, and the first places have their words
abbrev pub invariant-loop-k : goal.invariant-loop-k
invariant-loop-k g l = record {
  table : l.berth-inside.seat.table_id ≡ l.initial.berth-inside.seat.table_id;
  me : l.berth-inside.seat.me ≡ l.initial.berth-inside.seat.me;
  filling : l.berth-inside.filling ≡ l.initial.berth-inside.filling;
  read : (j : ℕ) → j < l.k → IsWordOf g.C.Content.pieces l.fn.berth.pins l.frame (l.first + j * l.step) (get_or l.words j 0);
}
