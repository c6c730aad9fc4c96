use Rattle.std.proofs.Common.{◌≡◌, ◌<◌, ◌≤◌, ℕ, length}
use Rattle.chunk_interest.specs.Clients.{client_at}
use Rattle.chunk_interest.specs.Renewed.{IsRenewed}
use Rattle.chunk_interest.proofs.clients.Clients.renew.Given as goal

abbrev pub invariant-loop-q : goal.invariant-loop-q
invariant-loop-q l = record {
  size : length l.self ≡ length l.fn.self;
  rest : (k : ℕ) → l.q ≤ k → client_at l.self k ≡ client_at l.fn.self k;
  done : (k : ℕ) → k < l.q → IsRenewed l.buffer.places.items l.buffer.groups l.c (client_at l.fn.self k) (client_at l.self k);
}
