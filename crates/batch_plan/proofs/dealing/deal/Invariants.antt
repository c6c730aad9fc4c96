use Rattle.std.proofs.Common.{◌≡◌, ◌≤◌, ℕ}
use Rattle.std.specs.Prelude.{◌&&◌, nat_lt}
use Rattle.table_sets.specs.Sets.{has}
use Rattle.batch_plan.specs.Deal.{place, is_dealt}
use Rattle.batch_plan.proofs.dealing.deal.Given as goal

abbrev pub invariant-loop-c : goal.invariant-loop-c
invariant-loop-c l = record {
  place : l.place ≡ place l.needed l.c;
  few : l.place ≤ l.c;
  dealt : (x : ℕ) → has l.dealt x ≡ (nat_lt x l.c && is_dealt l.needed l.parts l.part x);
}
