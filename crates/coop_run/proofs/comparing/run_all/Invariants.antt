use Rattle.std.proofs.Common.{◌≡◌, ◌≤◌, ◌+◌, ◌*◌, ◌^◌, length}
use Rattle.std.specs.Prelude.{IfSome, Some, map}
use Rattle.command_words.specs.Views.{request_view}
use Rattle.run_inputs.specs.Ending.{AreInputs}
use Rattle.run_ends.specs.Devices.{depot_at}
use Rattle.run_ends.specs.Policies.{policy_at}
use Rattle.run_ends.proofs.Chain.{Continues}
use Rattle.coop_run.proofs.comparing.run_all.Given as goal

abbrev pub invariant-loop-policy : goal.invariant-loop-policy
invariant-loop-policy g l = record {
  long : length l.policy-iterator.rest.items ≡ l.policy-iterator.rest.len;
  few : g.D.Depot.gets l.made.depot + length l.policy-iterator.rest.items * 9464064 ≤ 2 ^ 63;
  first : IfSome l.first (AreInputs (request_view l.fn.request) (Some l.fn.texts.table) (Some l.fn.texts.batch));
  continues : Continues (request_view l.fn.request) (Some l.fn.texts.table) (Some l.fn.texts.batch)
      (map (λ p. policy_at ((goal.Policy-dyn g (p.vtable, p.value)).name p.value) ((goal.Policy-dyn g (p.vtable, p.value)).cursor p.value)) l.fn.policies.items)
      (depot_at (g.D.Depot.held l.fn.depot) (g.D.Depot.gets l.fn.depot) (g.D.Depot.faults l.fn.depot))
      (map (λ p. policy_at ((goal.Policy-dyn g (p.vtable, p.value)).name p.value) ((goal.Policy-dyn g (p.vtable, p.value)).cursor p.value)) l.policy-iterator.rest.items)
      (depot_at (g.D.Depot.held l.made.depot) (g.D.Depot.gets l.made.depot) (g.D.Depot.faults l.made.depot)) l.made.runs.items (l.made.status, l.made.text);
}
