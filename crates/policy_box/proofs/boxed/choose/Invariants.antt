use Rattle.std.proofs.Common.{◌≡◌, ◌≢◌, ◌++◌, length}
use Rattle.std.specs.List.{AllByRecursion}
use Rattle.policy_box.proofs.boxed.choose.Given as goal

abbrev pub invariant-loop-policy : goal.invariant-loop-policy
invariant-loop-policy g l = record {
  parts : l.fn.policies.items ≡ l.yielded ++ l.policy-iterator.rest.items;
  left : length l.policy-iterator.rest.items ≡ l.policy-iterator.rest.len;
  none : AllByRecursion (λ p. (goal.Policy-dyn g (p.vtable, p.value)).name p.value ≢ l.wanted) l.yielded;
}
