use Rattle.std.proofs.Common.{false, length, refl, sym, ◌∙◌, ap}
use Rattle.chunk_interest.proofs.Below.{true_false}
use Rattle.policy_box.proofs.Firsts.{all_push, parts_push, one_less, first_is, none_long, none_left}
use Rattle.policy_box.proofs.boxed.choose.Goals as goal

pub loop-policy-init : goal.loop-policy-init
loop-policy-init g c = record {
  parts = sym c.into_iter-policy-iterator.ensures.into_iter_gives.0;
  left = ap length c.into_iter-policy-iterator.ensures.into_iter_gives.0 ∙ (sym c.args.policies.ok.0 ∙ sym c.into_iter-policy-iterator.ensures.into_iter_gives.1);
  none = tt;
}

pub returns-then-is_named-clause-first : goal.returns-then-is_named-clause-first
returns-then-is_named-clause-first g c =
    first_is _ c.args.policies.items c.loop-policy.yielded c.loop-policy.policy-iterator.rest.items c.in-Some.policy c.next.new.self.rest.items c.loop-policy.invariant.parts c.in-Some.ensures.steps.0 c.loop-policy.invariant.none
    (c.if-is_named.ensures.0 refl)

pub loop-policy-preserved : goal.loop-policy-preserved
loop-policy-preserved g c = record {
  parts = parts_push c.args.policies.items c.loop-policy.yielded c.loop-policy.policy-iterator.rest.items c.in-Some.policy c.next.new.self.rest.items c.loop-policy.invariant.parts c.in-Some.ensures.steps.0;
  left = one_less c.in-Some.policy c.next.new.self.rest.items c.loop-policy.policy-iterator.rest.len c.next.new.self.rest.len (c.in-Some.ensures.steps.0) c.in-Some.ensures.steps.1 c.loop-policy.invariant.left;
  none = all_push _ c.loop-policy.yielded c.in-Some.policy c.loop-policy.invariant.none (λ e. true_false false (c.if-is_named.ensures.1 e) refl);
}

pub returns-clause-none : goal.returns-clause-none
returns-clause-none g c =
    none_left _ c.args.policies.items c.loop-policy.yielded c.loop-policy.policy-iterator.rest.items c.loop-policy.invariant.parts (none_long c.loop-policy.policy-iterator.rest.items c.loop-policy.policy-iterator.rest.len c.loop-policy.invariant.left c.in-None.ensures.steps.0) c.loop-policy.invariant.none
