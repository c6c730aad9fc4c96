use Rattle.std.proofs.Common.{◌∙◌, length, refl, sym, ap, inl, arith}
use Rattle.std.specs.Prelude.{Some}
use Rattle.command_words.specs.Views.{request_view}
use Rattle.run_ends.proofs.GivenTexts.{can-run}
use Rattle.run_ends.proofs.Chain.{all_made, begins_with, ends_in, goes_on, next_of, none_left, none_long, one_less}
use Rattle.run_ends.proofs.Small.{few_gets}
use Rattle.coop_run.proofs.comparing.run_all.Goals as goal

pub loop-policy-init : goal.loop-policy-init
loop-policy-init g c =
    let gives = c.into_iter-policy-iterator.ensures.into_iter_gives in
    record {
      long = ap length gives.0 ∙ (sym c.args.policies.ok.0 ∙ sym gives.1);
      few = omega (arith, ap length gives.0, c.requires.few, c.requires.gets);
      first = c.requires.first;
      continues = begins_with (request_view c.args.request.now) (Some c.args.texts.now.table) (Some c.args.texts.now.batch) _ c.args.policies.items c.into_iter-policy-iterator.result.rest.items _ c.new-3.result.items c.new-2.result
          gives.0 c.new-3.ensures.items (c.new-2.ensures ∙ c.new.ensures.items);
    }

pub inputs_for-requires-clause-first : goal.inputs_for-requires-clause-first
inputs_for-requires-clause-first g c κs within = rw c.take.ensures.value c.loop-policy.invariant.first

pub returns-in-Err : goal.returns-in-Err
returns-in-Err g c =
    let at = c.loop-policy.made in
    let next = next_of (request_view c.args.request.now) (Some c.args.texts.now.table) (Some c.args.texts.now.batch) _ _ _ _ at.runs.items (at.status, at.text) c.in-Some.policy c.next.new.self.rest.items c.loop-policy.policy-iterator.rest.items c.in-Some.ensures.steps.0
    c.loop-policy.invariant.continues in
    record {
      runs = rw (c.stopped.ensures.ending, c.stopped.ensures.runs, c.stopped.ensures.depot)
          (ends_in (request_view c.args.request.now) (Some c.args.texts.now.table) (Some c.args.texts.now.batch) _ _ _ _ _ _ at.runs.items at.runs.items (at.status, at.text) _ c.args.first next c.requires.first
          (inl (c.in-Err.stop, refl, refl, inl (c.in-Err.ensures.memory, record { story = refl; taken = refl; gets = refl; later = omega arith }))));
    }

pub run_next-requires-clause-can : goal.run_next-requires-clause-can
run_next-requires-clause-can g c κs within =
    can-run (request_view c.args.request.now) (Some c.args.texts.now.table) (Some c.args.texts.now.batch) c.in-Ok.inputs c.requires.limits c.requires.accepted c.in-Ok.ensures.given

pub run_next-requires-clause-gets : goal.run_next-requires-clause-gets
run_next-requires-clause-gets g c κs within = omega (arith, c.loop-policy.invariant.few)

pub returns-in-Err-run_next : goal.returns-in-Err-run_next
returns-in-Err-run_next g c =
    let at = c.loop-policy.made in
    let end = c.in-Err-run_next.compared in
    let next = next_of (request_view c.args.request.now) (Some c.args.texts.now.table) (Some c.args.texts.now.batch) _ _ _ _ at.runs.items (at.status, at.text) c.in-Some.policy c.next.new.self.rest.items c.loop-policy.policy-iterator.rest.items c.in-Some.ensures.steps.0
    c.loop-policy.invariant.continues in
    record {
      runs = ends_in (request_view c.args.request.now) (Some c.args.texts.now.table) (Some c.args.texts.now.batch) _ _ _ _ _ _ at.runs.items end.runs.items (at.status, at.text) _ c.in-Ok.inputs next c.in-Ok.ensures.given c.in-Err-run_next.ensures.ends;
    }

pub loop-policy-preserved : goal.loop-policy-preserved
loop-policy-preserved g c =
    let at = c.loop-policy.made in
    let made = c.in-Ok-run_next.made in
    let steps = c.in-Some.ensures.steps in
    let before = c.loop-policy.invariant in
    let run = c.in-Ok-run_next.ensures.next in
    let can = can-run (request_view c.args.request.now) (Some c.args.texts.now.table) (Some c.args.texts.now.batch) c.in-Ok.inputs c.requires.limits c.requires.accepted c.in-Ok.ensures.given in
    let next = next_of (request_view c.args.request.now) (Some c.args.texts.now.table) (Some c.args.texts.now.batch) _ _ _ _ at.runs.items (at.status, at.text) c.in-Some.policy c.next.new.self.rest.items c.loop-policy.policy-iterator.rest.items steps.0 before.continues in
    record {
      long = one_less c.in-Some.policy c.next.new.self.rest.items c.loop-policy.policy-iterator.rest.len c.next.new.self.rest.len steps.0 steps.1 before.long;
      few = omega (arith, few_gets c.in-Ok.inputs _ can run.made.is_run.are.worked, before.few, ap length steps.0);
      first = rw c.take.ensures.after tt;
      continues = goes_on (request_view c.args.request.now) (Some c.args.texts.now.table) (Some c.args.texts.now.batch) _ _ _ _ _ _ at.runs.items made.runs.items (at.status, at.text) (made.status, made.text) c.in-Ok.inputs next c.in-Ok.ensures.given run;
    }

pub returns : goal.returns
returns g c =
    let at = c.loop-policy.made in
    let rest = c.loop-policy.policy-iterator.rest in
    let none = none_long rest.items rest.len c.loop-policy.invariant.long c.in-None.ensures.steps.0 in
    record {
      runs = all_made (request_view c.args.request.now) (Some c.args.texts.now.table) (Some c.args.texts.now.batch) _ _ _ at.runs.items (at.status, at.text)
          (none_left (request_view c.args.request.now) (Some c.args.texts.now.table) (Some c.args.texts.now.batch) _ _ _ _ at.runs.items (at.status, at.text) rest.items none c.loop-policy.invariant.continues);
    }
