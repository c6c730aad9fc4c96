use Rattle.std.proofs.Common.{◌<◌, ap, ◌∙◌, sym, subst, Some, length, arith, ℕ, true}
use Rattle.std.specs.Option.{option_map}
use Rattle.scan_story.specs.Views.{past}
use Rattle.scan_story.specs.Loads.{underway, end_fill}
use Rattle.abm_policy.specs.Loads.{MayFinish}
use Rattle.abm_policy.proofs.Finishing.{may_go_on, filled_more, load_filled}
use Rattle.abm_policy.proofs.desk.Desk.finish_first.Goals as goal

pub finish_one-requires-clause-may : goal.finish_one-requires-clause-may
finish_one-requires-clause-may g c κs within =
    let s = g.S.Origin.origin.setting in
    let P : (ℕ × ℕ) → Type 0 = λ b. MayFinish (underway s (past c.loop-i.self)) c.args.w b.0 b.1 true in
    subst P (sym c.at-frame.ensures)
    (may_go_on (underway s (past c.loop-i.self)) c.args.w c.args.query c.args.chunk c.loop-i.i c.args.slots.now c.loop-i.invariant.load c.requires.none_twice (omega (arith, c.requires.some_left)))

pub loop-i-preserved : goal.loop-i-preserved
loop-i-preserved g c =
    let is = c.loop-i.invariant in
    let i = c.loop-i.i in
    let bs = c.args.slots.now in
    let f = c.at-frame.result.0 in
    let p = c.at-frame.result.1 in
    let lt : i < length bs = omega (arith, c.requires.some_left) in
    record {
      entries = filled_more c.args.w f p i c.args.self.now c.loop-i.self c.finish_one.new.self bs lt is.entries c.finish_one.ensures.entries c.at-frame.ensures;
      load = c.finish_one.ensures.load ∙ ap (option_map (end_fill p)) is.load ∙ ap Some (load_filled c.args.w c.args.query c.args.chunk i p bs lt (ap (λ (b : ℕ × ℕ). b.1) c.at-frame.ensures));
      reads = omega (arith, c.finish_one.ensures.reads, is.reads);
      last_fault = c.finish_one.ensures.last_fault ∙ is.last_fault;
    }
