use Rattle.std.proofs.Common.{◌<◌, get_or, length, sym, ◌∙◌, arith}
use Rattle.std.proofs.lemmas.List.{take_more}
use Rattle.scan_story.specs.declared.entry.Entry.TheVariants.{Register}
use Rattle.help_judge.proofs.Legality.{step_true, step_false}
use Rattle.help_judge.proofs.legal.first_illegal.Goals as goal

pub loop-i-preserved : goal.loop-i-preserved
loop-i-preserved c =
    let lt : c.loop-i.i < length c.args.entries.now = omega arith in
    let more = take_more c.args.entries.now c.loop-i.i (Register 0 0) lt in
    step_true c.args.s.now c.args.entries.now c.loop-i.i (get_or c.args.entries.now c.loop-i.i (Register 0 0)) more c.loop-i.invariant (sym c.in_ok-may.ensures ∙ c.if-not-may.false)

pub returns-then-not-may : goal.returns-then-not-may
returns-then-not-may c =
    let lt : c.loop-i.i < length c.args.entries.now = omega arith in
    let more = take_more c.args.entries.now c.loop-i.i (Register 0 0) lt in
    step_false c.args.s.now c.args.entries.now c.loop-i.i (get_or c.args.entries.now c.loop-i.i (Register 0 0)) more lt c.loop-i.invariant (sym c.in_ok-may.ensures ∙ c.if-not-may.true)
