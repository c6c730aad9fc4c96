use Rattle.std.proofs.Common.{ℕ, refl, subst, arith}
use Rattle.std.specs.Prelude.{IfErr, Result}
use Rattle.std.specs.declared.alloc.Global.{Global}
use Rattle.std.specs.declared.vec.Vec.{Vec}
use Rattle.story_text.specs.Reading.{IsFirstBad}
use Rattle.scan_story.specs.declared.entry.Entry.{Entry}
use Rattle.inspect_verdict.proofs.PartLines.{line_within}
use Rattle.inspect_verdict.proofs.Placed.{no_entry_at}
use Rattle.inspect_verdict.proofs.output_reading.told_at_end.Goals as goal

pub overflow_add-line : goal.overflow_add-line
overflow_add-line c =
    let low = line_within c.args.output.now c.args.trace.now c.line_of_end-first.result c.line_of_end-first.ensures in
    omega (arith, low, c.requires.short)

pub returns-in-Err-clause-bad : goal.returns-in-Err-clause-bad
returns-in-Err-clause-bad c i whole =
    let Bad = λ (r : Result (Vec Entry Global) ℕ). IfErr r (IsFirstBad c.args.trace.now) in
    no_entry_at i c.args.output.now c.args.trace.now c.line_of_end-first.result c.in-Err.line _ whole c.line_of_end-first.ensures (subst Bad c.in-Err.is c.in_ok-story.ensures.bad) refl
