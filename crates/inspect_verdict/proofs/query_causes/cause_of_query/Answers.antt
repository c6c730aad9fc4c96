use Rattle.std.proofs.Common.{◌≡◌, ◌∙◌, ◌+◌, ◌-◌, suc, rules, ap, arith}
use Rattle.std.specs.Prelude.{None, Option}
use Rattle.scan_story.specs.declared.cause.Cause.{Cause}
use Rattle.scan_story.specs.Causes.{cause_of}
use Rattle.scan_story.specs.Views.{past}
use Rattle.batch_plan.specs.Scans.{scan_number}
use Rattle.batch_ends.specs.Lost.{cause_from, or_first}
use Rattle.inspect_verdict.proofs.query_causes.cause_of_query.Goals as goal

pub loop-part-preserved : goal.loop-part-preserved
loop-part-preserved c =
    let h = past c.args.story.now in
    let parts = c.args.parts in
    let q = c.args.query in
    let part = c.loop-part.part in
    let left = parts - (part + 1) in
    let len : parts - part ≡ suc left = omega (arith, c.loop-part-test.true) in
    let missing : c.cause_of-cause.result ≡ None = search rules in
    let none : cause_of h (scan_number parts q part) ≡ None = search rules in
    c.loop-part.invariant ∙ (ap (cause_from h parts q part) len ∙ ap (λ (o : Option Cause). or_first o (cause_from h parts q (part + 1) left)) none)
