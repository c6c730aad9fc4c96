use Rattle.std.proofs.Common.{◌∙◌, sym}
use Rattle.scan_story.specs.Views.{past}
use Rattle.help_judge.proofs.Legality.{allows_is, allows_true}
use Rattle.help_judge.proofs.legal.may_follow.Goals as goal

pub returns : goal.returns
returns c =
    let s = c.args.s.now in
    let h = past c.args.entries.now in
    let e = c.args.entry.now in
    (λ t. allows_is s h e (sym c.allows-may.ensures ∙ t), λ k. c.allows-may.ensures ∙ allows_true s h e k)
