use Rattle.std.proofs.Common.{◌∙◌, sym}
use Rattle.scan_story.specs.Views.{past}
use Rattle.scan_story.specs.Legal.{cursor_at}
use Rattle.help_judge.specs.Tests.{allows, chooses}
use Rattle.help_judge.proofs.Bools.{and2, all2}
use Rattle.help_judge.proofs.Legality.{allows_is, allows_true, chooses_is, chooses_true}
use Rattle.help_judge.proofs.legal.may_come.Goals as goal

pub returns : goal.returns
returns c =
    let s = c.args.s.now in
    let h = past c.args.entries.now in
    let e = c.args.entry.now in (
      λ t. (let p = and2 (allows s h e) (chooses (cursor_at s h) s h e) (sym c.in_ok-may.ensures ∙ t) in (allows_is s h e p.0, chooses_is s h e p.1)),
      λ k. c.in_ok-may.ensures ∙ all2 (allows s h e) (chooses (cursor_at s h) s h e) (allows_true s h e k.0) (chooses_true s h e k.1),
    )
