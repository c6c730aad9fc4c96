use Rattle.std.proofs.Common.{◌∙◌, sym}
use Rattle.scan_story.specs.Views.{past}
use Rattle.help_judge.proofs.Legality.{legal_is, legal_true}
use Rattle.help_judge.proofs.legal.is_legal.Goals as goal

pub returns : goal.returns
returns c =
    let h = past c.args.entries.now in
    (λ t. legal_is c.args.s.now h (sym c.in_ok-legal.ensures ∙ t), λ k. c.in_ok-legal.ensures ∙ legal_true c.args.s.now h k)
