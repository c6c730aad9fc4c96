use Rattle.std.proofs.Common.{ap, ◌∙◌, is_some, List}
use Rattle.scan_story.specs.declared.entry.Entry.{Entry}
use Rattle.scan_story.specs.Views.{past}
use Rattle.scan_story.specs.Causes.{cause_of}
use Rattle.abm_policy.proofs.Causing.{has_cause}
use Rattle.abm_policy.proofs.desk.Desk.cause.Goals as goal

pub returns-clause-exactly : goal.returns-clause-exactly
returns-clause-exactly g c =
    ap is_some (c.first_cause.ensures ∙ ap (λ (es : List Entry). cause_of (past es) c.args.q) (c.entries.ensures ∙ c.self.view_is)) ∙ has_cause (past c.args.self.now) c.args.q
