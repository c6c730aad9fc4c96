use Rattle.std.proofs.Common.{◌∙◌, ap, sym, arith}
use Rattle.inspect_referee.specs.Phases.{has_begun}
use Rattle.inspect_referee.specs.Seen.{setting, seen}
use Rattle.inspect_referee.proofs.Bounds.{not_registered, phase_begun}
use Rattle.inspect_referee.proofs.referee.Referee.is_registered.Goals as goal

pub returns-then-q-gt256 : goal.returns-then-q-gt256
returns-then-q-gt256 c = let r = c.args.self.now in sym (not_registered r.book (setting r) (seen r) c.args.q c.requires.stands (omega arith))

pub returns : goal.returns
returns c = let r = c.args.self.now in c.has_begun.ensures ∙ (ap has_begun (c.phase.ensures (setting r) (seen r) c.requires.stands) ∙ phase_begun (setting r) (seen r) c.args.q c.requires.stands.followed)
