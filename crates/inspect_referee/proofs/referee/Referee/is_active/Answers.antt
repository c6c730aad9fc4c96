use Rattle.std.proofs.Common.{sym, arith}
use Rattle.inspect_referee.specs.Seen.{setting, seen}
use Rattle.inspect_referee.proofs.Bounds.{not_active}
use Rattle.inspect_referee.proofs.referee.Referee.is_active.Goals as goal

pub returns-then-q-gt256-clause-is : goal.returns-then-q-gt256-clause-is
returns-then-q-gt256-clause-is c = let r = c.args.self.now in sym (not_active r.book (setting r) (seen r) c.args.q c.requires.stands (omega arith))
