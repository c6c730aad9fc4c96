use Rattle.std.proofs.Common.{sym, arith}
use Rattle.inspect_referee.specs.Seen.{setting, seen}
use Rattle.inspect_referee.proofs.Bounds.{not_over}
use Rattle.inspect_referee.proofs.referee.Referee.has_ended.Goals as goal

pub returns-then-q-gt256 : goal.returns-then-q-gt256
returns-then-q-gt256 c = let r = c.args.self.now in sym (not_over r.book (setting r) (seen r) c.args.q c.requires.stands (omega arith))
