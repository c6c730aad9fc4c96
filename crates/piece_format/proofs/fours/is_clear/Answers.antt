use Rattle.std.proofs.lemmas.Bool.{eqb-true}
use Rattle.piece_format.proofs.Lanes.{fold_clear}
use Rattle.piece_format.proofs.fours.is_clear.Goals as goal

pub returns : goal.returns
returns c = λ is l low. fold_clear c.args.found 0 l (eqb-true _ 0 is)
