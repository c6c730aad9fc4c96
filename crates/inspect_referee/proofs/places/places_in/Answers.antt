use Rattle.std.proofs.Common.{◌∙◌, length, sym, arith}
use Rattle.std.proofs.lemmas.List.{get_or-replicate}
use Rattle.inspect_referee.proofs.Placing.{ended}
use Rattle.inspect_referee.proofs.places.places_in.Goals as goal

pub loop-left-init : goal.loop-left-init
loop-left-init c = (omega arith, λ x small. get_or-replicate 1024 x 0 0 small ∙ sym (ended c.args.list.now (length c.args.list.now) x (omega arith)))
