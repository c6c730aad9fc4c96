use Rattle.std.proofs.Common.{◌∙◌, sym}
use Rattle.inspect_referee.specs.Seen.{setting, seen}
use Rattle.inspect_referee.proofs.Wholes.{whole_is, whole_true}
use Rattle.inspect_referee.proofs.referee.Referee.is_whole.Goals as goal

pub returns : goal.returns
returns c =
    let r = c.args.self.now in
    (λ t. whole_is (setting r) (seen r) c.requires.stands.followed (sym c.is_complete.ensures ∙ t), λ k. c.is_complete.ensures ∙ whole_true (setting r) (seen r) k)
