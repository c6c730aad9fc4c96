use Rattle.std.proofs.Common.{◌≡◌, sym, subst}
use Rattle.scan_story.specs.declared.setting.PolicyName.{PolicyName}
use Rattle.scan_story.specs.Legal.{cursor_at}
use Rattle.scan_story.specs.Policies.{dist_from}
use Rattle.inspect_referee.specs.declared.rank.Rank.TheVariants.{Steps}
use Rattle.inspect_referee.specs.Ranks.{delivery_rank}
use Rattle.inspect_referee.specs.Seen.{setting, seen}
use Rattle.inspect_referee.proofs.Settling.{normal_steps}
use Rattle.inspect_referee.proofs.referee.Referee.start_for.Goals as goal

pub returns-in-Normal : goal.returns-in-Normal
returns-in-Normal c = λ y lt.
    let r = c.args.self.now in
    let s = setting r in
    subst (λ (n : PolicyName). delivery_rank n (cursor_at s (seen r)) s (seen r) c.args.q y ≡ Steps (dist_from s 0 y)) (sym c.in-Normal.is) (normal_steps s y lt)
