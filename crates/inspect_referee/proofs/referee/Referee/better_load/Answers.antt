use Rattle.std.proofs.Common.{◌≡◌, ◌∙◌, true, false, sym, ap}
use Rattle.scan_story.specs.MayFollow.{is_target}
use Rattle.scan_story.specs.Legal.{cursor_at}
use Rattle.inspect_referee.specs.declared.rank.Choice.TheVariants.{Load}
use Rattle.inspect_referee.specs.declared.rank.Rank.{Rank}
use Rattle.inspect_referee.specs.Ranks.{NoneBetter, beats, rank_of}
use Rattle.inspect_referee.specs.Seen.{setting, seen}
use Rattle.inspect_referee.proofs.Bounds.{none_weaker}
use Rattle.inspect_referee.proofs.Settling.{best_target, load_settled}
use Rattle.inspect_referee.proofs.referee.Referee.better_load.Goals as goal

pub returns-in-Some-clause-none : goal.returns-in-Some-clause-none
returns-in-Some-clause-none c =
    let r = c.args.self.now in
    let s = setting r in
    let h = seen r in
    let q = c.args.q in
    let k = c.in-Some.ensures in
    let there = best_target s.policy (cursor_at s h) s h q c.in-Some.best k in
    none_weaker c.better_at.result (is_target s h q c.in-Some.best ≡ true → beats (rank_of s h Load q c.in-Some.best) c.rank_of-taken.result ≡ false) (NoneBetter s h Load q c.args.c)
    (λ f y t. load_settled s.policy (cursor_at s h) s h q c.in-Some.best c.args.c y k (ap (λ (x : Rank). beats (rank_of s h Load q c.in-Some.best) x) (sym c.rank_of-taken.ensures) ∙ f there) t) c.better_at.ensures.none
