use Rattle.std.proofs.Common.{◌≡◌, ◌∙◌, true, false, sym, ap}
use Rattle.scan_story.specs.MayFollow.{is_ready}
use Rattle.inspect_referee.specs.declared.rank.Choice.TheVariants.{Delivery}
use Rattle.inspect_referee.specs.declared.rank.Rank.{Rank}
use Rattle.inspect_referee.specs.Ranks.{NoneBetter, beats, rank_of}
use Rattle.inspect_referee.specs.Seen.{setting, seen}
use Rattle.inspect_referee.proofs.Bounds.{none_weaker}
use Rattle.inspect_referee.proofs.Settling.{ready_settled}
use Rattle.inspect_referee.proofs.referee.Referee.better_ready.Goals as goal

pub returns-in-Some-clause-none : goal.returns-in-Some-clause-none
returns-in-Some-clause-none c =
    let r = c.args.self.now in
    let s = setting r in
    let h = seen r in
    let q = c.args.q in
    let best = c.in-Some.best in
    let k = c.in-Some.ensures in
    none_weaker c.better_at.result (is_ready s h q best ≡ true → beats (rank_of s h Delivery q best) c.args.taken ≡ false) (NoneBetter s h Delivery q c.args.c)
    (λ f y t. ready_settled s h q c.args.start best c.args.c y (rank_of s h Delivery q) c.requires.steps k c.requires.candidate
    (ap (λ (x : Rank). beats (rank_of s h Delivery q best) x) (sym c.requires.taken) ∙ f k.candidate) t) c.better_at.ensures.none
