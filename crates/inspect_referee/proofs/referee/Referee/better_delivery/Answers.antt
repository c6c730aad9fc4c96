use Rattle.std.proofs.Common.{◌≡◌, ◌∙◌, ℕ, true, false, sym, ap}
use Rattle.scan_story.specs.Counting.{has}
use Rattle.inspect_referee.specs.declared.rank.Choice.TheVariants.{Delivery}
use Rattle.inspect_referee.specs.declared.rank.Rank.{Rank}
use Rattle.inspect_referee.specs.Ranks.{NoneBetter, beats, is_candidate, rank_of}
use Rattle.inspect_referee.specs.Seen.{setting, seen}
use Rattle.inspect_referee.proofs.Bounds.{none_weaker}
use Rattle.inspect_referee.proofs.referee.Referee.better_delivery.Goals as goal

pub returns-in-None-clause-none : goal.returns-in-None-clause-none
returns-in-None-clause-none c =
    let r = c.args.self.now in
    let s = setting r in
    let h = seen r in
    let q = c.args.q in
    none_weaker c.better_among.result ((y : ℕ) → has c.deliverable.result y ≡ true → is_candidate s h Delivery q y ≡ true → beats (rank_of s h Delivery q y) c.rank_of-taken.result ≡ false) (NoneBetter s h Delivery q c.args.c)
    (λ f y t. ap (λ (x : Rank). beats (rank_of s h Delivery q y) x) (sym c.rank_of-taken.ensures) ∙ f y (c.deliverable.ensures s h c.requires.reading.stands y ∙ t) t) c.better_among.ensures.none
