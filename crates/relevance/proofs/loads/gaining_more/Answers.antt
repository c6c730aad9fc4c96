use Rattle.std.proofs.Common.{ℕ, sym, ap, ◌∙◌}
use Rattle.scan_story.specs.Ratios.{load_ratio}
use Rattle.relevance.specs.Best.{may_exceed}
use Rattle.relevance.proofs.Choosing.{no_greater}
use Rattle.relevance.proofs.Chosen.{target_misses}
use Rattle.relevance.proofs.loads.gaining_more.Goals as goal

pub returns-then-not-may_exceed : goal.returns-then-not-may_exceed
returns-then-not-may_exceed c = λ s h st is t.
    no_greater c.args.best c.args.c (load_ratio s h c.args.q c.args.c) (target_misses s h c.args.q c.args.c t)
    (ap (λ (n : ℕ). may_exceed n c.args.best) (sym (c.load_gain-num.ensures s h c.args.q st is)) ∙ (sym c.may_exceed.ensures ∙ c.if-not-may_exceed.true))
