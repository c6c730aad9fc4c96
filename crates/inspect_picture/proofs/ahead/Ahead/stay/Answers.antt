use Rattle.std.proofs.Common.{◌≡◌, ◌∙◌, ◌+◌, ◌/◌, sym}
use Rattle.inspect_picture.specs.Next.{next, fills, evicts}
use Rattle.inspect_picture.proofs.Steps.{bar_is_cut}
use Rattle.inspect_picture.proofs.ahead.Ahead.stay.Goals as goal

pub returns : goal.returns
returns c es ahead end =
    let fill : c.copied-fill.result ≡ next (fills c.args.frame) (c.args.number + 1) es = c.copied-fill.ensures ∙ (c.get.ensures.value ∙ ahead.filled c.args.frame) in
    let evict : c.copied-eviction.result ≡ next (evicts (c.args.piece / c.args.groups)) (c.args.number + 1) es = c.copied-eviction.ensures ∙ (c.get-2.ensures.value ∙ ahead.evicted (c.args.piece / c.args.groups)) in
    c.cut.ensures ∙ (rw (fill, evict) (sym (bar_is_cut c.args.groups c.args.frame c.args.piece c.args.number (c.args.number + 1) c.args.end es end)))
