use Rattle.std.proofs.Common.{◌≡◌, ◌∙◌, ◌+◌, sym, ap}
use Rattle.std.specs.Prelude.{unwrap_or}
use Rattle.inspect_picture.specs.Marks.{delivery}
use Rattle.inspect_picture.specs.Next.{next, turns}
use Rattle.inspect_picture.proofs.Steps.{delivery_is}
use Rattle.inspect_picture.proofs.ahead.Ahead.delivery.Goals as goal

pub returns : goal.returns
returns c es ahead end =
    let last : c.unwrap_or-last.result ≡ unwrap_or (next (turns c.args.worker) (c.args.number + 1) es) c.args.end =
    c.unwrap_or-last.ensures ∙ ap (λ o. unwrap_or o c.args.end) (c.copied.ensures ∙ (c.get.ensures.value ∙ ahead.turned c.args.worker)) in
    ap (λ k. delivery c.args.worker c.args.query c.args.chunk c.args.number k) last ∙ sym (delivery_is c.args.worker c.args.query c.args.chunk c.args.number (c.args.number + 1) c.args.end es end)
