use Rattle.std.proofs.Common.{◌≡◌, ◌∙◌, ◌+◌, sym, ap}
use Rattle.std.specs.Prelude.{unwrap_or}
use Rattle.inspect_picture.specs.Marks.{life}
use Rattle.inspect_picture.specs.Next.{next, ends}
use Rattle.inspect_picture.proofs.Steps.{life_is}
use Rattle.inspect_picture.proofs.ahead.Ahead.life.Goals as goal

pub returns : goal.returns
returns c es ahead end =
    let last : c.unwrap_or-last.result ≡ unwrap_or (next (ends c.args.query) (c.args.number + 1) es) c.args.end =
    c.unwrap_or-last.ensures ∙ ap (λ o. unwrap_or o c.args.end) (c.copied.ensures ∙ (c.get.ensures.value ∙ ahead.ended c.args.query)) in
    ap (λ k. life c.args.worker c.args.query c.args.number k) last ∙ sym (life_is c.args.worker c.args.query c.args.number (c.args.number + 1) c.args.end es end)
