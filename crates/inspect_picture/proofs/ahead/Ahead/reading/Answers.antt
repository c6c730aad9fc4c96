use Rattle.std.proofs.Common.{◌≡◌, ◌∙◌, ◌+◌, sym}
use Rattle.inspect_picture.specs.Next.{next, fails, fills}
use Rattle.inspect_picture.proofs.Steps.{reading_is_cut}
use Rattle.inspect_picture.proofs.ahead.Ahead.reading.Goals as goal

pub returns : goal.returns
returns c es ahead end =
    let fill : c.copied-fill.result ≡ next (fills c.args.frame) (c.args.number + 1) es = c.copied-fill.ensures ∙ (c.get.ensures.value ∙ ahead.filled c.args.frame) in
    let fault : c.copied-fault.result ≡ next (fails c.args.piece) (c.args.number + 1) es = c.copied-fault.ensures ∙ (c.get-2.ensures.value ∙ ahead.failed c.args.piece) in
    c.read_by.ensures ∙ (rw (fill, fault) (sym (reading_is_cut c.args.frame c.args.piece c.args.number (c.args.number + 1) c.args.end es end)))
