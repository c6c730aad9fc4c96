use Rattle.std.proofs.Common.{◌∙◌, ◌++◌, sym, ap, append_assoc}
use Rattle.std.proofs.lemmas.List.{append-nil}
use Rattle.std.specs.String.{string_bytes}
use Rattle.inspect_picture.specs.Svg.{guides, guides_at}
use Rattle.inspect_picture.proofs.Guided.{guides_more, no_guides}
use Rattle.inspect_picture.proofs.drawing.write_guides.Goals as goal

pub loop-k-init : goal.loop-k-init
loop-k-init c = sym (ap (λ t. string_bytes c.args.svg.now ++ t) (no_guides c.args.scale.now) ∙ append-nil (string_bytes c.args.svg.now))

pub loop-k-preserved : goal.loop-k-preserved
loop-k-preserved c =
    let z = c.args.scale.now in
    let k = c.loop-k.k in
    let before = string_bytes c.args.svg.now in
    c.in_ok-write.ensures.bytes
    ∙ ap (λ t. string_bytes c.loop-k.svg ++ t) c.guides_at-guides.ensures
    ∙ ap (λ t. t ++ guides_at z k) c.loop-k.invariant
    ∙ append_assoc before (guides z k) (guides_at z k)
    ∙ sym (ap (λ t. before ++ t) (guides_more z k))
