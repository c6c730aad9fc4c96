use Rattle.std.proofs.Common.{◌∙◌, ◌++◌, arith, sym, ap}
use Rattle.std.proofs.lemmas.List.{append-nil}
use Rattle.std.specs.String.{string_bytes}
use Rattle.inspect_picture.proofs.Rowed.{no_rows, text_more}
use Rattle.inspect_picture.proofs.drawing.write_rows.Goals as goal

pub loop-place-init : goal.loop-place-init
loop-place-init c = λ ms rows.
    let before = string_bytes c.args.svg.now in
    sym (ap (λ t. before ++ t) (no_rows c.args.scale.now c.args.titled ms) ∙ append-nil before)

pub loop-place-preserved : goal.loop-place-preserved
loop-place-preserved c = λ ms rows.
    text_more c.args.scale.now c.args.titled ms c.loop-place.place _ _ _ _ (c.loop-place.invariant ms rows)
    (c.row_at.ensures ∙ rows.each c.loop-place.place (omega (arith, c.loop-place-test.true))) c.in_ok-write_row.ensures
