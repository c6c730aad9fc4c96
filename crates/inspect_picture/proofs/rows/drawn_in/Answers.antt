use Rattle.std.proofs.Common.{◌∙◌, arith, refl, sym}
use Rattle.inspect_picture.proofs.Rowed.{drawn_more, none_drawn}
use Rattle.inspect_picture.proofs.rows.drawn_in.Goals as goal

pub loop-place-init : goal.loop-place-init
loop-place-init c = λ z ms rows. sym (none_drawn z ms)

pub loop-place-preserved : goal.loop-place-preserved
loop-place-preserved c = λ z ms rows.
    drawn_more z ms c.loop-place.place _ _ _ c.row_at.result.now (c.loop-place.invariant z ms rows)
    (c.row_at.ensures ∙ rows.each c.loop-place.place (omega (arith, c.loop-place-test.true))) refl c.more_drawn-drawn.ensures
