use Rattle.std.proofs.Common.{◌≡◌, ◌+◌, ◌-◌, ◌/◌, sym, arith, get_or, []}
use Rattle.std.specs.declared.cmp.Ordering.TheVariants.{Less, Equal, Greater}
use Rattle.table_core.specs.Dict.{text_cmp}
use Rattle.table_core.proofs.Rising.{below-more, above-more, same_text, gap-missing}
use Rattle.table_core.proofs.dict.Dict.code_of.Goals as goal

pub loop-low-preserved-in-Less : goal.loop-low-preserved-in-Less
loop-low-preserved-in-Less c =
    let xs = c.self.inside.texts in
    let m = c.loop-low.low + (c.loop-low.high - c.loop-low.low) / 2 in
    let here : text_cmp (get_or xs m []) c.args.text.now ≡ Less = rw (← c.get.ensures) (sym c.in-Less.ensures) in
    record {
      within = omega arith;
      below = below-more xs c.args.text.now m c.self.invariant.rises (omega arith) here;
      above = c.loop-low.invariant.above;
    }

pub loop-low-preserved : goal.loop-low-preserved
loop-low-preserved c =
    let xs = c.self.inside.texts in
    let m = c.loop-low.low + (c.loop-low.high - c.loop-low.low) / 2 in
    let here : text_cmp (get_or xs m []) c.args.text.now ≡ Greater = rw (← c.get.ensures) (sym c.in-Greater.ensures) in
    record {
      within = omega arith;
      below = c.loop-low.invariant.below;
      above = above-more xs c.args.text.now m c.self.invariant.rises here;
    }

pub returns-in-Equal-clause-found : goal.returns-in-Equal-clause-found
returns-in-Equal-clause-found c =
    let xs = c.self.inside.texts in
    let m = c.loop-low.low + (c.loop-low.high - c.loop-low.low) / 2 in
    let here : text_cmp (get_or xs m []) c.args.text.now ≡ Equal = rw (← c.get.ensures) (sym c.in-Equal.ensures) in
    rw (← c.self.view_is) (record { inside = omega arith; stands = same_text (get_or xs m []) c.args.text.now here })

pub returns-clause-missing : goal.returns-clause-missing
returns-clause-missing c =
    let low : c.loop-low.low ≡ c.loop-low.high = omega (arith, c.loop-low.invariant.within.0) in
    rw (← c.self.view_is) (gap-missing c.self.inside.texts c.args.text.now c.loop-low.low c.loop-low.invariant.below (rw low c.loop-low.invariant.above))
