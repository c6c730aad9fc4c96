use Rattle.std.proofs.Common.{rules, ◌≡◌, length, get_or, arith, ◌∙◌, subst}
use Rattle.std.proofs.lemmas.List.{get_or_default}
use Rattle.example_threads.specs.declared.diary.Writer.{Writer}
use Rattle.example_threads.specs.Diaries.{HasWritten}
use Rattle.baton.proofs.Zips.{zip_each}
use Rattle.example_threads.proofs.diary.write_all.Goals as goal

pub returns : goal.returns
returns g c =
    let Ws = Writer g.row.S.Denot in
    let long : length c.for_each_mut.new.s ≡ length c.args.writers.now = search rules in
    zip_each HasWritten c.args.writers.now c.for_each_mut.new.s long (λ i low d e.
    let at = (c.for_each_mut.ensures i d low).1 in
    let same = get_or_default c.for_each_mut.new.s i d e (omega (arith, low, long)) in
    subst (λ (v : Ws). HasWritten v (get_or c.for_each_mut.new.s i e)) at.argument_is (subst (λ (w : Ws). HasWritten at.argument.now w) (at.left ∙ same) at.call))
