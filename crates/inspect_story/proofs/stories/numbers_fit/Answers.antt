use Rattle.std.proofs.Common.{sym, arith}
use Rattle.std.proofs.lemmas.List.{take_all}
use Rattle.std.proofs.lemmas.List.Elements.{All-more, All-same, recursion_from_All}
use Rattle.story_text.specs.Reading.{Fits}
use Rattle.inspect_story.proofs.stories.numbers_fit.Goals as goal

pub loop-entry-preserved : goal.loop-entry-preserved
loop-entry-preserved c = All-more Fits c.args.story.now c.loop-entry.entry-index _ c.loop-entry-test.true c.loop-entry.invariant c.fits.ensures

pub returns : goal.returns
returns c =
    let story = c.args.story.now in
    let i = c.loop-entry.entry-index in
    record { fit = recursion_from_All Fits story (All-same Fits story _ (sym (take_all i story (omega (arith, c.loop-entry-test.false)))) c.loop-entry.invariant) }
