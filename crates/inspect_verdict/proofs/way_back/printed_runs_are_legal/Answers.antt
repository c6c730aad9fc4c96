use Rattle.std.proofs.Common.{List, sym, subst}
use Rattle.std.specs.List.{AllByRecursion}
use Rattle.scan_story.specs.declared.entry.Entry.{Entry}
use Rattle.story_text.specs.Reading.{Fits}
use Rattle.run_ends.specs.Did.{work_of}
use Rattle.run_ends.specs.Runs.{work_under}
use Rattle.inspect_verdict.proofs.Backward.{judged_back}
use Rattle.inspect_verdict.proofs.way_back.printed_runs_are_legal.Goals as goal

pub returns : goal.returns
returns c =
    let Fit = λ (es : List Entry). AllByRecursion Fits es in
    record {
      run = λ r over did same printed.
          let decides = printed.promises.decides in
          judged_back r over.shelf over.sink (work_of over did) decides.0 did.status decides.1 decides.2 printed.ended printed.traced printed.first printed.keeps (subst Fit (sym same) c.numbers_fit.ensures.fit);
      run_boxed = λ r p over did same printed.
          let decides = printed.promises.decides in
          judged_back r over.shelf over.sink (work_under p over.depot.old over.depot.new did.runs) decides.0 did.status decides.1 decides.2 printed.ended printed.traced printed.first printed.keeps (subst Fit (sym same) c.numbers_fit.ensures.fit);
    }
