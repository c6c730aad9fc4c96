use Rattle.std.proofs.Common.{◌∙◌, All, arith, sym, subst}
use Rattle.std.proofs.lemmas.List.{with_items_is}
use Rattle.example_threads.specs.Diaries.{IsDone, IsReady}
use Rattle.example_threads.proofs.Writers.{done_all, left_free, left_notes}
use Rattle.baton.proofs.Zips.{zip_length}
use Rattle.example_threads.proofs.diary.write_at_once.Goals as goal

pub unseated-passes-requires-clause-done : goal.unseated-passes-requires-clause-done
unseated-passes-requires-clause-done g c =
    let id = c.in-Ok-new.made.0 in
    let before = c.as_mut_slice.result.now in
    let after = c.write_all.new.writers in
    let ready = subst (All (IsReady id)) (sym c.as_mut_slice.ensures.value) c.seated-writers.ensures.ready in
    let long = sym (zip_length _ before after c.write_all.ensures) ∙ c.as_mut_slice.ensures.len in
    subst (All (IsDone id)) (sym (with_items_is c.seated-writers.result after long)) (done_all id before after ready c.write_all.ensures)

pub finish-diary-requires-clause-free : goal.finish-diary-requires-clause-free
finish-diary-requires-clause-free g c = left_free _ _ _ c.unseated-passes.ensures.left

pub returns : goal.returns
returns g c = (
  omega (arith, c.unseated-passes.ensures.count.1, c.seated-writers.ensures.count, c.in-Ok-new.ensures.count),
  rw c.into_entries.ensures (left_notes _ g.S.Origin.origin _ _ _ c.unseated-passes.ensures.left c.finish-diary.ensures),
)
