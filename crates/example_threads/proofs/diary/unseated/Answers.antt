use Rattle.std.proofs.Common.{◌≡◌, ◌+◌, Some, vec_len, sym, arith}
use Rattle.std.proofs.lemmas.List.Elements.{All-pop}
use Rattle.example_threads.specs.Diaries.{IsDone, IsLeft}
use Rattle.baton.proofs.Zips.{zip_pushed}
use Rattle.example_threads.proofs.diary.unseated.Goals as goal

pub loop-writer-preserved : goal.loop-writer-preserved
loop-writer-preserved g c =
    let id = c.args.baton.now in
    let i = c.loop-writer.invariant in
    let n : vec_len c.loop-writer.writers ≡ vec_len c.pop.new.self + 1 = sym c.in-Some.ensures.cases in
    let p = All-pop (IsDone id) c.loop-writer.writers.items c.pop.new.self.items (Some c.in-Some.writer) c.in-Some.ensures.items i.0 in
    let here : IsLeft id c.in-Some.writer.pass (c.in-Some.writer.number, c.in-Some.writer.done) = p.1 in (
      p.0,
      omega (arith, c.push_reserved.ensures.len, c.push_reserved.ensures.capacity),
      omega (arith, c.push_reserved-in-Some.ensures.len, c.push_reserved-in-Some.ensures.capacity),
      omega (arith, c.push_reserved.ensures.len),
      omega (arith, c.push_reserved-in-Some.ensures.len),
      zip_pushed (IsLeft id) _ _ _ _ _ _ c.push_reserved.ensures.items c.push_reserved-in-Some.ensures.items i.5 here,
    )
