use Rattle.std.proofs.Common.{◌≡◌}
use Rattle.baton.specs.Passes.{Went}
use Rattle.example_threads.specs.Diaries.{notes}
use Rattle.example_threads.proofs.diary.write_notes.Given as goal

abbrev pub invariant-loop-chunk : goal.invariant-loop-chunk
invariant-loop-chunk g l =
    (l.writer.number ≡ l.fn.writer.number) × (l.writer.done ≡ l.chunk) × Went l.fn.writer.pass l.writer.pass (notes l.fn.writer.number l.chunk)
