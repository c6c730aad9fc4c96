use Rattle.std.proofs.Common.{◌≡◌, ◌+◌, ◌≤◌, vec_len, vec_capacity, All}
use Rattle.std.specs.List.{AllZip}
use Rattle.example_threads.specs.Diaries.{IsDone, IsLeft}
use Rattle.example_threads.proofs.diary.unseated.Given as goal

abbrev pub invariant-loop-writer : goal.invariant-loop-writer
invariant-loop-writer g l =
    All (IsDone l.baton) l.writers.items
    × (vec_len l.writers + vec_len l.passes ≤ vec_capacity l.passes)
    × (vec_len l.writers + vec_len l.counts ≤ vec_capacity l.counts)
    × (vec_len l.writers + vec_len l.passes ≡ vec_len l.fn.writers)
    × (vec_len l.writers + vec_len l.counts ≡ vec_len l.fn.writers)
    × AllZip (IsLeft l.baton) l.passes.items l.counts.items

abbrev pub decreases-loop-writer : goal.decreases-loop-writer
decreases-loop-writer g l = vec_len l.writers
