use Rattle.std.proofs.Common.{◌≡◌, ◌+◌, ◌≤◌, [], vec_len, vec_capacity, All}
use Rattle.baton.specs.Passes.{new_passes}
use Rattle.example_threads.specs.Diaries.{IsReady}
use Rattle.example_threads.proofs.diary.seated.Given as goal

abbrev pub invariant-loop-pass : goal.invariant-loop-pass
invariant-loop-pass g l =
    (l.passes.items ≡ new_passes l.baton g.S.Origin.origin [] (vec_len l.passes))
    × (vec_len l.passes ≤ 32)
    × (vec_len l.passes + vec_len l.writers ≤ vec_capacity l.writers)
    × (vec_len l.passes + vec_len l.writers ≡ vec_len l.fn.passes)
    × All (IsReady l.baton) l.writers.items

abbrev pub decreases-loop-pass : goal.decreases-loop-pass
decreases-loop-pass g l = vec_len l.passes
