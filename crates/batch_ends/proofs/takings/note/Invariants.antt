use Rattle.std.proofs.Common.{◌≡◌, ◌<◌, ◌≤◌, ℕ, get_or}
use Rattle.batch_ends.specs.Noting.{NotesOne}
use Rattle.batch_ends.specs.declared.taken.Taken.{Taken}
use Rattle.batch_ends.proofs.takings.note.Given as goal

-- the chunk is noted in the first ones, and the others are as they were
abbrev pub invariant-loop-place : goal.invariant-loop-place
invariant-loop-place l = record {
  first : (k : ℕ) (d : Taken) → k < l.place → NotesOne l.parts l.number l.chunk (get_or l.initial.taken k d) (get_or l.taken k d);
  others : (k : ℕ) (d : Taken) → l.place ≤ k → get_or l.taken k d ≡ get_or l.initial.taken k d;
}
