-- What holds of the lobby's two words between any two steps of any workers: each that waits since the last call is
-- counted.
use Rattle.std.specs.Prelude.{◌≡◌, ◌==◌, ◌+◌, ◌≤◌, ℕ, List, [], ◌∷◌, length, slice_index, if◌then◌else◌}
use mathlib.Core.Option.{some}
use lib.ListN.{get_elem?}
use Rattle.atomic_table.specs.Table as table
use Rattle.baton.specs.declared.standing.Standing.{Standing}
use Rattle.baton.specs.declared.standing.Standing.TheVariants.{Out, Read, Entered, Taken}

-- a number of each guest, added up
abbrev pub total : (Standing → ℕ) → List Standing → ℕ
total h [] = 0
total h (v ∷ vs) = h v + total h vs

-- 1 where the guest waits since the last call, of so many
abbrev pub fresh : ℕ → Standing → ℕ
fresh calls Out = 0
fresh calls (Read n) = 0
fresh calls (Entered n) = if n == calls then 1 else 0
fresh calls Taken = 0

-- 1 where the guest is to call one that it took away
abbrev pub taken : Standing → ℕ
taken Taken = 1
taken _ = 0

-- the guest has read no more calls than there are
abbrev pub IsOld : ℕ → Standing → Type 0
IsOld calls Out = Unit {0}
IsOld calls (Read n) = n ≤ calls
IsOld calls (Entered n) = n ≤ calls
IsOld calls Taken = Unit {0}

-- the first word counts those that wait, and the second the calls: who waits since the last call is counted in the
-- first, or another guest is to call one
pub record Counted (s : table.State (Unit {0}) Standing) : Type 0 where
  pub wide : length s.words ≡ 2
  pub old : (j : ℕ) (v : Standing) → get_elem? s.views j ≡ some v → IsOld (slice_index s.words 1) v
  pub counted : total (fresh (slice_index s.words 1)) s.views ≤ slice_index s.words 0 + total taken s.views
