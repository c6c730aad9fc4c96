-- Where a walk stands.
use Rattle.std.specs.Prelude.{◌≡◌, ◌+◌, ℕ, false, List, Option, drop, if◌then◌else◌}
use Rattle.csv.specs.Machine.{step}
use Rattle.prepare_look.specs.Lines.{ended, is_return}
use Rattle.prepare_look.specs.Walk.{begins_from, format_of, open_from, opens, state_of}
use Rattle.prepare_look.specs.declared.place.Marks.{Marks}
use Rattle.prepare_look.specs.declared.place.Place.TheVariants as place
use Rattle.prepare_look.specs.declared.spot.Spot.{Spot}

abbrev pub first_spot : Spot
first_spot = record { at = 0; place = place.Between; behind_return = false; line = 1 }

-- the second spot stands one byte, this one, behind the first
pub record IsAfter (m : Marks) (s : Spot) (b : ℕ) (next : Spot) : Type 0 where
  pub place : state_of next.place ≡ (step (format_of m) (state_of s.place) b).0
  pub behind_return : next.behind_return ≡ is_return b
  pub line : next.line ≡ s.line + ended s.behind_return b

-- the lines on which the records begin that come behind a spot
abbrev pub lines_left : Marks → List ℕ → Spot → List ℕ
lines_left m text s = begins_from (format_of m) (state_of s.place) s.behind_return s.line (drop s.at text)

-- the line of the last quotes behind the byte between these spots
abbrev pub mark_after : Spot → Spot → ℕ → ℕ
mark_after s next mark = if opens (state_of s.place) (state_of next.place) then s.line else mark

-- the line of the quotes that are open at the end, from a spot on
abbrev pub open_left : Marks → List ℕ → Spot → ℕ → Option ℕ
open_left m text s mark = open_from (format_of m) (state_of s.place) s.behind_return s.line mark (drop s.at text)
