-- Why queries are lost, by the story of their scans.
use Rattle.std.specs.Prelude.{◌≡◌, ◌+◌, ◌⊎◌, ℕ, zero, suc, Option, None, Some}
use Rattle.coop_outside.specs.Pieces.{Stored}
use Rattle.scan_story.specs.declared.cause.Cause.{Cause}
use Rattle.scan_story.specs.declared.cause.Cause.TheVariants as cause
use Rattle.scan_story.specs.Views.{History}
use Rattle.scan_story.specs.Causes.{cause_of}
use Rattle.batch_plan.specs.Scans.{scan_number}
use Rattle.query_gather.specs.declared.answer.Answer.{Answer}
use Rattle.query_gather.specs.declared.answer.Answer.TheVariants as answer

-- the depot tells what it holds
abbrev pub Tells : Stored → Type 0
Tells None = ⊥
Tells (Some pieces) = Unit {0}

abbrev pub or_first : Option Cause → Option Cause → Option Cause
or_first None later = later
or_first (Some first) later = Some first

-- the first cause for which the story stopped a scan of the query, among its parts from one on, of which so many are
-- left
abbrev pub cause_from : History → ℕ → ℕ → ℕ → ℕ → Option Cause
cause_from h parts query part zero = None
cause_from h parts query part (suc left) = or_first (cause_of h (scan_number parts query part))
    (cause_from h parts query (part + 1) left)

-- the cause of the first part of the query, in part order, that the story stopped
abbrev pub cause_of_query : History → ℕ → ℕ → Option Cause
cause_of_query h parts query = cause_from h parts query 0 parts

-- HOW A QUERY IS LOST: as the story says of the first of its parts that it stopped; where it stopped none of them the
-- query isn't lost, or is lost when out of memory
abbrev pub IsLostBy : History → ℕ → ℕ → Option Cause → Type 0
IsLostBy h parts query lost = (lost ≡ cause_of_query h parts query)
    ⊎ ((cause_of_query h parts query ≡ None) × (lost ≡ Some cause.Memory))

-- why an answer says that its query was stopped, if it does
abbrev pub stop_of : Answer → Option Cause
stop_of (answer.Stopped why) = Some why
stop_of _ = None
