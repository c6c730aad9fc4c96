-- Where the trace begins in what a run prints.
use Rattle.std.specs.Prelude.{◌≡◌, ◌==◌, ◌+◌, ◌&&◌, ℕ, Bool, nat_eq, true, false, List, [], ◌∷◌, drop, take, codes}
use Rattle.std.specs.Prelude.{if◌then◌else◌}
use Rattle.std.specs.List.{starts_with}
use Rattle.story_text.specs.Reading.{IsFirstBad}
use Rattle.inspect_picture.specs.declared.trace.TraceRefusal.{TraceRefusal}
use Rattle.inspect_picture.specs.declared.trace.TraceRefusal.TheVariants.{NoTrace, BadLine, Memory}

-- a story begins with the entry of a query that registers
abbrev pub starts_story : List ℕ → Bool
starts_story text = starts_with nat_eq text (codes "register ")

-- the text from the first line on that starts a story, or nothing; the flag says that a line begins here
abbrev pub trace_from : Bool → List ℕ → List ℕ
trace_from at_line [] = []
trace_from at_line (b ∷ bs) = if at_line && starts_story (b ∷ bs) then b ∷ bs else trace_from (b == 10) bs

-- how many lines end before that
abbrev pub lines_before : Bool → List ℕ → ℕ
lines_before at_line [] = 0
lines_before at_line (b ∷ bs) =
    if at_line && starts_story (b ∷ bs) then 0
    else (if b == 10 then lines_before true bs + 1 else lines_before false bs)

-- how many bytes there are up to the last quote, where so many stand before these, and so many up to their last quote
abbrev pub quoted_from : ℕ → ℕ → List ℕ → ℕ
quoted_from place found [] = found
quoted_from place found (b ∷ bs) = quoted_from (place + 1) (if b == 39 then place + 1 else found) bs

-- how many bytes there are up to the last quote
abbrev pub quoted_len : List ℕ → ℕ
quoted_len printed = quoted_from 0 0 printed

-- how many lines end
abbrev pub ended : List ℕ → ℕ
ended [] = 0
ended (b ∷ bs) = (if b == 10 then 1 else 0) + ended bs

-- THE TRACE at the end of what a run prints: no entry has a quote, and each text of an answer ends with one; so it
-- stands
-- behind the last quote, from the first line on that starts a story
unfoldable pub trace : List ℕ → List ℕ
trace printed = trace_from (quoted_len printed == 0) (drop (quoted_len printed) printed)

-- how many lines end before it
unfoldable pub lines_above : List ℕ → ℕ
lines_above printed =
    ended (take (quoted_len printed) printed)
    + lines_before (quoted_len printed == 0) (drop (quoted_len printed) printed)

-- the line is the first of the trace that is no entry's, counted in the whole text
pub record IsBadLine (printed : List ℕ) (line : ℕ) : Type 0 where
  pub within : ℕ
  pub bad : IsFirstBad (trace printed) within
  pub counted : line ≡ lines_above printed + within

-- out of memory may always be answered
abbrev pub IsTraceRefusal : List ℕ → TraceRefusal → Type 0
IsTraceRefusal printed NoTrace = trace printed ≡ []
IsTraceRefusal printed (BadLine line) = IsBadLine printed line
IsTraceRefusal printed Memory = Unit {0}
