-- A walk over the bytes of an export, by csv's own step.
use Rattle.std.specs.Prelude.{◌+◌, ◌&&◌, ℕ, Bool, true, false, not, List, [], ◌∷◌, Option, Some, None, if◌then◌else◌}
use Rattle.csv.specs.Machine.{ends_at_end, step}
use Rattle.csv.specs.declared.parser.Config.{Config}
use Rattle.csv.specs.declared.parser.State.{State}
use Rattle.csv.specs.declared.parser.State.TheVariants as st
use Rattle.prepare_look.specs.Lines.{ended, is_return}
use Rattle.prepare_look.specs.declared.place.Marks.{Marks}
use Rattle.prepare_look.specs.declared.place.Place.{Place}
use Rattle.prepare_look.specs.declared.place.Place.TheVariants as place
use Rattle.prepare_look.specs.Records.{format}

abbrev pub format_of : Marks → Config
format_of m = format m.delimiter m.quote

-- csv's state at a place
abbrev pub state_of : Place → State
state_of place.Between = st.StartRecord
state_of place.AfterReturn = st.AfterCr
state_of place.FieldBegin = st.StartField
state_of place.InField = st.InField
state_of place.InQuotes = st.InQuoted
state_of place.AfterQuote = st.AfterQuote

abbrev pub is_quoted : State → Bool
is_quoted st.InQuoted = true
is_quoted _ = false

abbrev pub is_behind_quote : State → Bool
is_behind_quote st.AfterQuote = true
is_behind_quote _ = false

-- quotes begin between these states
abbrev pub opens : State → State → Bool
opens s next = is_quoted next && not (is_quoted s) && not (is_behind_quote s)

-- a record begins between these states
abbrev pub begins : State → State → Bool
begins s next = not (ends_at_end s) && ends_at_end next

-- THE LINES ON WHICH THE RECORDS BEGIN, from a state on a line
unfoldable pub begins_from : Config → State → Bool → ℕ → List ℕ → List ℕ
begins_from cfg s behind_return line [] = []
begins_from cfg s behind_return line (b ∷ bytes) =
    if begins s (step cfg s b).0
    then line ∷ begins_from cfg (step cfg s b).0 (is_return b) (line + ended behind_return b) bytes
    else begins_from cfg (step cfg s b).0 (is_return b) (line + ended behind_return b) bytes

-- THE LINE WHERE THE QUOTES BEGIN THAT ARE OPEN AT THE END, where the last quotes began on the line `mark`
unfoldable pub open_from : Config → State → Bool → ℕ → ℕ → List ℕ → Option ℕ
open_from cfg s behind_return line mark [] = if is_quoted s then Some mark else None
open_from cfg s behind_return line mark (b ∷ bytes) =
    open_from cfg (step cfg s b).0 (is_return b) (line + ended behind_return b)
    (if opens s (step cfg s b).0 then line else mark) bytes
