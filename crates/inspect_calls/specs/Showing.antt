-- Which entries of a story are shown.
use Rattle.std.specs.Prelude.{◌⊎◌, ◌++◌, ℕ, nat_lt, List, Option, Some, None, codes, decimal, if◌then◌else◌}
use Rattle.inspect_picture.specs.declared.view.View.{View}
use Rattle.inspect_words.specs.declared.window.Window.{Window}
use Rattle.inspect_calls.specs.Replies.{IsFault, IsMemory}
use Rattle.inspect_calls.specs.declared.reply.Reply.{Reply}
use Rattle.inspect_calls.specs.declared.showing.Behind.{Behind}
use Rattle.inspect_calls.specs.declared.showing.Behind.TheVariants.{From, To}

-- the entry, where it lies behind the last of so many
abbrev pub lies_behind : Option ℕ → ℕ → Option ℕ
lies_behind None count = None
lies_behind (Some n) count = if nat_lt count n then Some n else None

abbrev pub first_behind : Option ℕ → Option ℕ → Option Behind
first_behind (Some n) to = Some (From n)
first_behind None (Some n) = Some (To n)
first_behind None None = None

-- the first word that names an entry behind the last one
abbrev pub behind_of : Window → ℕ → Option Behind
behind_of w count = first_behind (lies_behind w.from count) (lies_behind w.to count)

abbrev pub shown_by : Option ℕ → Option ℕ → ℕ → View
shown_by None None count = record { from = 0; to = 4294967295 }
shown_by (Some f) None count = record { from = f; to = count }
shown_by None (Some t) count = record { from = 1; to = t }
shown_by (Some f) (Some t) count = record { from = f; to = t }

-- WHAT IS SHOWN of so many entries: all with the begin, where no word says which
abbrev pub view_of : Window → ℕ → View
view_of w count = shown_by w.from w.to count

abbrev pub behind_text : List ℕ → ℕ → ℕ → List ℕ
behind_text words n count =
    (words ++ (decimal n ++ codes " lies behind the last entry, ")) ++ (decimal count ++ codes "\n")

abbrev pub behind_line : Behind → ℕ → List ℕ
behind_line (From n) count = behind_text (codes "error: --from ") n count
behind_line (To n) count = behind_text (codes "error: --to ") n count

-- the words are refused for this one, and it is told; or memory ran out
abbrev pub IsPastEnd : Behind → ℕ → Reply → Type 0
IsPastEnd b count reply = IsFault 2 (behind_line b count) reply ⊎ IsMemory reply
