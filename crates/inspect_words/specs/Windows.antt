-- Which entries of a story are to be drawn.
use Rattle.std.specs.Prelude.{◌≡◌, ℕ, Bool, true, nat_le, Option, Some, None, if◌then◌else◌}
use Rattle.std.specs.Prelude.{option_and_then, option_map}
use Rattle.std.specs.Str.Parse.{digits_value, without_leading_plus}
use Rattle.clap.specs.ValueTests.{is_unsigned_in}
use Rattle.clap.specs.Walk.{Text}
use Rattle.inspect_words.specs.declared.window.TheConstants.{MOST_ENTRIES}
use Rattle.inspect_words.specs.declared.window.Window.{Window}

-- entries are numbered from 1
abbrev pub counted : ℕ → Option ℕ
counted n = if nat_le 1 n then Some n else None

-- the number of an entry, as clap reads numbers
abbrev pub number_of : Text → Option ℕ
number_of text = if is_unsigned_in 1 MOST_ENTRIES text then Some (digits_value 10 (without_leading_plus text)) else None

-- that of an option, where it is named
abbrev pub number_given : Option Text → Option (Option ℕ)
number_given None = Some None
number_given (Some text) = option_map (λ n. Some n) (number_of text)

-- the first is no later than the last
abbrev pub is_in_order : Option ℕ → Option ℕ → Bool
is_in_order (Some from) (Some to) = nat_le from to
is_in_order from to = true

abbrev pub window_by : Option ℕ → Option ℕ → Option Window
window_by from to = if is_in_order from to then Some (record { from = from; to = to }) else None

-- what the values of `--from` and `--to` name
abbrev pub window_of : Option Text → Option Text → Option Window
window_of from to = option_and_then (λ f. option_and_then (window_by f) (number_given to)) (number_given from)

-- a window has its entries in order
abbrev pub IsInOrder : Window → Type 0
IsInOrder w = is_in_order w.from w.to ≡ true
