-- How the program ends where words are refused.
use Rattle.std.specs.Prelude.{ℕ, Bool, true, false, not, if◌then◌else◌}
use Rattle.clap.specs.Values.{kind_of}
use Rattle.clap.specs.declared.error.kind.ErrorKind.{ErrorKind}
use Rattle.clap.specs.declared.error.kind.ErrorKind.TheVariants as kind
use Rattle.prepare_words.specs.declared.fault.Fault.TheVariants as fault
use Rattle.prepare_words.specs.declared.refused.Refused.{Refused}
use Rattle.prepare_words.specs.declared.refused.Refused.TheVariants as refused

-- help and the version are shown, and are no fault
abbrev pub is_shown : ErrorKind → Bool
is_shown kind.DisplayHelp = true
is_shown kind.DisplayVersion = true
is_shown _ = false

-- the text goes to standard error
abbrev pub is_fault : Refused → Bool
is_fault (refused.Said error) = not (is_shown (kind_of error))
is_fault (refused.Rule fault) = true

abbrev pub status_of : Refused → ℕ
status_of (refused.Said error) = if is_shown (kind_of error) then 0 else 2
status_of (refused.Rule fault.Memory) = 7
status_of (refused.Rule _) = 2
