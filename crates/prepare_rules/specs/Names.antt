-- Which names are written.
use Rattle.std.specs.Prelude.{◌+◌, ℕ, Bool, false, nat_lt, List, [], ◌∷◌, ◌++◌, length, option_map, if◌then◌else◌}
use Rattle.std.specs.Prelude.{Option, Some, None, Result, Ok, Err}
use Rattle.prepare_rules.specs.Columns.{names_written, place_from}
use Rattle.prepare_rules.specs.Records.{Record}
use Rattle.prepare_text.specs.Source.{has_mark}
use Rattle.prepare_rules.specs.declared.cause.Cause.{Cause}
use Rattle.prepare_rules.specs.declared.cause.Cause.TheVariants as cause
use Rattle.prepare_rules.specs.declared.columns.Pick.{Pick}
use Rattle.prepare_rules.specs.declared.names.TheConstants.{MOST_NAME_BYTES}
use Rattle.prepare_rules.specs.declared.rules.Rules.{Rules}

-- a name that stands behind these is the first, and begins with a byte order mark
abbrev pub begins_marked : Record → List ℕ → Bool
begins_marked [] name = has_mark name
begins_marked (n ∷ before) name = false

-- why a name isn't taken behind these
abbrev pub name_refusal : Record → List ℕ → Option Cause
name_refusal before name = if begins_marked before name then Some cause.MarkedName
    else if nat_lt MOST_NAME_BYTES (length name) then Some (cause.LongName (length before + 1))
    else option_map (λ first. cause.TwiceNamed (first + 1) (length before + 1)) (place_from 0 before name)

-- the one cause, or else the other
abbrev pub or_cause : Option Cause → Option Cause → Option Cause
or_cause None more = more
or_cause (Some c) more = Some c

-- why the first of these names that isn't taken isn't, behind those that stand before
abbrev pub names_refusal : Record → Record → Option Cause
names_refusal before [] = None
names_refusal before (name ∷ names) = or_cause (name_refusal before name) (names_refusal (before ++ (name ∷ [])) names)

-- what isn't refused
abbrev pub unless : {T : Type 0} → Option Cause → T → Result T Cause
unless None x = Ok x
unless (Some c) x = Err c

-- THE NAMES THAT ARE WRITTEN, or why the first that isn't taken isn't
abbrev pub names_made : Rules → Record → List Pick → Result Record Cause
names_made rules names picks =
    let written = names_written rules names picks in unless (names_refusal [] written) written

-- these columns, where their names are taken
abbrev pub named_picks : Rules → Record → Result (List Pick) Cause → Result (List Pick) Cause
named_picks rules names (Err c) = Err c
named_picks rules names (Ok picks) = unless (names_refusal [] (names_written rules names picks)) picks
