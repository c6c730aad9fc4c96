-- Names of rows, which stand first and under no name.
use Rattle.std.specs.Prelude.{◌==◌, ◌-◌, ◌&&◌, ℕ, Bool, nat_lt}
use Rattle.prepare_look.specs.Surveys.{seen_of}
use Rattle.prepare_look.specs.declared.kind.Kind.TheVariants as k
use Rattle.prepare_look.specs.declared.survey.Survey.{Survey}

-- THE ROWS HAVE NAMES, in records of a field more than there are names: each has as many fields, and in the last column
-- not all are empty, as they are where each line ends with a delimiter
abbrev pub names_rows : Survey → Bool
names_rows s = nat_lt 0 s.records && (s.short.count == 0) && (s.long.count == 0)
    && nat_lt (seen_of s (s.width - 1) k.Empty).count s.records
