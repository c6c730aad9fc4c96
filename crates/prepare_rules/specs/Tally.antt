-- What the rules did.
use Rattle.std.specs.Prelude.{◌+◌, ◌==◌, ℕ, Bool, if◌then◌else◌}
use Rattle.prepare_rules.specs.declared.change.Change.{Change}
use Rattle.prepare_rules.specs.declared.change.Change.TheVariants as change
use Rattle.prepare_rules.specs.declared.hits.Hits.{Hits}
use Rattle.prepare_rules.specs.declared.tally.Tally.{Tally}

abbrev pub no_hit : Hits
no_hit = record { count = 0; line = 0 }

-- nothing was done
abbrev pub no_tally : Tally
no_tally = record {
  trimmed = no_hit;
  missing = no_hit;
  spelled = no_hit;
  rounded = no_hit;
  dated = no_hit;
  padded = no_hit;
}

-- one more, in a record that begins on this line
abbrev pub hit : ℕ → Hits → Hits
hit line h = if h.count == 0 then record { count = 1; line = line } else record { count = h.count + 1; line = h.line }

-- one more, where it is one
abbrev pub hit_if : Bool → ℕ → Hits → Hits
hit_if is line h = if is then hit line h else h

-- with a field of which white space is left out or not
unfoldable pub with_trim : Bool → ℕ → Tally → Tally
with_trim is line t = record t { trimmed = hit_if is line t.trimmed }

-- with a record that is padded or not
unfoldable pub with_pad : Bool → ℕ → Tally → Tally
with_pad is line t = record t { padded = hit_if is line t.padded }

-- with what the rules of its column made of a field
unfoldable pub with_change : Change → ℕ → Tally → Tally
with_change change.Kept line t = t
with_change change.Missing line t = record t { missing = hit line t.missing }
with_change change.Spelled line t = record t { spelled = hit line t.spelled }
with_change change.Rounded line t = record t { rounded = hit line t.rounded }
with_change change.TooLong line t = t
with_change change.Dated line t = record t { dated = hit line t.dated }
with_change change.NoDate line t = t
