-- What the rules make of a field and of a record.
use Rattle.std.specs.Prelude.{◌≡◌, ◌+◌, ◌==◌, ◌&&◌, ◌||◌, ℕ, Bool, true, false, nat_lt, if◌then◌else◌}
use Rattle.std.specs.Prelude.{List, [], ◌∷◌, length, map, slice_index_or, Option, Some, None, Result, Ok, Err}
use Rattle.std.specs.Str.{bytes_eq}
use Rattle.std.specs.Borrow.{Bor}
use Rattle.csv.specs.Records.{trimmed}
use Rattle.prepare_numbers.specs.Spells.{spells}
use Rattle.prepare_numbers.specs.declared.limit.Fit.{Fit}
use Rattle.prepare_numbers.specs.declared.limit.Fit.TheVariants as fit
use Rattle.prepare_dates.specs.Days.{Numbers, date_in}
use Rattle.prepare_dates.specs.Written.{date_text}
use Rattle.prepare_rules.specs.Dates.{date_made}
use Rattle.prepare_rules.specs.Names.{or_cause, unless}
use Rattle.prepare_rules.specs.Numbers.{form_of, mark_byte, number_fit, number_made, number_text}
use Rattle.prepare_rules.specs.Records.{Record}
use Rattle.prepare_rules.specs.Tally.{with_change, with_pad, with_trim}
use Rattle.prepare_rules.specs.declared.cause.Cause.{Cause}
use Rattle.prepare_rules.specs.declared.cause.Cause.TheVariants as cause
use Rattle.prepare_rules.specs.declared.change.Change.{Change}
use Rattle.prepare_rules.specs.declared.change.Change.TheVariants as change
use Rattle.prepare_rules.specs.declared.columns.Pick.{Pick}
use Rattle.prepare_rules.specs.declared.kind.Kind.{Kind}
use Rattle.prepare_rules.specs.declared.kind.Kind.TheVariants as kind
use Rattle.prepare_rules.specs.declared.rules.Rules.{Rules}
use Rattle.prepare_rules.specs.declared.tally.Tally.{Tally}
use Rattle.prepare_text.specs.Walk.{Lined}

-- the field is one of these marks
abbrev pub is_mark : List (Bor (List ℕ)) → List ℕ → Bool
is_mark [] field = false
is_mark (mark ∷ marks) field = if bytes_eq mark.now field then true else is_mark marks field

-- a field without what stands around it
abbrev pub bare : Rules → List ℕ → List ℕ
bare rules field = if rules.trims then trimmed field else field

-- a field of a column of numbers: a mark for a missing value is left out, and a number is spelled as coop_cli reads it
abbrev pub number_field : Rules → List ℕ → List ℕ
number_field rules field = if is_mark rules.missing.now field then []
    else number_made rules.limit (form_of rules) field

-- a field of a column of dates: a mark for a missing value is left out, and a date is written as YYYY-MM-DD
abbrev pub date_field : Rules → List ℕ → List ℕ
date_field rules field = if is_mark rules.missing.now field then [] else date_made rules.order field

-- a field with nothing around it
abbrev pub bare_made : Rules → Kind → List ℕ → List ℕ
bare_made rules kind.Texts field = field
bare_made rules kind.Numbers field = number_field rules field
bare_made rules kind.Dates field = date_field rules field

-- WHAT BECOMES OF A FIELD
abbrev pub field_made : Rules → Kind → List ℕ → List ℕ
field_made rules kind field = bare_made rules kind (bare rules field)

-- the fields of these columns; a field that isn't there is empty
abbrev pub fields_made : Rules → List Pick → Record → Record
fields_made rules picks fields = map (λ (p : Pick). field_made rules p.kind (slice_index_or fields p.place [])) picks

-- ---- what is changed in a field

-- a number that fits the limit so is written as it was, or not
abbrev pub change_by : Fit → Bool → Change
change_by fit.Whole is_same = if is_same then change.Kept else change.Spelled
change_by fit.Rounded is_same = change.Rounded
change_by fit.TooLong is_same = change.TooLong

-- a mark that has no byte changes nothing
abbrev pub mark_change : List ℕ → Change
mark_change [] = change.Kept
mark_change (b ∷ mark) = change.Missing

abbrev pub spelled_change : Rules → List ℕ → Change
spelled_change rules field = change_by (number_fit rules.limit (mark_byte rules.mark) field)
    (bytes_eq (number_text rules.limit (mark_byte rules.mark) field) field)

abbrev pub number_change : Rules → List ℕ → Change
number_change rules field = if is_mark rules.missing.now field then mark_change field
    else if spells (form_of rules) field then spelled_change rules field else change.Kept

-- a date that is written as it was, or not
abbrev pub dated_change : Bool → Change
dated_change is_same = if is_same then change.Kept else change.Dated

-- a field of a column of dates that is none: the empty one stays
abbrev pub undated_change : List ℕ → Change
undated_change [] = change.Kept
undated_change (b ∷ field) = change.NoDate

abbrev pub day_change : List ℕ → Option Numbers → Change
day_change field None = undated_change field
day_change field (Some d) = dated_change (bytes_eq (date_text d) field)

abbrev pub date_change : Rules → List ℕ → Change
date_change rules field = if is_mark rules.missing.now field then mark_change field
    else day_change field (date_in rules.order field)

-- what the rules of its column do to a field with nothing around it
abbrev pub bare_change : Rules → Kind → List ℕ → Change
bare_change rules kind.Texts field = change.Kept
bare_change rules kind.Numbers field = number_change rules field
bare_change rules kind.Dates field = date_change rules field

-- WHAT THE RULES OF ITS COLUMN DO TO A FIELD
abbrev pub field_change : Rules → Kind → List ℕ → Change
field_change rules kind field = bare_change rules kind (bare rules field)

-- a number that is too long refuses its record, and so does what is no date, by the number of its column
abbrev pub change_refusal : ℕ → Change → Option Cause
change_refusal column change.TooLong = Some (cause.LongNumber column)
change_refusal column change.NoDate = Some (cause.NoDate column)
change_refusal column _ = None

-- white space at its ends is left out
abbrev pub is_trimmed : Rules → List ℕ → Bool
is_trimmed rules field = nat_lt (length (bare rules field)) (length field)

-- ---- records

-- why the first field of these columns that refuses its record does, the columns counted on
abbrev pub fields_refusal : Rules → ℕ → List Pick → Record → Option Cause
fields_refusal rules column [] fields = None
fields_refusal rules column (p ∷ picks) fields =
    or_cause (change_refusal column (field_change rules p.kind (slice_index_or fields p.place [])))
    (fields_refusal rules (column + 1) picks fields)

-- a record with so many fields is taken where there are so many names
abbrev pub is_taken : Rules → ℕ → ℕ → Bool
is_taken rules names fields = (fields == names) || (rules.pads && nat_lt fields names)

-- the fields of these columns, unless one refuses the record
abbrev pub picked_made : Rules → List Pick → Record → Result Record Cause
picked_made rules picks fields = unless (fields_refusal rules 1 picks fields) (fields_made rules picks fields)

-- WHAT BECOMES OF A RECORD below so many names
abbrev pub row_made : Rules → ℕ → List Pick → Record → Result Record Cause
row_made rules names picks fields = if is_taken rules names (length fields) then picked_made rules picks fields
    else Err (cause.Fields (length fields) names)

-- what is told of a field, in a record that begins on this line
abbrev pub field_told : Rules → ℕ → Kind → List ℕ → Tally → Tally
field_told rules line kind field t =
    with_change (field_change rules kind field) line (with_trim (is_trimmed rules field) line t)

-- what is told of the fields of these columns, one behind the other
abbrev pub fields_told : Rules → ℕ → List Pick → Record → Tally → Tally
fields_told rules line [] fields t = t
fields_told rules line (p ∷ picks) fields t = fields_told rules line picks fields
    (field_told rules line p.kind (slice_index_or fields p.place []) t)

-- WHAT IS TOLD OF A RECORD that is written, behind those before it
abbrev pub row_told : Rules → ℕ → List Pick → Lined → Tally → Tally
row_told rules names picks r t =
    fields_told rules r.line picks r.fields (with_pad (nat_lt (length r.fields) names) r.line t)

-- it was made so, or refused for this
abbrev pub IsMade : Result Record Cause → Option Cause → Record → Type 0
IsMade (Ok row) refused made = (refused ≡ None) × (made ≡ row)
IsMade (Err c) refused made = refused ≡ Some c

-- a record was made so, and this is told with it; or it was refused for this
abbrev pub IsRowMade : Result Record Cause → Tally → Result Tally Cause → Record → Type 0
IsRowMade (Ok row) after (Ok told) made = (told ≡ after) × (made ≡ row)
IsRowMade (Ok row) after (Err d) made = ⊥
IsRowMade (Err c) after (Ok told) made = ⊥
IsRowMade (Err c) after (Err d) made = d ≡ c
