-- A table that is written is one that the loader takes.
use Rattle.std.proofs.Common.{◌≡◌, ◌+◌, ◌≤◌, ◌==◌, ℕ, suc, true, false, Option, Some, None, List, [], ◌∷◌, ◌++◌, length, refl, ap, ◌∙◌, arith, inl, inr, append_assoc}
use Rattle.std.proofs.lemmas.Bool.{cases_Bool}
use Rattle.std.proofs.lemmas.Bool.Decides.{nat_tests}
use Rattle.std.proofs.lemmas.List.{length-append}
use Rattle.std.proofs.Math.Seq.{take-append_seam}
use Rattle.std.specs.Prelude.{◌⊎◌, nat_lt, option_map, if◌then◌else◌}
use Rattle.std.specs.Str.{bytes_eq}
use Rattle.csv.specs.Reading.{default_config, records, strip_bom}
use Rattle.csv_load.specs.Judged.{first_bad_row, first_equal, first_long, first_twice, header_refusal, refusal_of}
use Rattle.csv_load.specs.Rows.{table_records}
use Rattle.csv_load.specs.declared.limits.TheConstants.{MOST_NAME_BYTES}
use Rattle.csv_load.specs.declared.refusal.LoadRefusal.{LoadRefusal}
use Rattle.csv_load.specs.declared.refusal.LoadRefusal.TheVariants as load
use Rattle.table_sets.specs.declared.limits.TheConstants.{MOST_COLUMNS, MOST_ROWS}
use Rattle.prepare_rules.specs.Columns.{is_few, place_from}
use Rattle.prepare_rules.specs.Names.{begins_marked, name_refusal, names_refusal, or_cause}
use Rattle.prepare_rules.specs.Outcome.{AreWide, IsTable, is_full, marks_of, prepared, rows_text, unrefused}
use Rattle.prepare_rules.specs.Records.{Record}
use Rattle.prepare_rules.specs.declared.cause.Cause.{Cause}
use Rattle.prepare_rules.specs.declared.cause.Refusal.{Refusal}
use Rattle.prepare_rules.specs.declared.rules.Rules.{Rules}
use Rattle.prepare_rules.proofs.Back.{reads-back}
use Rattle.prepare_rules.proofs.Shape.{is-table}
use Rattle.prepare_text.specs.Walk.{Lined, text_records}
use Rattle.prepare_loads.proofs.Front.{record-kept}
use Rattle.prepare_loads.specs.Loads.{BeginsLoad, Loads, ReadsTheRecords, refusal_too}

-- ---- names

neither : (a b : Option Cause) → or_cause a b ≡ None → (a ≡ None) × (b ≡ None)
neither None b e = (refl, e)
neither (Some c) b e = cc e

unmapped : {A B : Type 0} (f : A → B) (o : Option A) → option_map f o ≡ None → o ≡ None
unmapped f None e = refl
unmapped f (Some x) e = cc e

-- a name that is taken
taken-name : (before : Record) (name : List ℕ) → name_refusal before name ≡ None
    → (begins_marked before name ≡ false) × (nat_lt MOST_NAME_BYTES (length name) ≡ false) × (place_from 0 before name ≡ None)
taken-name before name e = elim (cases_Bool (begins_marked before name)) [
  | inl marked ↦ cc (rw marked at e)
  | inr bare ↦ elim (cases_Bool (nat_lt MOST_NAME_BYTES (length name))) [
    | inl long ↦ cc (rw (bare, long) at e)
    | inr short ↦ (bare, short, unmapped _ (place_from 0 before name) (rw (bare, short) at e))
  ]
]

none-long : (place : ℕ) (before names : Record) → names_refusal before names ≡ None → first_long place names ≡ None
none-long place before [] e = refl
none-long place before (n ∷ names) e =
    let h = neither (name_refusal before n) (names_refusal (before ++ (n ∷ [])) names) e in
    rw (taken-name before n h.0).1 (none-long (place + 1) (before ++ (n ∷ [])) names h.1)

same-place : (at : ℕ) (names : Record) (name : List ℕ) → first_equal name at names ≡ place_from at names name
same-place at [] name = refl
same-place at (n ∷ names) name = elim (cases_Bool (bytes_eq n name)) [
  | inl same ↦ rw same refl
  | inr other ↦ rw other (same-place (at + 1) names name)
]

none-twice : (before names : Record) → names_refusal before names ≡ None → first_twice (before ++ names) (length before) names ≡ None
none-twice before [] e = refl
none-twice before (n ∷ names) e =
    let h = neither (name_refusal before n) (names_refusal (before ++ (n ∷ [])) names) e in
    let more = none-twice (before ++ (n ∷ [])) names h.1 in
    let first = same-place 0 before n ∙ (taken-name before n h.0).2 in
    rw (take-append_seam before (n ∷ names), first) (rw (append_assoc before (n ∷ []) names, length-append before (n ∷ [])) at more)

narrow : (n : ℕ) → is_few n ≡ true → nat_lt MOST_COLUMNS n ≡ false
narrow n e = grind (arith, nat_tests)

header-taken : (names : Record) → is_few (length names) ≡ true → names_refusal [] names ≡ None → header_refusal names ≡ None
header-taken names few e = rw (narrow (length names) few, none-long 0 [] names e, none-twice [] names e) refl

-- ---- rows

-- what so many rows are refused for
abbrev too_many : ℕ → Option LoadRefusal
too_many rows = if nat_lt MOST_ROWS rows then Some load.TooManyRows else None

rows-judged : (width row : ℕ) (rows : List Record) → row ≤ MOST_ROWS → AreWide width rows → first_bad_row width row rows ≡ too_many (row + length rows)
rows-judged width row [] le w =
    let few : nat_lt MOST_ROWS (row + 0) ≡ false = grind (arith, nat_tests) in
    rw few refl
rows-judged width row (r ∷ rows) le w = elim (cases_Bool (row == MOST_ROWS)) [
  | inl full ↦
      let many : nat_lt MOST_ROWS (row + suc (length rows)) ≡ true = grind (arith, nat_tests) in
      rw (full, many) refl
  | inr not ↦
      let same : (length r == width) ≡ true = grind (arith, nat_tests) in
      let next : (row + 1) + length rows ≡ row + suc (length rows) = omega arith in
      rw (not, same) (rw next at (rows-judged width (row + 1) rows (grind (arith, nat_tests)) w.1))
]

table-judged : (names : Record) (rows : List Record) (refusal : Option Refusal) → IsTable (names ∷ rows) refusal
    → refusal_of (names ∷ rows) ≡ if is_full refusal then Some load.TooManyRows else None
table-judged names rows refusal t =
    let count : 0 + length rows ≡ length rows = omega arith in
    rw (header-taken names t.0 t.1) (rw (count, t.3) at (rows-judged (length names) 0 rows (omega arith) t.2))

-- ---- the records of the text

some-name : (n : ℕ) → is_few n ≡ true → n ≡ 0 → ⊥
some-name n few e = grind (arith, nat_tests)

stripped : (rows : List Record) (refusal : Option Refusal) → IsTable rows refusal → strip_bom (rows_text rows) ≡ rows_text rows
unfolding rows_text strip_bom
stripped [] refusal t = refl
stripped ([] ∷ rows) refusal t = absurd (some-name 0 t.0 refl)
stripped ((n ∷ names) ∷ rows) refusal t =
    let h = neither (name_refusal [] n) (names_refusal (n ∷ []) names) t.1 in
    record-kept n names (rows_text rows) (taken-name [] n h.0).0

reads-made : (rules : Rules) (rows : List Lined) → table_records (rows_text (prepared rules rows).rows) ≡ (prepared rules rows).rows
reads-made rules rows =
    let made = prepared rules rows in
    ap (records default_config) (stripped made.rows made.report.refusal (is-table rules rows)) ∙ reads-back rules rows

pub reads-records : ReadsTheRecords
reads-records rules export report written h = rw h.1 (reads-made rules (text_records (marks_of rules) export))

-- ---- what is written

whole : (rows : List Record) → IsTable rows None → refusal_of rows ≡ None
whole [] t = absurd (t refl)
whole (names ∷ rows) t = table-judged names rows None t

pub loads : Loads
loads rules export written told h =
    let made = prepared rules (text_records (marks_of rules) export) in
    rw (reads-records rules export (unrefused told) written h) (whole made.rows (rw (← h.0) at (is-table rules (text_records (marks_of rules) export))))

begun : (refusal : Refusal) (rows : List Record) (written : List ℕ) → IsTable rows (Some refusal) → written ≡ rows_text rows
    → (written ≡ []) ⊎ (refusal_of rows ≡ refusal_too refusal.cause)
unfolding rows_text
begun refusal [] written t e = inl e
begun refusal (names ∷ rows) written t e = inr (table-judged names rows (Some refusal) t)

pub begins-load : BeginsLoad
begins-load rules export written told refusal h =
    let made = prepared rules (text_records (marks_of rules) export) in
    rw (reads-records rules export (record { tally = told; refusal = Some refusal }) written h)
    (begun refusal made.rows written (rw (← h.0) at (is-table rules (text_records (marks_of rules) export))) h.1)
