-- What is written has names that are taken, and rows as wide.
use Rattle.std.proofs.Common.{◌≡◌, ◌+◌, ◌-◌, ◌<◌, ◌==◌, ℕ, suc, true, false, None, Option, Some, List, [], ◌∷◌, length, map, drop, refl, sym, ap, ◌∙◌, arith, inl, inr}
use Rattle.std.proofs.lemmas.Bool.{cases_Bool}
use Rattle.std.proofs.lemmas.Bool.Decides.{nat_tests}
use Rattle.std.proofs.lemmas.List.{length-map}
use Rattle.std.specs.Prelude.{Result, Ok, Err, nat_lt, slice_index_or}
use Rattle.prepare_text.specs.Walk.{Lined}
use Rattle.prepare_rules.proofs.Choosing.{first-of, second-of}
use Rattle.prepare_rules.specs.Columns.{both_from, is_few, lost_name, names_written, pick_at, picks_among, picks_dated, picks_from, picks_meant, picks_named, picks_of, places_from, renamed, written_places}
use Rattle.prepare_rules.specs.Made.{change_refusal, field_change, field_made, fields_made, fields_refusal, is_taken, picked_made, row_made, row_told}
use Rattle.prepare_rules.specs.Names.{named_picks, names_refusal, or_cause, unless}
use Rattle.prepare_rules.specs.Outcome.{AreWide, IsTable, Outcome, below, counted_names, first_row, from_first, is_full, is_full_for, kept, made_first, number_past, prepared, under, under_picks}
use Rattle.prepare_rules.specs.Records.{Record}
use Rattle.prepare_rules.specs.Tally.{no_tally}
use Rattle.prepare_rules.specs.declared.cause.Cause.{Cause}
use Rattle.prepare_rules.specs.declared.cause.Cause.TheVariants as cause
use Rattle.prepare_rules.specs.declared.change.Change.{Change}
use Rattle.prepare_rules.specs.declared.change.Change.TheVariants as change
use Rattle.prepare_rules.specs.declared.columns.Pick.{Pick}
use Rattle.prepare_rules.specs.declared.rules.Rules.{Rules}
use Rattle.prepare_rules.specs.declared.tally.Tally.{Tally}
use Rattle.table_sets.specs.declared.limits.TheConstants.{MOST_ROWS}

-- columns that are as many as a table has
meant : (o : Option ℕ) (found picks : List Pick) → picks_meant o found ≡ Ok picks → found ≡ picks
meant None found picks e = cc e
meant (Some word) found picks e = cc e

dated : (numbers : List ℕ) (d : Result (List ℕ) ℕ) (places : List ℕ) (picks : List Pick) → picks_dated numbers d places ≡ Ok picks → is_few (length places) ≡ true
    → is_few (length picks) ≡ true
dated numbers (Err word) places picks e few = cc e
dated numbers (Ok dates) places picks e few =
    let g = meant (both_from 0 numbers dates) (map (pick_at numbers dates) places) picks e in
    ap is_few (ap length (sym g) ∙ length-map places (pick_at numbers dates)) ∙ few

among : (r d : Result (List ℕ) ℕ) (places : List ℕ) (picks : List Pick) → picks_among r d places ≡ Ok picks → is_few (length places) ≡ true → is_few (length picks) ≡ true
among (Err word) d places picks e few = cc e
among (Ok numbers) d places picks e few = dated numbers d places picks e few

from : (rules : Rules) (names : Record) (r : Result (List ℕ) ℕ) (picks : List Pick) → picks_from rules names r ≡ Ok picks → is_few (length picks) ≡ true
from rules names (Err word) picks e = cc e
from rules names (Ok places) picks e = elim (cases_Bool (is_few (length places))) [
  | inl so ↦ among (places_from names 0 rules.numbers.now) (places_from names 0 rules.dates.now) places picks (rw so at e) so
  | inr not ↦ cc (rw not at e)
]

named : (o : Option ℕ) (r : Result (List Pick) Cause) (picks : List Pick) → picks_named o r ≡ Ok picks → r ≡ Ok picks
named None r picks e = e
named (Some word) r picks e = cc e

few : (rules : Rules) (names : Record) (picks : List Pick) → picks_of rules names ≡ Ok picks → is_few (length picks) ≡ true
few rules names picks e =
    let r = written_places rules.columns.now names in
    from rules names r picks (named (lost_name names 0 rules.renames.now) (picks_from rules names r) picks e)

-- names that are taken
passed : (o : Option Cause) (found picks : List Pick) → unless o found ≡ Ok picks → (o ≡ None) × (found ≡ picks)
passed None found picks e = (refl, cc e)
passed (Some c) found picks e = cc e

taken : (rules : Rules) (names : Record) (r : Result (List Pick) Cause) (picks : List Pick) → named_picks rules names r ≡ Ok picks
    → (r ≡ Ok picks) × (names_refusal [] (names_written rules names picks) ≡ None)
taken rules names (Err c) picks e = cc e
taken rules names (Ok found) picks e =
    let h = passed (names_refusal [] (names_written rules names found)) found picks e in
    (ap Ok h.1, ap (λ ps. names_refusal [] (names_written rules names ps)) (sym h.1) ∙ h.0)

-- a record that is made is as wide as the columns
made-wide : (rules : Rules) (picks : List Pick) (fields row : Record) → picked_made rules picks fields ≡ Ok row → length row ≡ length picks
made-wide rules picks fields row e = go (fields_refusal rules 1 picks fields) e
  where
    go : (o : Option Cause) → unless o (fields_made rules picks fields) ≡ Ok row → length row ≡ length picks
    go None is =
        let same : fields_made rules picks fields ≡ row = cc is in
        ap length (sym same) ∙ length-map picks (λ (p : Pick). field_made rules p.kind (slice_index_or fields p.place []))
    go (Some c) is = cc is

-- rows as wide as the names
first-wide : (width at line : ℕ) (told : Tally) (r : Result Record Cause) (rest : Outcome) → ((row : Record) → r ≡ Ok row → length row ≡ width) → AreWide width rest.rows
    → AreWide width (made_first at line told r rest).rows
first-wide width at line told (Ok row) rest is more = (is row refl, more)
first-wide width at line told (Err c) rest is more = tt

row-wide : (rules : Rules) (names : ℕ) (picks : List Pick) (fields row : Record) → row_made rules names picks fields ≡ Ok row → length row ≡ length picks
row-wide rules names picks fields row e = elim (cases_Bool (is_taken rules names (length fields))) [
  | inl so ↦ made-wide rules picks fields row (rw so at e)
  | inr not ↦ cc (rw not at e)
]

below-wide : (rules : Rules) (names : ℕ) (picks : List Pick) (at : ℕ) (told : Tally) (rows : List Lined) → AreWide (length picks) (below rules names picks at told rows).rows
below-wide rules names picks at told [] = tt
below-wide rules names picks at told (r ∷ rows) = elim (cases_Bool (at == number_past rules)) [
  | inl full ↦ rw full (first-wide (length picks) at r.line told (row_made rules names picks r.fields) _ (row-wide rules names picks r.fields) tt)
  | inr more ↦ rw more (first-wide (length picks) at r.line told (row_made rules names picks r.fields) _ (row-wide rules names picks r.fields)
      (below-wide rules names picks (at + 1) (row_told rules names picks r told) rows))
]

none-more : (room : ℕ) → nat_lt room 0 ≡ false
none-more room = grind (arith, nat_tests)

one-more : (room rows : ℕ) → nat_lt (room + 1) (suc rows) ≡ nat_lt room rows
one-more room rows = grind (arith, nat_tests)

-- a row too many, where there is room for so many yet, is told
first-full : (room at line : ℕ) (told : Tally) (r : Result Record Cause) (rest : Outcome) → ((c : Cause) → r ≡ Err c → is_full_for c ≡ false)
    → nat_lt room (suc (length rest.rows)) ≡ is_full rest.report.refusal
    → nat_lt room (length (made_first at line told r rest).rows) ≡ is_full (made_first at line told r rest).report.refusal
first-full room at line told (Ok row) rest is more = more
first-full room at line told (Err c) rest is more = none-more room ∙ sym (is c refl)

change-other : (column : ℕ) (x : Change) (c : Cause) → change_refusal column x ≡ Some c → is_full_for c ≡ false
change-other column change.Kept c e = cc e
change-other column change.Missing c e = cc e
change-other column change.Spelled c e = cc e
change-other column change.Rounded c e = cc e
change-other column change.Dated c e = cc e
change-other column change.TooLong c e = let is : cause.LongNumber column ≡ c = cc e in rw (← is) refl
change-other column change.NoDate c e = let is : cause.NoDate column ≡ c = cc e in rw (← is) refl

fields-other : (rules : Rules) (column : ℕ) (picks : List Pick) (fields : Record) (c : Cause) → fields_refusal rules column picks fields ≡ Some c → is_full_for c ≡ false
fields-other rules column [] fields c e = cc e
fields-other rules column (p ∷ picks) fields c e =
    go (change_refusal column (field_change rules p.kind (slice_index_or fields p.place [])))
    (change-other column (field_change rules p.kind (slice_index_or fields p.place [])) c) (fields-other rules (column + 1) picks fields c) e
  where
    go : (o : Option Cause) → (o ≡ Some c → is_full_for c ≡ false) → (fields_refusal rules (column + 1) picks fields ≡ Some c → is_full_for c ≡ false)
        → or_cause o (fields_refusal rules (column + 1) picks fields) ≡ Some c → is_full_for c ≡ false
    go None first rest is = rest is
    go (Some d) first rest is = first is

picked-other : (rules : Rules) (picks : List Pick) (fields : Record) (c : Cause) → picked_made rules picks fields ≡ Err c → is_full_for c ≡ false
picked-other rules picks fields c e = go (fields_refusal rules 1 picks fields) (fields-other rules 1 picks fields) e
  where
    go : (o : Option Cause) → ((d : Cause) → o ≡ Some d → is_full_for d ≡ false) → unless o (fields_made rules picks fields) ≡ Err c → is_full_for c ≡ false
    go None is same = cc same
    go (Some d) is same = is c (cc same)

row-other : (rules : Rules) (names : ℕ) (picks : List Pick) (fields : Record) (c : Cause) → row_made rules names picks fields ≡ Err c → is_full_for c ≡ false
row-other rules names picks fields c e = elim (cases_Bool (is_taken rules names (length fields))) [
  | inl so ↦ picked-other rules picks fields c (rw so at e)
  | inr not ↦
      let is : cause.Fields (length fields) names ≡ c = cc (rw not at e) in
      rw (← is) refl
]

below-full : (rules : Rules) (names : ℕ) (picks : List Pick) (at room : ℕ) (told : Tally) (rows : List Lined) → at + room ≡ number_past rules
    → nat_lt room (length (below rules names picks at told rows).rows) ≡ is_full (below rules names picks at told rows).report.refusal
below-full rules names picks at room told [] e = none-more room
below-full rules names picks at room told (r ∷ rows) e = elim (cases_Bool (at == number_past rules)) [
  | inl full ↦
      let last : room ≡ 0 = grind (arith, nat_tests) in
      rw (full, last) (first-full 0 at r.line told (row_made rules names picks r.fields) _ (row-other rules names picks r.fields) refl)
  | inr more ↦
      let after = row_told rules names picks r told in
      let some : 0 < room = grind (arith, nat_tests) in
      let left : (room - 1) + 1 ≡ room = omega (arith, some) in
      let h = below-full rules names picks (at + 1) (room - 1) after rows (omega (arith, some, e)) in
      rw more (first-full room at r.line told (row_made rules names picks r.fields) _ (row-other rules names picks r.fields)
      (rw left at (one-more (room - 1) (length (below rules names picks (at + 1) after rows).rows) ∙ h)))
]

under-table : (rules : Rules) (names : Record) (line at : ℕ) (rows : List Lined) (r : Result (List Pick) Cause) → at ≡ first_row rules
    → ((picks : List Pick) → r ≡ Ok picks → (is_few (length picks) ≡ true) × (names_refusal [] (names_written rules names picks) ≡ None))
    → IsTable (under_picks rules names line at rows r).rows (under_picks rules names line at rows r).report.refusal
under-table rules names line at rows (Err c) first good = λ e. cc e
under-table rules names line at rows (Ok picks) first good =
    let h = good picks refl in
    let width : length (names_written rules names picks) ≡ length picks = length-map picks (λ (p : Pick). renamed rules.renames.now (slice_index_or names p.place [])) in (
      ap is_few width ∙ h.0,
      h.1,
      rw width (below-wide rules (length names) picks at no_tally rows),
      below-full rules (length names) picks at MOST_ROWS no_tally rows (ap (λ n. n + MOST_ROWS) first),
    )

all-under : (rules : Rules) (names : Record) (line at : ℕ) (rows : List Lined) → at ≡ first_row rules → IsTable (under rules names line at rows).rows (under rules names line at rows).report.refusal
all-under rules names line at rows first = under-table rules names line at rows (named_picks rules names (picks_of rules names)) first (λ picks e.
    let h = taken rules names (picks_of rules names) picks e in
    (few rules names picks h.0, h.1))

kept-table : (rules : Rules) (rows : List Lined) → IsTable (kept rules rows).rows (kept rules rows).report.refusal
kept-table rules [] = λ e. cc e
kept-table rules (first ∷ rows) =
    let named = under rules first.fields first.line (rules.skip + 2) rows in
    let counted = from_first rules first rows in
    elim (cases_Bool rules.has_names) [
      | inl so ↦ rw (first-of rules.has_names named counted so) (all-under rules first.fields first.line (rules.skip + 2) rows (rw so refl))
      | inr not ↦ rw (second-of rules.has_names named counted not)
          (all-under rules (counted_names (length first.fields)) first.line (rules.skip + 1) (first ∷ rows) (rw not refl))
    ]

pub is-table : (rules : Rules) (rows : List Lined) → IsTable (prepared rules rows).rows (prepared rules rows).report.refusal
is-table rules rows = kept-table rules (drop rules.skip rows)
