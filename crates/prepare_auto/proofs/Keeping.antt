-- What the rules that a look gives keep.
use Rattle.std.proofs.Common.{◌≡◌, ◌+◌, ◌-◌, ◌==◌, ℕ, suc, Bool, true, false, List, [], ◌∷◌, length, drop, subst, Option, None, Some, Result, Ok, Err, refl, sym, ap, ◌∙◌, inl, inr, arith}
use Rattle.std.proofs.Math.Numerals.{add-one}
use Rattle.std.proofs.lemmas.Bool.{cases_Bool}
use Rattle.std.specs.Prelude.{if◌then◌else◌}
use Rattle.prepare_page.specs.Advice.{needs_rules, reading_of}
use Rattle.prepare_auto.specs.declared.spelling.Spelling.{Spelling}
use Rattle.prepare_page.specs.declared.look.Look.{Look}
use Rattle.std.specs.List.{list_any}
use Rattle.std.specs.Str.{bytes_eq}
use Rattle.prepare_numbers.specs.Plain.{is_nonzero, spread}
use Rattle.prepare_numbers.specs.Rounding.{dropped, excess}
use Rattle.prepare_numbers.specs.Spells.{mantissa, spells}
use Rattle.prepare_numbers.specs.Values.{digits_in, value_of}
use Rattle.prepare_numbers.specs.declared.limit.Fit.TheVariants as fit
use Rattle.prepare_numbers.specs.declared.limit.Limit.{Limit}
use Rattle.prepare_rules.proofs.Spelled.{keeps-worth}
use Rattle.prepare_rules.specs.Columns.{picks_of}
use Rattle.prepare_dates.specs.Days.{Numbers, date_in}
use Rattle.prepare_rules.proofs.Dated.{keeps-day}
use Rattle.prepare_rules.specs.Dates.{date_made, date_or}
use Rattle.prepare_rules.specs.Made.{change_by, change_refusal, field_change, field_made, is_mark, mark_change, row_made, row_told, spelled_change}
use Rattle.prepare_rules.specs.Names.{named_picks}
use Rattle.prepare_rules.specs.Numbers.{fit_by, form_of, mark_byte, number_made, number_text}
use Rattle.prepare_rules.specs.Outcome.{Outcome, all_done, below, counted_names, kept, made_first, number_past, prepared, refused_in, under, under_picks}
use Rattle.prepare_rules.specs.declared.cause.Cause.TheVariants as cause
use Rattle.prepare_rules.specs.Records.{Record}
use Rattle.prepare_rules.specs.Tally.{no_tally}
use Rattle.prepare_rules.specs.declared.cause.Cause.{Cause}
use Rattle.prepare_rules.specs.declared.change.Change.TheVariants as change
use Rattle.prepare_rules.specs.declared.columns.Pick.{Pick}
use Rattle.prepare_rules.specs.declared.kind.Kind.{Kind}
use Rattle.prepare_rules.specs.declared.kind.Kind.TheVariants as kind
use Rattle.prepare_rules.specs.declared.rules.Column.{Column}
use Rattle.prepare_rules.specs.declared.rules.Rules.{Rules}
use Rattle.prepare_rules.specs.declared.tally.Tally.{Tally}
use Rattle.prepare_text.specs.Walk.{Lined}
use Rattle.prepare_auto.specs.Advised.{IsNumberedFor, limit_by, places_below, shaped, spelling_of, taken_at}
use Rattle.prepare_auto.specs.Kept.{Keeps, KeepsFields, KeepsRecords, rounds}

-- one column more
pub places-more : (is : ℕ → Bool) (n : ℕ) → places_below is (n + 1) ≡ taken_at is n (places_below is n)
unfolding places_below
places-more is n = ap (places_below is) (add-one n)

abbrev look_places : Look → List Column
look_places look = places_below (needs_rules look.survey (reading_of look.survey)) look.survey.width

-- what a look doesn't give is as it was asked for
same-trims : (columns : List Column) (shape : Rules) (spelling : Spelling) (places : List Column) (taken : Rules) → IsNumberedFor columns shape spelling places taken
    → taken.trims ≡ shape.trims
same-trims [] shape spelling places taken is = ap (λ (r : Rules). r.trims) is.rules
same-trims (c ∷ cs) shape spelling places taken is = ap (λ (r : Rules). r.trims) is

rounds-by : (limit : Option Limit) (b : Bool) → rounds (limit_by limit b) ≡ rounds limit
rounds-by None true = refl
rounds-by None false = refl
rounds-by (Some limit) b = refl

same-rounds : (columns : List Column) (shape : Rules) (spelling : Spelling) (places : List Column) (taken : Rules) → IsNumberedFor columns shape spelling places taken
    → rounds taken.limit ≡ rounds shape.limit
same-rounds [] shape spelling places taken is = ap (λ (r : Rules). rounds r.limit) is.rules ∙ rounds-by shape.limit spelling.has_zeros
same-rounds (c ∷ cs) shape spelling places taken is = ap (λ (r : Rules). rounds r.limit) is

same-skip : (columns : List Column) (shape : Rules) (spelling : Spelling) (places : List Column) (taken : Rules) → IsNumberedFor columns shape spelling places taken
    → taken.skip ≡ shape.skip
same-skip [] shape spelling places taken is = ap (λ (r : Rules). r.skip) is.rules
same-skip (c ∷ cs) shape spelling places taken is = ap (λ (r : Rules). r.skip) is

-- ---- fields

-- a number that isn't rounded and isn't too long fits
fits : (limit : Option Limit) (up down : ℕ) (digits : List ℕ) (is_same : Bool) (column : ℕ) → rounds limit ≡ false
    → change_refusal column (change_by (fit_by limit up down digits) is_same) ≡ None → fit_by limit up down digits ≡ fit.Whole
fits None up down digits is_same column r l = refl
fits (Some limit) up down digits is_same column r l = elim (cases_Bool (list_any is_nonzero (dropped (excess limit (down - up)) (spread up down digits)))) [
  | inl past ↦ cc (rw (past, r) at l)
  | inr none ↦ rw none refl
]

by-spell : (taken : Rules) (column : ℕ) (field : List ℕ) → rounds taken.limit ≡ false → (b : Bool) → spells (form_of taken) field ≡ b
    → change_refusal column (if b then spelled_change taken field else change.Kept) ≡ None
    → Keeps taken kind.Numbers field (if b then number_text taken.limit (mark_byte taken.mark) field else field)
by-spell taken column field r false e l = inl refl
by-spell taken column field r true e l =
    let mark = mark_byte taken.mark in
    let whole = fits taken.limit (value_of mark field).up (value_of mark field).down (digits_in (mantissa field))
    (bytes_eq (number_text taken.limit mark field) field) column r l in
    inr (inl (rw e at (keeps-worth taken.limit (form_of taken) field e whole)))

by-mark : (taken : Rules) (column : ℕ) (field : List ℕ) → rounds taken.limit ≡ false → (b : Bool) → is_mark taken.missing.now field ≡ b
    → change_refusal column (if b then mark_change field else (if spells (form_of taken) field then spelled_change taken field else change.Kept)) ≡ None
    → Keeps taken kind.Numbers field (if b then [] else number_made taken.limit (form_of taken) field)
by-mark taken column field r true e l = inr (inr (e, refl))
by-mark taken column field r false e l = by-spell taken column field r (spells (form_of taken) field) refl l

by-day : (taken : Rules) (field : List ℕ) (o : Option Numbers) → date_in taken.order field ≡ o → Keeps taken kind.Dates field (date_or field o)
by-day taken field None e = inl refl
by-day taken field (Some d) e = inr (inl (d, e, rw e at (keeps-day taken.order taken.order field d e)))

dated : (taken : Rules) (field : List ℕ) (b : Bool) → is_mark taken.missing.now field ≡ b
    → Keeps taken kind.Dates field (if b then [] else date_made taken.order field)
dated taken field true e = inr (inr (e, refl))
dated taken field false e = by-day taken field (date_in taken.order field) refl

bare-kept : (taken : Rules) → taken.trims ≡ false → rounds taken.limit ≡ false → (k : Kind) (column : ℕ) (field : List ℕ)
    → change_refusal column (field_change taken k field) ≡ None → Keeps taken k field (field_made taken k field)
bare-kept taken t r kind.Texts column field l = rw t refl
bare-kept taken t r kind.Numbers column field l = rw t (by-mark taken column field r (is_mark taken.missing.now field) refl (rw t at l))
bare-kept taken t r kind.Dates column field l = rw t (dated taken field (is_mark taken.missing.now field) refl)

pub keeps-fields : KeepsFields
keeps-fields asked look taken is untrimmed unrounded =
    bare-kept taken (same-trims asked.numbers.now (shaped asked look) (spelling_of look) (look_places look) taken is ∙ untrimmed)
    (same-rounds asked.numbers.now (shaped asked look) (spelling_of look) (look_places look) taken is ∙ unrounded)

-- ---- records

some-none : {A : Type 0} (x : A) → Some x ≡ None → ⊥
some-none x e = cc

made-all : (at line : ℕ) (told : Tally) (r : Result Record Cause) (rest : Outcome) (n : ℕ) → (rest.report.refusal ≡ None → length rest.rows ≡ n)
    → (made_first at line told r rest).report.refusal ≡ None → length (made_first at line told r rest).rows ≡ suc n
made-all at line told (Err c) rest n k e = absurd (some-none _ e)
made-all at line told (Ok row) rest n k e = ap suc (k e)

-- a row more than a table has is refused
unless-full : (full : Bool) (at line n : ℕ) (told : Tally) (rest : Outcome) → (rest.report.refusal ≡ None → length rest.rows ≡ n)
    → (if full then all_done (refused_in at (Some line) cause.TooManyRows told) else rest).report.refusal ≡ None
    → length (if full then all_done (refused_in at (Some line) cause.TooManyRows told) else rest).rows ≡ n
unless-full true at line n told rest k e = absurd (some-none _ e)
unless-full false at line n told rest k e = k e

below-all : (rules : Rules) (names : ℕ) (picks : List Pick) (rows : List Lined) (at : ℕ) (told : Tally) → (below rules names picks at told rows).report.refusal ≡ None
    → length (below rules names picks at told rows).rows ≡ length rows
below-all rules names picks [] at told e = refl
below-all rules names picks (r ∷ rows) at told e =
    let after = row_told rules names picks r told in
    let rest = below rules names picks (at + 1) after rows in
    let full = at == number_past rules in
    made-all at r.line told (row_made rules names picks r.fields) (if full then all_done (refused_in at (Some r.line) cause.TooManyRows after) else rest) (length rows)
    (unless-full full at r.line (length rows) after rest (below-all rules names picks rows (at + 1) after)) e

picks-all : (rules : Rules) (names : Record) (line at : ℕ) (rows : List Lined) (found : Result (List Pick) Cause) → (under_picks rules names line at rows found).report.refusal ≡ None
    → length (under_picks rules names line at rows found).rows ≡ suc (length rows)
picks-all rules names line at rows (Err c) e = absurd (some-none _ e)
picks-all rules names line at rows (Ok picks) e = ap suc (below-all rules (length names) picks rows at no_tally e)

under-all : (rules : Rules) (names : Record) (line at : ℕ) (rows : List Lined) → (under rules names line at rows).report.refusal ≡ None
    → length (under rules names line at rows).rows ≡ suc (length rows)
under-all rules names line at rows = picks-all rules names line at rows (named_picks rules names (picks_of rules names))

by-names : (rules : Rules) (first : Lined) (rows : List Lined) (b : Bool)
    → (if b then under rules first.fields first.line (rules.skip + 2) rows else under rules (counted_names (length first.fields)) first.line (rules.skip + 1) (first ∷ rows)).report.refusal ≡ None
    → length (if b then under rules first.fields first.line (rules.skip + 2) rows else under rules (counted_names (length first.fields)) first.line (rules.skip + 1) (first ∷ rows)).rows
    ≡ (if b then 0 else 1) + suc (length rows)
by-names rules first rows true e = under-all rules first.fields first.line (rules.skip + 2) rows e ∙ omega arith
by-names rules first rows false e = under-all rules (counted_names (length first.fields)) first.line (rules.skip + 1) (first ∷ rows) e ∙ omega arith

kept-all : (rules : Rules) (rows : List Lined) → (kept rules rows).report.refusal ≡ None → length (kept rules rows).rows ≡ (if rules.has_names then 0 else 1) + length rows
kept-all rules [] e = absurd (some-none _ e)
kept-all rules (first ∷ rows) e = by-names rules first rows rules.has_names e

prepared-all : (rules : Rules) (rows : List Lined) → rules.skip ≡ 0 → (prepared rules rows).report.refusal ≡ None
    → length (prepared rules rows).rows ≡ (if rules.has_names then 0 else 1) + length rows
prepared-all rules rows s = subst (λ n. (kept rules (drop n rows)).report.refusal ≡ None → length (kept rules (drop n rows)).rows ≡ (if rules.has_names then 0 else 1) + length rows)
    (sym s) (kept-all rules rows)

pub keeps-records : KeepsRecords
keeps-records asked look taken is none rows = prepared-all taken rows (same-skip asked.numbers.now (shaped asked look) (spelling_of look) (look_places look) taken is ∙ none)
