-- The text of records that aren't empty has these records.
use Rattle.std.proofs.Common.{◌≡◌, ◌<◌, ℕ, true, Option, List, [], ◌∷◌, length, map, refl, ap, ◌∙◌, arith}
use Rattle.std.proofs.lemmas.Bool.Decides.{nat_tests}
use Rattle.std.specs.Prelude.{⊤}
use Rattle.csv.specs.Machine.{next_record}
use Rattle.csv.specs.Reading.{default_config, records}
use Rattle.csv.specs.Writing.{read_back}
use Rattle.csv.specs.declared.parser.State.TheVariants as st
use Rattle.csv.proofs.RoundTrip.{read-write}
use Rattle.prepare_text.proofs.Csv.{left-more, left-none}
use Rattle.prepare_rules.specs.Columns.{is_few}
use Rattle.prepare_rules.specs.Outcome.{AreWide, IsTable, ReadsBack, prepared, rows_text}
use Rattle.prepare_rules.specs.Records.{Record}
use Rattle.prepare_rules.specs.declared.cause.Refusal.{Refusal}
use Rattle.prepare_rules.proofs.Shape.{is-table}

read-all : (rows : List Record) → records default_config (rows_text rows) ≡ map read_back rows
unfolding rows_text next_record
read-all [] = left-none default_config st.StartRecord [] refl
read-all (row ∷ rows) = left-more default_config st.StartRecord (rows_text (row ∷ rows)) (read_back row, st.StartRecord, rows_text rows) refl (read-write row (rows_text rows))
    ∙ ap (λ (l : List Record). read_back row ∷ l) (read-all rows)

-- each record has a field
unfoldable Filled : List Record → Type 0
Filled [] = ⊤
Filled (row ∷ rows) = (0 < length row) × Filled rows

back-one : (row : Record) → 0 < length row → read_back row ≡ row
back-one [] lt = absurd (omega arith)
back-one (x ∷ rest) lt = refl

back-all : (rows : List Record) → Filled rows → map read_back rows ≡ rows
unfolding Filled
back-all [] f = refl
back-all (row ∷ rows) f = rw (back-one row f.0) (ap (λ (l : List Record). row ∷ l) (back-all rows f.1))

few-some : (n : ℕ) → is_few n ≡ true → 0 < n
few-some n e = grind (arith, nat_tests)

wide-filled : (width : ℕ) (rows : List Record) → 0 < width → AreWide width rows → Filled rows
unfolding Filled
wide-filled width [] lt w = tt
wide-filled width (row ∷ rows) lt w = (omega (arith, lt, w.0), wide-filled width rows lt w.1)

table-filled : (rows : List Record) (refusal : Option Refusal) → IsTable rows refusal → Filled rows
unfolding Filled
table-filled [] refusal t = tt
table-filled (names ∷ rows) refusal t = let lt = few-some (length names) t.0 in (lt, wide-filled (length names) rows lt t.2)

pub reads-back : ReadsBack
reads-back rules rows =
    let made = prepared rules rows in
    read-all made.rows ∙ back-all made.rows (table-filled made.rows made.report.refusal (is-table rules rows))
