-- Records that are read, made and written one behind the other come to what the rules make of all.
use Rattle.std.proofs.Common.{◌≡◌, ◌+◌, ◌==◌, ◌≤◌, ℕ, zero, suc, true, false, Option, Some, None, List, [], ◌∷◌, ◌++◌, length, drop, refl, sym, ap, ◌∙◌, arith, append-nil, append_assoc, inl, inr}
use Rattle.std.proofs.lemmas.Bool.{cases_Bool, ne_eqb}
use Rattle.std.proofs.lemmas.List.{drop-drop}
use Rattle.std.specs.Io.KnownBytes.{Appends, Keeps}
use Rattle.std.specs.Prelude.{IfOk, Result, Ok, Err, option_map}
use Rattle.csv.specs.Writing.{default_writer, row_text}
use Rattle.prepare_rules.proofs.Choosing.{first-of, second-of}
use Rattle.prepare_rules.specs.Columns.{names_written}
use Rattle.prepare_rules.specs.Made.{IsRowMade, row_made, row_told}
use Rattle.prepare_rules.specs.Outcome.{Becomes, Begins, IsPrepared, Outcome, below, counted_names, from_first, marks_of, number_past, prepared, refused_first, refused_in, rows_text, under, unrefused}
use Rattle.prepare_rules.specs.Records.{IsLeft, Record}
use Rattle.prepare_rules.specs.Tally.{no_tally}
use Rattle.prepare_text.specs.Source.{IsOver, Stays, Takes}
use Rattle.prepare_text.specs.Walk.{Lined, text_records}
use Rattle.prepare_rules.specs.declared.cause.Cause.{Cause}
use Rattle.prepare_rules.specs.declared.cause.Cause.TheVariants as cause
use Rattle.prepare_rules.specs.declared.columns.Pick.{Pick}
use Rattle.prepare_rules.specs.declared.columns.Plan.{Plan}
use Rattle.prepare_rules.specs.declared.failure.Failure.{Failure}
use Rattle.prepare_rules.specs.declared.report.Report.{Report}
use Rattle.prepare_rules.specs.declared.rules.Rules.{Rules}
use Rattle.prepare_rules.specs.declared.tally.Tally.{Tally}
use Rattle.table_sets.specs.declared.limits.TheConstants.{MOST_ROWS}

-- ---- records that are left out

drop-next : (k : ℕ) (rows : List Lined) (f : Lined) (rest : List Lined) → drop k rows ≡ f ∷ rest → drop (k + 1) rows ≡ rest
drop-next k rows f rest e = sym (drop-drop 1 k rows) ∙ ap (drop 1) e

pub left-next : (k : ℕ) (start now new : Option (List Lined)) (f : Lined) → IsLeft (option_map (drop k) start) now → Takes now f new
    → IsLeft (option_map (drop (k + 1)) start) new
left-next k None now new f is t = tt
left-next k (Some rows) None new f is t = absurd is
left-next k (Some rows) (Some here) None f is t = absurd t
left-next k (Some rows) (Some here) (Some rest) f is t = sym (drop-next k rows f rest (sym is ∙ t))

pub left-takes : (old now new : Option (List Lined)) (f : Lined) → IsLeft old now → Takes now f new → Takes old f new
left-takes None now new f is t = tt
left-takes (Some rows) None new f is t = absurd is
left-takes (Some rows) (Some here) None f is t = absurd t
left-takes (Some rows) (Some here) (Some rest) f is t = sym is ∙ t

drop-nil : (n : ℕ) → drop {A = Lined} n [] ≡ []
drop-nil zero = refl
drop-nil (suc n) = refl

drop-more-none : (k n : ℕ) (rows : List Lined) → k ≤ n → drop k rows ≡ [] → drop n rows ≡ []
drop-more-none zero n rows le e = rw e (drop-nil n)
drop-more-none (suc k) n [] le e = drop-nil n
drop-more-none (suc k) zero (r ∷ rows) le e = absurd (omega arith)
drop-more-none (suc k) (suc n) (r ∷ rows) le e = drop-more-none k n rows (omega arith) e

pub left-over : (k n : ℕ) (start now : Option (List Lined)) → k ≤ n → IsLeft (option_map (drop k) start) now → IsOver now → IsOver (option_map (drop n) start)
left-over k n None now le is over = tt
left-over k n (Some rows) None le is over = absurd is
left-over k n (Some rows) (Some here) le is over = drop-more-none k n rows le (sym is ∙ over)

-- ---- texts that grow

pub grows : (old mid new : Option (List ℕ)) (xs ys : List ℕ) → Appends old mid xs → Appends mid new ys → Appends old new (xs ++ ys)
grows None mid new xs ys a b = tt
grows (Some t) None new xs ys a b = absurd a
grows (Some t) (Some u) None xs ys a b = absurd b
grows (Some t) (Some u) (Some v) xs ys a b = rw (b, a) (append_assoc t xs ys)

ends-so : (old mid new : Option (List ℕ)) (xs : List ℕ) → Appends old mid xs → Keeps mid new → Appends old new xs
ends-so None mid new xs a k = tt
ends-so (Some t) None new xs a k = absurd a
ends-so (Some t) (Some u) None xs a k = absurd k
ends-so (Some t) (Some u) (Some v) xs a k = k ∙ a

pub stays : (text : Option (List ℕ)) → Appends text text []
stays None = tt
stays (Some t) = sym (append-nil t)

-- ---- what records come to

-- one record is read, made and written
pub below-next : (rules : Rules) (names : ℕ) (picks : List Pick) (at : ℕ) (told : Tally) (old now : Option (List Lined)) (f : Lined) (row : Record) (report : Report) (text mid new : Option (List ℕ))
    → (at == number_past rules) ≡ false → Takes old f now → row_made rules names picks f.fields ≡ Ok row → Appends text mid (row_text default_writer row)
    → Becomes (below rules names picks (at + 1) (row_told rules names picks f told)) now report mid new → Becomes (below rules names picks at told) old report text new
unfolding rows_text
below-next rules names picks at told None now f row report text mid new more t e a b = tt
below-next rules names picks at told (Some rows) None f row report text mid new more t e a b = absurd t
below-next rules names picks at told (Some rows) (Some rest) f row report text mid new more t e a b =
    rw (t, e, more) (
      b.0,
      grows text mid new (row_text default_writer row) (rows_text (below rules names picks (at + 1) (row_told rules names picks f told) rest).rows) a b.1,
    )

-- one record is read, made and written, and is one row too many
pub below-full : (rules : Rules) (names : ℕ) (picks : List Pick) (at : ℕ) (told : Tally) (old now : Option (List Lined)) (f : Lined) (row : Record) (text new : Option (List ℕ))
    → (at == number_past rules) ≡ true → Takes old f now → row_made rules names picks f.fields ≡ Ok row → Appends text new (row_text default_writer row)
    → Becomes (below rules names picks at told) old (refused_in at (Some f.line) cause.TooManyRows (row_told rules names picks f told)) text new
unfolding rows_text
below-full rules names picks at told None now f row text new full t e a = tt
below-full rules names picks at told (Some rows) None f row text new full t e a = absurd t
below-full rules names picks at told (Some rows) (Some rest) f row text new full t e a = rw (t, e, full) (refl, grows text new new (row_text default_writer row) [] a (stays new))

-- one record is read and refused
pub below-refused : (rules : Rules) (names : ℕ) (picks : List Pick) (at : ℕ) (told : Tally) (old now : Option (List Lined)) (f : Lined) (c : Cause) (text : Option (List ℕ))
    → Takes old f now → row_made rules names picks f.fields ≡ Err c → Becomes (below rules names picks at told) old (refused_in at (Some f.line) c told) text text
unfolding rows_text
below-refused rules names picks at told None now f c text t e = tt
below-refused rules names picks at told (Some rows) None f c text t e = absurd t
below-refused rules names picks at told (Some rows) (Some rest) f c text t e = rw (t, e) (refl, stays text)

-- the first record that is kept is no row too many
pub first-counts : (rules : Rules) → ((rules.skip + 1) == number_past rules) ≡ false
first-counts rules = elim (cases_Bool rules.has_names) [
  | inl so ↦ rw so (ne_eqb (rules.skip + 1) ((rules.skip + 2) + MOST_ROWS) (λ e. omega (arith, e)))
  | inr not ↦ rw not (ne_eqb (rules.skip + 1) ((rules.skip + 1) + MOST_ROWS) (λ e. omega (arith, e)))
]

-- there is no more record
pub below-over : (rules : Rules) (names : ℕ) (picks : List Pick) (at : ℕ) (told : Tally) (old : Option (List Lined)) (text : Option (List ℕ))
    → IsOver old → Becomes (below rules names picks at told) old (unrefused told) text text
unfolding rows_text
below-over rules names picks at told None text over = tt
below-over rules names picks at told (Some rows) text over = rw over (refl, stays text)

-- what was made of a record, and is told with it; or why it was refused
pub made-is : (r : Result Record Cause) (after told : Tally) (made : Record) → IsRowMade r after (Ok told) made → (r ≡ Ok made) × (told ≡ after)
made-is (Ok row) after told made is = (ap Ok (sym is.1), is.0)
made-is (Err c) after told made is = absurd is

pub refused-is : (r : Result Record Cause) (after : Tally) (c : Cause) (made : Record) → IsRowMade r after (Err c) made → r ≡ Err c
refused-is (Ok row) after c made is = absurd is
refused-is (Err d) after c made is = ap Err (sym is)

-- the names are written, and then the records below them
pub under-ok : (rules : Rules) (names : Record) (line at : ℕ) (plan : Plan) (rows : Option (List Lined)) (report : Report) (old mid new : Option (List ℕ))
    → Begins rules names (Ok plan) old mid → Becomes (below rules plan.names plan.picks.items at no_tally) rows report mid new
    → Becomes (under rules names line at) rows report old new
unfolding rows_text
under-ok rules names line at plan None report old mid new is b = tt
under-ok rules names line at plan (Some rows) report old mid new is b =
    let h = rw is.1 at b in
    rw is.0 (
      h.0,
      grows old mid new (row_text default_writer (names_written rules names plan.picks.items))
          (rows_text (below rules (length names) plan.picks.items at no_tally rows).rows) is.2 h.1,
    )

-- no columns are found
pub under-err : (rules : Rules) (names : Record) (line at : ℕ) (c : Cause) (rows : Option (List Lined)) (old new : Option (List ℕ))
    → Begins rules names (Err c) old new → Becomes (under rules names line at) rows (refused_first rules.skip (Some line) c) old new
unfolding rows_text
under-err rules names line at c None old new is = tt
under-err rules names line at c (Some rows) old new is = rw (is.0, is.1) (refl, stays old)

-- a first record that is kept, before those that are left
abbrev pub with_first : Lined → Option (List Lined) → Option (List Lined)
with_first first rows = option_map (λ (rs : List Lined). first ∷ rs) rows

pub first-takes : (first : Lined) (rows : Option (List Lined)) → Takes (with_first first rows) first rows
first-takes first None = tt
first-takes first (Some rows) = refl

pub from-under : (rules : Rules) (first : Lined) (rows : Option (List Lined)) (report : Report) (old new : Option (List ℕ))
    → Becomes (under rules (counted_names (length first.fields)) first.line (rules.skip + 1)) (with_first first rows) report old new → Becomes (from_first rules first) rows report old new
from-under rules first None report old new b = tt
from-under rules first (Some rows) report old new b = b

-- the records that aren't left out
pub none-kept : (rules : Rules) (rows : Option (List Lined)) (text : Option (List ℕ)) → IsOver (option_map (drop rules.skip) rows)
    → Becomes (prepared rules) rows (refused_first rules.skip None cause.NoHeader) text text
unfolding rows_text
none-kept rules None text over = tt
none-kept rules (Some rows) text over = rw over (refl, stays text)

pub kept-under : (rules : Rules) (first : Lined) (rows left : Option (List Lined)) (report : Report) (old new : Option (List ℕ))
    → Takes (option_map (drop rules.skip) rows) first left → rules.has_names ≡ true
    → Becomes (under rules first.fields first.line (rules.skip + 2)) left report old new → Becomes (prepared rules) rows report old new
kept-under rules first None left report old new t has b = tt
kept-under rules first (Some rows) None report old new t has b = absurd t
kept-under rules first (Some rows) (Some left) report old new t has b =
    rw (t, first-of rules.has_names (under rules first.fields first.line (rules.skip + 2) left) (from_first rules first left) has) b

pub kept-from : (rules : Rules) (first : Lined) (rows left : Option (List Lined)) (report : Report) (old new : Option (List ℕ))
    → Takes (option_map (drop rules.skip) rows) first left → rules.has_names ≡ false
    → Becomes (from_first rules first) left report old new → Becomes (prepared rules) rows report old new
kept-from rules first None left report old new t has b = tt
kept-from rules first (Some rows) None report old new t has b = absurd t
kept-from rules first (Some rows) (Some left) report old new t has b =
    rw (t, second-of rules.has_names (under rules first.fields first.line (rules.skip + 2) left) (from_first rules first left) has) b

-- what comes of a call comes of its caller
pub then-ok : (ideal whole : List Lined → Outcome) (rows all : Option (List Lined)) (mid old new : Option (List ℕ)) (r : Result Report Failure)
    → ((report : Report) → Becomes ideal rows report mid new → Becomes whole all report old new)
    → IfOk r (λ report. Becomes ideal rows report mid new) → IfOk r (λ report. Becomes whole all report old new)
then-ok ideal whole rows all mid old new (Ok report) f h = f report h
then-ok ideal whole rows all mid old new (Err e) f h = h

-- the records of a text come of the text
pub text_ok : (rules : Rules) (known : Option (List ℕ)) (rows : Option (List Lined)) (report : Report) (old mid new : Option (List ℕ))
    → Stays (option_map (text_records (marks_of rules)) known) rows → Becomes (prepared rules) rows report old mid → Keeps mid new
    → IsPrepared rules known report old new
text_ok rules None rows report old mid new s b k = tt
text_ok rules (Some text) None report old mid new s b k = absurd s
text_ok rules (Some text) (Some rows) report old mid new s b k = rw (sym s) (b.0, ends-so old mid new (rows_text (prepared rules rows).rows) b.1 k)
