-- The statements of a batch: there is one list of them, they stand inside it, and they are not more than its bytes by two.
use Rattle.std.proofs.Common.{◌≡◌, ◌≤◌, ◌<◌, ◌+◌, ◌*◌, ℕ, suc, Bool, Some, None, subst, true, false, List, [], ◌∷◌, length, drop, refl, ap, arith, cond, length-append}
use Rattle.std.specs.Prelude.{All, ◌&&◌, ◌==◌}
use Rattle.std.proofs.lemmas.List.{length-drop}
use Rattle.std.proofs.lemmas.List.Elements.{All-nil, All-cons, All-append}
use Rattle.sql_tokens.specs.declared.span.Span.{Span}
use Rattle.sql_tokens.specs.declared.statements.Mark.{Mark}
use Rattle.sql_tokens.specs.declared.statements.Mark.TheVariants.{Inside, Gap, End}
use Rattle.sql_tokens.specs.declared.statements.Mode.{Mode}
use Rattle.sql_tokens.specs.declared.statements.Mode.TheVariants.{Plain}
use Rattle.sql_tokens.specs.Statements.{HasStatements, close, marks, mode_after, start_of, statements}
use Rattle.sql_tokens.proofs.Parts.{has_statements, one_split}
use Rattle.run_stops.specs.declared.stop.Stop.TheVariants as stop
use Rattle.run_inputs.specs.Order.{count_stop}
use Rattle.run_inputs.specs.Statements.{IsSpanIn, spans_in}
use Rattle.run_inputs.proofs.Texts.{is-past, not-past}

pub has-spans : (batch : List ℕ) → HasStatements batch (spans_in batch)
has-spans batch = has_statements batch (start_of batch) (spans_in batch) refl refl

pub only-spans : (batch : List ℕ) (spans : List Span) → HasStatements batch spans → spans ≡ spans_in batch
only-spans batch spans h = one_split batch spans (spans_in batch) h (has-spans batch)

length-marks : (mode : Mode) (bytes : List ℕ) → length (marks mode bytes) ≡ length bytes
length-marks mode [] = refl
length-marks mode (b ∷ bs) = ap suc (length-marks (mode_after mode b bs) bs)

close-in : (len from to : ℕ) (empty : Bool) → from ≤ to → to ≤ len → All (IsSpanIn len) (close from to empty)
close-in len from to true h k = All-nil (IsSpanIn len)
close-in len from to false h k = All-cons (IsSpanIn len) (record { from = from; to = to }) [] (record { rises = h; there = k }) (All-nil (IsSpanIn len))

statements-in : (len from at : ℕ) (empty : Bool) (ms : List Mark) → from ≤ at → at + length ms ≤ len → All (IsSpanIn len) (statements from at empty ms)
statements-in len from at empty [] h k = close-in len from at empty h (omega (arith, k))
statements-in len from at empty (End ∷ ms) h k =
    All-append (IsSpanIn len) (close from at empty) (statements (at + 1) (at + 1) true ms) (close-in len from at empty h (omega (arith, k)))
    (statements-in len (at + 1) (at + 1) true ms (omega arith) (omega (arith, k)))
statements-in len from at empty (Gap ∷ ms) h k = statements-in len from (at + 1) empty ms (omega (arith, h)) (omega (arith, k))
statements-in len from at empty (Inside ∷ ms) h k = statements-in len from (at + 1) false ms (omega (arith, h)) (omega (arith, k))

close-few : (from to : ℕ) (empty : Bool) → length (close from to empty) ≤ 1
close-few from to true = omega arith
close-few from to false = omega arith

statements-few : (from at : ℕ) (empty : Bool) (ms : List Mark) → length (statements from at empty ms) ≤ length ms + 1
statements-few from at empty [] = close-few from at empty
statements-few from at empty (End ∷ ms) =
    omega (arith, length-append (close from at empty) (statements (at + 1) (at + 1) true ms), close-few from at empty, statements-few (at + 1) (at + 1) true ms)
statements-few from at empty (Gap ∷ ms) = omega (arith, statements-few from (at + 1) empty ms)
statements-few from at empty (Inside ∷ ms) = omega (arith, statements-few from (at + 1) false ms)

mark-short : (b : Bool) (n : ℕ) → 3 ≤ n → cond b 3 0 ≤ n
mark-short true n h = h
mark-short false n h = omega arith

start-in : (bytes : List ℕ) → start_of bytes ≤ length bytes
start-in [] = omega arith
start-in (a ∷ []) = omega arith
start-in (a ∷ b ∷ []) = omega arith
start-in (a ∷ b ∷ c ∷ bs) = mark-short (a == 239 && (b == 187 && c == 191)) (suc (suc (suc (length bs)))) (omega arith)

-- how many marks there are behind the mark of UTF-8
marks-left : (batch : List ℕ) → start_of batch + length (marks Plain (drop (start_of batch) batch)) ≡ length batch
marks-left batch = omega (arith, length-marks Plain (drop (start_of batch) batch), length-drop (start_of batch) batch, start-in batch)

pub spans-there : (batch : List ℕ) → All (IsSpanIn (length batch)) (spans_in batch)
spans-there batch = statements-in (length batch) (start_of batch) (start_of batch) true (marks Plain (drop (start_of batch) batch)) (omega arith) (omega (arith, marks-left batch))

pub spans-few : (batch : List ℕ) → length (spans_in batch) ≤ length batch + 1
spans-few batch = omega (arith, statements-few (start_of batch) (start_of batch) true (marks Plain (drop (start_of batch) batch)), marks-left batch)

-- too many statements, or too many scans, or neither
pub too-many : (parts n m : ℕ) → m ≡ n → 256 < m → count_stop parts n ≡ Some (stop.Statements m)
too-many parts n m same h = subst (λ (k : ℕ). count_stop parts k ≡ Some (stop.Statements m)) same (rw (is-past 256 m (stop.Statements m) h) refl)

pub too-many-scans : (parts n m : ℕ) → m ≡ n → m ≤ 256 → 256 < parts * m → count_stop parts n ≡ Some (stop.Scans (parts * m))
too-many-scans parts n m same few h = subst (λ (k : ℕ). count_stop parts k ≡ Some (stop.Scans (parts * m))) same
    (rw (not-past 256 m (stop.Statements m) few, is-past 256 (parts * m) (stop.Scans (parts * m)) h) refl)

pub not-too-many : (parts n m : ℕ) → m ≡ n → m ≤ 256 → parts * m ≤ 256 → count_stop parts n ≡ None
not-too-many parts n m same few h = subst (λ (k : ℕ). count_stop parts k ≡ None) same
    (rw (not-past 256 m (stop.Statements m) few, not-past 256 (parts * m) (stop.Scans (parts * m)) h) refl)
