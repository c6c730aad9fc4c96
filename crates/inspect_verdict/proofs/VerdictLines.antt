-- The summary is one line.
use Rattle.std.proofs.Common.{◌≡◌, ◌∙◌, ◌≤◌, ◌<◌, ◌+◌, ◌^◌, ◌==◌, ◌&&◌, ◌∷◌, [], ◌++◌, not, ℕ, Bool, true, false, List, length, append_assoc, length-append, refl, sym, ap, arith}
use Rattle.std.specs.Prelude.{codes, decimal}
use Rattle.std.specs.List.{count_by}
use Rattle.std.proofs.lemmas.List.{length-reverse}
use Rattle.std.proofs.lemmas.List.Sums.{count_by-le-length}
use Rattle.table_core.specs.declared.schema.Column.{Column}
use Rattle.scan_story.specs.declared.entry.Entry.{Entry}
use Rattle.scan_story.specs.declared.entry.Entry.TheVariants.{Register, Plan, Evict, Fill, Filled, Failed, Deliver, Release, Stop, End}
use Rattle.story_text.specs.Reading.{lacks}
use Rattle.scan_story.specs.Spent.{deliveries}
use Rattle.story_text.specs.Text.{entry_text, story_text}
use Rattle.scan_story.specs.Views.{History, past}
use Rattle.story_text.proofs.Digits.{decimal_digits}
use Rattle.query_gather.specs.declared.answer.Answer.{Answer}
use Rattle.run_output.specs.Answers.{printed}
use Rattle.run_output.specs.Counts.{number_and, summary_line}
use Rattle.run_output.specs.Printed.{Printed, is_answered, summary_of}
use Rattle.run_stops.specs.declared.outcome.Outcome.{Outcome}
use Rattle.run_stops.specs.declared.outcome.Outcome.TheVariants as outcome
use Rattle.run_ends.specs.Tasks.{totals_of}
use Rattle.inspect_verdict.specs.Reading.{IsSummaryLine, summary_head}

lacks_join : (xs ys : List ℕ) → lacks 10 xs ≡ true → lacks 10 ys ≡ true → lacks 10 (xs ++ ys) ≡ true
lacks_join [] ys e f = f
lacks_join (x ∷ xs) ys e f = at_byte (λ k. lacks_join xs ys k f) (x == 10) e
  where
    at_byte : (lacks 10 xs ≡ true → lacks 10 (xs ++ ys) ≡ true) → (t : Bool) → (not t && lacks 10 xs) ≡ true → (not t && lacks 10 (xs ++ ys)) ≡ true
    at_byte again true k = absurd cc
    at_byte again false k = again k

clean : (n : ℕ) → n < 2 ^ 64 → lacks 10 (decimal n) ≡ true
clean n low = (decimal_digits n low).unmarked 10 (omega arith)

counted : (n : ℕ) (text : List ℕ) → n < 2 ^ 64 → lacks 10 text ≡ true → lacks 10 (number_and n text) ≡ true
counted n text low e = lacks_join (decimal n) text (clean n low) e

-- the words of the summary behind its head, without the line end
abbrev words : ℕ → ℕ → ℕ → ℕ → List ℕ
words q a d r =
    number_and q (codes " queries, ") ++ (number_and a (codes " answered, ") ++ (number_and d (codes " deliveries, ") ++ number_and r (codes " rows")))

words_clean : (q a d r : ℕ) → q < 2 ^ 64 → a < 2 ^ 64 → d < 2 ^ 64 → r < 2 ^ 64 → lacks 10 (words q a d r) ≡ true
words_clean q a d r lq la ld lr =
    lacks_join (number_and q (codes " queries, ")) (number_and a (codes " answered, ") ++ (number_and d (codes " deliveries, ") ++ number_and r (codes " rows"))) (counted q (codes " queries, ") lq refl)
    (lacks_join (number_and a (codes " answered, ")) (number_and d (codes " deliveries, ") ++ number_and r (codes " rows")) (counted a (codes " answered, ") la refl)
    (lacks_join (number_and d (codes " deliveries, ")) (number_and r (codes " rows")) (counted d (codes " deliveries, ") ld refl) (counted r (codes " rows") lr refl)))

ended : (b c d e : List ℕ) → (b ++ (c ++ (d ++ e))) ++ 10 ∷ [] ≡ b ++ (c ++ (d ++ (e ++ 10 ∷ [])))
ended b c d e =
    append_assoc b (c ++ (d ++ e)) (10 ∷ [])
    ∙ (ap (λ (l : List ℕ). b ++ l) (append_assoc c (d ++ e) (10 ∷ [])) ∙ ap (λ (l : List ℕ). b ++ (c ++ l)) (append_assoc d e (10 ∷ [])))

line_is : (q a d r : ℕ) → summary_line q a d r ≡ summary_head ++ (words q a d r ++ 10 ∷ [])
line_is q a d r =
    let end : number_and r (codes " rows\n") ≡ number_and r (codes " rows") ++ 10 ∷ [] = sym (append_assoc (decimal r) (codes " rows") (10 ∷ [])) in
    let front = λ (l : List ℕ). codes "summary: " ++ (number_and q (codes " queries, ") ++ (number_and a (codes " answered, ") ++ (number_and d (codes " deliveries, ") ++ l))) in
    ap front end ∙ ap (λ (l : List ℕ). summary_head ++ l) (sym (ended (number_and q (codes " queries, ")) (number_and a (codes " answered, ")) (number_and d (codes " deliveries, ")) (number_and r (codes " rows"))))

-- ---- how great the counts are

delivered_few : (h : History) → deliveries h ≤ length h
delivered_few [] = omega arith
delivered_few (Deliver w q c ∷ h) = omega (arith, delivered_few h)
delivered_few (Register w q ∷ h) = omega (arith, delivered_few h)
delivered_few (Plan w q c ∷ h) = omega (arith, delivered_few h)
delivered_few (Evict w c ∷ h) = omega (arith, delivered_few h)
delivered_few (Fill w f p ∷ h) = omega (arith, delivered_few h)
delivered_few (Filled w f p ∷ h) = omega (arith, delivered_few h)
delivered_few (Failed w q p why ∷ h) = omega (arith, delivered_few h)
delivered_few (Release w q c ∷ h) = omega (arith, delivered_few h)
delivered_few (Stop w q ∷ h) = omega (arith, delivered_few h)
delivered_few (End w q ∷ h) = omega (arith, delivered_few h)

pub entries_few : (es : List Entry) → length es ≤ length (story_text es)
entries_few [] = omega arith
entries_few (e ∷ es) =
    let whole = length-append (entry_text e ++ 10 ∷ []) (story_text es) in
    let line = length-append (entry_text e) (10 ∷ []) in
    omega (arith, entries_few es, whole, line)

count_few : (ps : List Printed) → count_by is_answered ps ≤ length ps
count_few ps = count_by-le-length is_answered ps

printed_few : (columns : List Column) (dicts : List (List (List ℕ))) (n : ℕ) (os : List Outcome) (gs : List Answer) → length (printed columns dicts n os gs) ≤ length os
printed_few columns dicts n [] gs = omega arith
printed_few columns dicts n (outcome.Planned p ∷ os) [] = omega arith
printed_few columns dicts n (outcome.Planned p ∷ os) (a ∷ gs) = omega (arith, printed_few columns dicts (n + 1) os gs)
printed_few columns dicts n (outcome.Refused why ∷ os) gs = omega (arith, printed_few columns dicts (n + 1) os gs)

module _ (columns : List Column) (dicts : List (List (List ℕ))) (os : List Outcome) (gs : List Answer) (story : List Entry) (rows : ℕ) (few : length os ≤ 256) (short : length story ≤ 2 ^ 30) (low : rows ≤ 2 ^ 32) where
  ps : List Printed
  ps = printed columns dicts 1 os gs

  pub summary_is : (b : Bool) → IsSummaryLine b (summary_of (printed columns dicts 1 os gs) (totals_of b story rows))
  summary_is false = refl
  summary_is true =
      let q = length (printed columns dicts 1 os gs) in
      let a = count_by is_answered (printed columns dicts 1 os gs) in
      let d = deliveries (past story) in
      let lq : q < 2 ^ 64 = omega (arith, few, printed_few columns dicts 1 os gs) in
      let la : a < 2 ^ 64 = omega (arith, lq, count_few (printed columns dicts 1 os gs)) in
      let ld : d < 2 ^ 64 = omega (arith, short, delivered_few (past story), length-reverse story) in
      (words q a d rows, words_clean q a d rows lq la ld (omega (arith, low)), line_is q a d rows)
