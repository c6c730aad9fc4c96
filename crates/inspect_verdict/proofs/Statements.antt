-- The parts of statements: what may stand for each of them.
use Rattle.std.proofs.Common.{append_assoc, ◌≤◌, ◌-◌, length, take, drop, get_or, ◌≡◌, ◌∙◌, ◌+◌, ◌<◌, ◌^◌, ◌∷◌, [], ◌++◌, ℕ, true, false, List, refl, sym, ap, subst, arith}
use Rattle.std.specs.Prelude.{Option, Some, None, codes, decimal, is_some}
use Rattle.std.specs.List.{AllByRecursion, AllZip, flat_map}
use Rattle.std.proofs.lemmas.List.{take_all}
use Rattle.table_core.specs.declared.schema.Column.{Column}
use Rattle.table_core.specs.Answer.{kinds_of}
use Rattle.scan_story.specs.declared.cause.Cause.{Cause}
use Rattle.scan_story.specs.declared.cause.Cause.TheVariants as cause
use Rattle.story_text.specs.Reading.{lacks}
use Rattle.story_text.proofs.Digits.{decimal_digits}
use Rattle.query_gather.specs.Answer.{is_stopped}
use Rattle.query_gather.specs.declared.answer.Answer.{Answer}
use Rattle.query_gather.specs.declared.answer.Answer.TheVariants as answers
use Rattle.sql_bind.specs.declared.plan.Plan.{Plan}
use Rattle.run_output.specs.Answers.{answer_printed, overflow_of, printed, result_columns}
use Rattle.run_stops.specs.Outcomes.{plans_of}
use Rattle.run_output.specs.Printed.{text_in}
use Rattle.run_output.specs.Refusals.{refusal_head, refusal_line, statement_words, stop_words}
use Rattle.run_stops.specs.declared.outcome.Outcome.{Outcome}
use Rattle.run_stops.specs.declared.outcome.Outcome.TheVariants as outcome
use Rattle.inspect_verdict.specs.Parts.{IsLine, MayStand, PartWays, line_of, texts_of}
use Rattle.inspect_verdict.specs.declared.part.Part.{Part}
use Rattle.inspect_verdict.proofs.PartTexts.{cancelled}
use Rattle.inspect_verdict.specs.StatementParts.{ArePartsFor, ArePartsFrom, FitsCause, IsPlainOrStopped, parts_in, planned_part, words_for, words_of}

-- the words of a query that was stopped are one line
digits_clean : (n : ℕ) → n < 2 ^ 32 → lacks 10 (decimal n) ≡ true
digits_clean n low = (decimal_digits n (omega (arith, low))).unmarked 10 (omega arith)

stop_clean : (why : Cause) → FitsCause why → lacks 10 (stop_words why) ≡ true
stop_clean (cause.Read before after) fits = refl
stop_clean (cause.Damage piece word) fits = digits_clean piece fits
stop_clean cause.Memory fits = refl

abbrev first_byte : List ℕ → ℕ
first_byte [] = 0
first_byte (x ∷ xs) = x

-- nothing begins with what an answer prints and with the line of a query that was stopped
other_words : (why : Cause) (r s : List ℕ) → 115 ∷ r ≡ stop_words why ++ s → ⊥
other_words (cause.Read before after) r s e =
    let k : first_byte (115 ∷ r) ≡ first_byte (stop_words (cause.Read before after) ++ s) = ap first_byte e in
    let m : 115 ≡ 114 = k in
    absurd (omega (arith, m))
other_words (cause.Damage piece word) r s e =
    let k : first_byte (115 ∷ r) ≡ first_byte (stop_words (cause.Damage piece word) ++ s) = ap first_byte e in
    let m : 115 ≡ 100 = k in
    absurd (omega (arith, m))
other_words cause.Memory r s e =
    let k : first_byte (115 ∷ r) ≡ first_byte (stop_words cause.Memory ++ s) = ap first_byte e in
    let m : 115 ≡ 109 = k in
    absurd (omega (arith, m))

module _ (columns : List Column) (dicts : List (List (List ℕ))) (n : ℕ) (p : Plan) where
  apart : (a : Answer) (why : Cause) → is_stopped a ≡ false → PartWays (text_in (answer_printed columns dicts n p a)) (refusal_head n ++ (stop_words why ++ 10 ∷ []))
  apart (answers.Rows rows) why runs r s e =
      let k : first_byte (text_in (answer_printed columns dicts n p (answers.Rows rows)) ++ r) ≡ first_byte ((refusal_head n ++ (stop_words why ++ 10 ∷ [])) ++ s) = ap first_byte e in
      let m : 113 ≡ 114 = k in
      absurd (omega (arith, m))
  apart (answers.Picked rows) why runs r s e =
      let k : first_byte (text_in (answer_printed columns dicts n p (answers.Picked rows)) ++ r) ≡ first_byte ((refusal_head n ++ (stop_words why ++ 10 ∷ [])) ++ s) = ap first_byte e in
      let m : 113 ≡ 114 = k in
      absurd (omega (arith, m))
  apart (answers.Overflow item total) why runs r s e =
      let words = overflow_of (kinds_of columns (result_columns p)) item total in
      let left = append_assoc (refusal_head n) (words ++ codes "\n") r in
      let right = append_assoc (refusal_head n) (stop_words why ++ 10 ∷ []) s in
      let same = cancelled (refusal_head n) ((words ++ codes "\n") ++ r) ((stop_words why ++ 10 ∷ []) ++ s) (sym left ∙ (e ∙ right)) in
      other_words why _ (10 ∷ s) (same ∙ append_assoc (stop_words why) (10 ∷ []) s)
  apart (answers.Stopped w) why runs r s e = absurd cc

  module _ (a : Answer) (part : Part) (text : part.text ≡ text_in (answer_printed columns dicts n p a)) (head : part.head ≡ Some (refusal_head n)) where
    line : (why : Cause) → is_stopped a ≡ false → FitsCause why → IsLine part (stop_words why)
    line why runs fits = record {
      headed = ap is_some head;
      one = stop_clean why fits;
      apart = λ r s e. apart a why runs r s (ap (λ (t : List ℕ). t ++ r) (sym text) ∙ (e ∙ ap (λ (h : Option (List ℕ)). line_of h (stop_words why) ++ s) head));
    }

    module _ (more : List Outcome) (parts : List Part) (xs : List Answer) (rest : ArePartsFor columns dicts (n + 1) more parts xs) where
      answered : (x : Answer) → words_for x ≡ None → x ≡ a → ArePartsFor columns dicts n (outcome.Planned p ∷ more) (part ∷ parts) (x ∷ xs)
      answered x none same =
          let whole : part.text ++ texts_of parts (words_of more xs) ≡ text_in (answer_printed columns dicts n p x) ++ flat_map text_in (printed columns dicts (n + 1) more xs) =
          ap (λ (t : List ℕ). t ++ texts_of parts (words_of more xs)) (text ∙ ap (λ y. text_in (answer_printed columns dicts n p y)) (sym same))
          ∙ ap (λ (t : List ℕ). text_in (answer_printed columns dicts n p x) ++ t) rest.text in
          let May = λ (w : Option (List ℕ)). AllZip MayStand (part ∷ parts) (w ∷ words_of more xs) in
          let Text = λ (w : Option (List ℕ)). texts_of (part ∷ parts) (w ∷ words_of more xs) ≡ flat_map text_in (printed columns dicts n (outcome.Planned p ∷ more) (x ∷ xs)) in
          record { may = subst May (sym none) (tt, rest.may); text = subst Text (sym none) whole }

      stopped : (why : Cause) → is_stopped a ≡ false → FitsCause why → ArePartsFor columns dicts n (outcome.Planned p ∷ more) (part ∷ parts) (answers.Stopped why ∷ xs)
      stopped why runs fits = record {
        may = (line why runs fits, rest.may);
        text = ap (λ (h : Option (List ℕ)). line_of h (stop_words why) ++ texts_of parts (words_of more xs)) head
            ∙ ap (λ (t : List ℕ). (refusal_head n ++ (stop_words why ++ 10 ∷ [])) ++ t) rest.text;
      }

      one_of : (x : Answer) → IsPlainOrStopped a x → ArePartsFor columns dicts n (outcome.Planned p ∷ more) (part ∷ parts) (x ∷ xs)
      one_of (answers.Rows rows) is = answered (answers.Rows rows) refl is
      one_of (answers.Picked rows) is = answered (answers.Picked rows) refl is
      one_of (answers.Overflow item total) is = answered (answers.Overflow item total) refl is
      one_of (answers.Stopped why) is = stopped why is.0 is.1

    pub planned : (plain : List Answer) (more : List Outcome) (parts : List Part) → ArePartsFrom columns dicts (n + 1) more plain parts
        → ArePartsFrom columns dicts n (outcome.Planned p ∷ more) (a ∷ plain) (part ∷ parts)
    planned plain more parts rest [] zip = absurd zip
    planned plain more parts rest (x ∷ xs) zip = one_of more parts xs (rest xs zip.1) x zip.0

-- ---- one statement after another

pub first_of : {X : Type 0} (x : X) (xs : List X) → 1 ≤ length xs → x ≡ get_or xs 0 x → xs ≡ x ∷ take (length xs - 1) (drop 1 xs)
first_of x [] low e = absurd (omega (arith, low))
first_of x (y ∷ ys) low e = let t : take (length (y ∷ ys) - 1) ys ≡ ys = take_all (length (y ∷ ys) - 1) ys (omega arith) in cc

pub none_left : {X : Type 0} (xs : List X) → length xs < 1 → xs ≡ []
none_left [] low = refl
none_left (x ∷ xs) low = absurd (omega (arith, low))

pub plans_tail : (P : Plan → Type 0) (o : Outcome) (more : List Outcome) → AllByRecursion P (plans_of (o ∷ more)) → AllByRecursion P (plans_of more)
plans_tail P (outcome.Planned p) more all = all.1
plans_tail P (outcome.Refused why) more all = all

-- the parts of statements, with what may stand for them, are what the statements print
pub parts_print : (columns : List Column) (dicts : List (List (List ℕ))) (n : ℕ) (outcomes : List Outcome) (plain : List Answer) → ArePartsFrom columns dicts n outcomes plain (parts_in columns dicts n outcomes plain)
parts_print columns dicts n [] plain xs zip = record { may = tt; text = refl }
parts_print columns dicts n (outcome.Planned p ∷ outcomes) [] [] zip = record { may = tt; text = refl }
parts_print columns dicts n (outcome.Planned p ∷ outcomes) [] (x ∷ xs) zip = absurd zip
parts_print columns dicts n (outcome.Planned p ∷ outcomes) (a ∷ plain) xs zip =
    planned columns dicts n p a (planned_part columns dicts n p a) refl refl plain outcomes (parts_in columns dicts (n + 1) outcomes plain) (parts_print columns dicts (n + 1) outcomes plain) xs zip
parts_print columns dicts n (outcome.Refused why ∷ outcomes) plain xs zip =
    let rest = parts_print columns dicts (n + 1) outcomes plain xs zip in
    record { may = (tt, rest.may); text = ap (λ (t : List ℕ). refusal_line n (statement_words why) ++ t) rest.text }

pub no_parts : (columns : List Column) (dicts : List (List (List ℕ))) (n : ℕ) (outcomes : List Outcome) (plain : List Answer) → outcomes ≡ [] → parts_in columns dicts n outcomes plain ≡ []
no_parts columns dicts n outcomes plain none = ap (λ (os : List Outcome). parts_in columns dicts n os plain) none
