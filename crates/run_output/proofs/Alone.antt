-- Statements over a table of values have one output.
use Rattle.std.proofs.Common.{◌≡◌, ◌∙◌, ◌+◌, ℕ, List, [], ◌∷◌, refl, sym, ap, inl, inr}
use Rattle.std.specs.Prelude.{Option, Some, None}
use Rattle.table_core.specs.Value.{Value}
use Rattle.table_core.specs.declared.schema.Column.{Column}
use Rattle.sql_text.proofs.ReadTexts.{one_query}
use Rattle.sql_bind.proofs.Causes.{one_cause}
use Rattle.scan_story.specs.declared.entry.Entry.{Entry}
use Rattle.run_output.specs.Refusals.{refusal_line, statement_words}
use Rattle.scan_story.specs.declared.cause.Cause.{Cause}
use Rattle.run_output.specs.declared.totals.Totals.{Totals}
use Rattle.run_output.specs.Output.{IsOutput, PrintEach, Prints, query_printed}
use Rattle.run_output.specs.Printed.{Printed, output, refused, status}

module _ (columns : List Column) (table : List (List Value)) where
  -- a statement prints one thing
  prints_one : (n : ℕ) (text : List ℕ) (lost : Option Cause) (a b : Printed) → Prints columns table n text lost a → Prints columns table n text lost b → a ≡ b
  prints_one n text lost a b (inl x) (inl y) =
      let same : Some x.0 ≡ Some y.0 = one_cause text columns (Some x.0) (Some y.0) x.1 y.1 in
      let why : x.0 ≡ y.0 = cc in
      x.2 ∙ ap (λ w. refused (refusal_line n (statement_words w))) why ∙ sym y.2
  prints_one n text lost a b (inl x) (inr y) = (let no : Some x.0 ≡ None = one_cause text columns (Some x.0) None x.1 (y.0, y.1, y.2) in absurd (cc))
  prints_one n text lost a b (inr x) (inl y) = (let no : Some y.0 ≡ None = one_cause text columns (Some y.0) None y.1 (x.0, x.1, x.2) in absurd (cc))
  prints_one n text lost a b (inr x) (inr y) = x.3 ∙ ap (λ q. query_printed columns table n q lost) (one_query text x.0 y.0 x.1 y.1) ∙ sym y.3

  print_one : (n : ℕ) (texts : List (List ℕ)) (losses : List (Option Cause)) (ps qs : List Printed) → PrintEach columns table n texts losses ps → PrintEach columns table n texts losses qs → ps ≡ qs
  print_one n [] [] [] [] x y = refl
  print_one n [] [] [] (q ∷ qs) x y = absurd y
  print_one n [] [] (p ∷ ps) qs x y = absurd x
  print_one n [] (lost ∷ losses) ps qs x y = absurd x
  print_one n (text ∷ texts) [] ps qs x y = absurd x
  print_one n (text ∷ texts) (lost ∷ losses) [] qs x y = absurd x
  print_one n (text ∷ texts) (lost ∷ losses) (p ∷ ps) [] x y = absurd y
  print_one n (text ∷ texts) (lost ∷ losses) (p ∷ ps) (q ∷ qs) x y =
      ap (λ r. r ∷ ps) (prints_one n text lost p q x.0 y.0) ∙ ap (λ rs. q ∷ rs) (print_one (n + 1) texts losses ps qs x.1 y.1)

  pub output_alone : (texts : List (List ℕ)) (losses : List (Option Cause)) (summary : Option Totals) (trace : Option (List Entry)) (a b : ℕ) (out more : List ℕ) → IsOutput columns table texts losses summary trace a out
      → IsOutput columns table texts losses summary trace b more
      → (a ≡ b) × (out ≡ more)
  output_alone texts losses summary trace a b out more x y =
      let same = print_one 1 texts losses x.printed y.printed x.each y.each in
      (x.status ∙ ap status same ∙ sym y.status, x.bytes ∙ ap (λ ps. output ps summary trace) same ∙ sym y.bytes)
