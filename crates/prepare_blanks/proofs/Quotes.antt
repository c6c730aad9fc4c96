-- Words in quotes.
use Rattle.std.proofs.Common.{◌≡◌, ℕ, false, true, List, [], ◌∷◌, ◌++◌, refl, ap, inl, inr, arith}
use Rattle.std.proofs.lemmas.Bool.{cases_Bool}
use Rattle.std.proofs.lemmas.Bool.Decides.{nat_tests}
use Rattle.std.specs.Prelude.{◌==◌}
use Rattle.prepare_blanks.specs.Quotes.{AreKept, IsQuote, begins_with, doubled}
use Rattle.prepare_blanks.specs.Tabs.{tabbed_from}
use Rattle.prepare_blanks.specs.declared.place.Place.TheVariants as place

same : (n : ℕ) → (n == n) ≡ true
same n = grind (arith, nat_tests)

-- behind the closing quote
behind : (quote : ℕ) (rest : List ℕ) → begins_with quote rest ≡ false → tabbed_from quote place.AfterQuote rest ≡ tabbed_from quote place.Inside rest
behind quote [] e = refl
behind quote (b ∷ rest) e = rw e refl

in-quotes : (quote : ℕ) (word rest : List ℕ) → IsQuote quote → begins_with quote rest ≡ false
    → tabbed_from quote place.Quoted ((doubled quote word ++ (quote ∷ [])) ++ rest) ≡ (doubled quote word ++ (quote ∷ [])) ++ tabbed_from quote place.Inside rest
in-quotes quote [] rest is e = rw (same quote) (ap (λ (l : List ℕ). quote ∷ l) (behind quote rest e))
in-quotes quote (b ∷ word) rest is e = elim (cases_Bool (b == quote)) [
  | inl so ↦ rw (so, same quote) (rw (is.blank, is.line_end, same quote) (ap (λ (l : List ℕ). quote ∷ quote ∷ l) (in-quotes quote word rest is e)))
  | inr not ↦ rw not (rw not (ap (λ (l : List ℕ). b ∷ l) (in-quotes quote word rest is e)))
]

pub are-kept : AreKept
are-kept quote word rest is e =
    let h = ap (λ (l : List ℕ). quote ∷ l) (in-quotes quote word rest is e) in
    record {
      first = rw (is.blank, is.line_end, same quote) h;
      later = rw (is.blank, is.line_end, same quote) (ap (λ (l : List ℕ). 9 ∷ l) h);
    }
