-- The statements are the parts that aren't blank.
use Rattle.std.proofs.Common.{◌≡◌, ℕ, suc, ◌+◌, Bool, true, false, List, [], ◌∷◌, ◌++◌, length, drop, refl, sym, ap, ◌∙◌, arith}
use Rattle.std.specs.Prelude.{◌&&◌}
use Rattle.std.proofs.lemmas.List.{append-nil}
use Rattle.sql_tokens.specs.declared.span.Span.{Span}
use Rattle.sql_tokens.specs.declared.statements.Mark.{Mark}
use Rattle.sql_tokens.specs.declared.statements.Mark.TheVariants.{Inside, Gap, End}
use Rattle.sql_tokens.specs.declared.statements.Mode.TheVariants.{Plain}
use Rattle.sql_tokens.specs.Statements.{marks, close, statements, IsPart, AreParts, is_empty, joined, spans_of, start_of, HasStatements}

and_false : (e : Bool) → (e && false) ≡ false
and_false true = refl
and_false false = refl

and_true : (e : Bool) → (e && true) ≡ e
and_true true = refl
and_true false = refl

-- over one part
walk : (p : List Mark) → IsPart p → (from at : ℕ) (e : Bool) (tail : List Mark) → statements from at e (p ++ tail) ≡ statements from (at + length p) (e && is_empty p) tail
walk [] h from at e tail = let z : at ≡ at + 0 = omega arith in ap (λ n. statements from n e tail) z ∙ ap (λ b. statements from (at + 0) b tail) (sym (and_true e))
walk (End ∷ p) h from at e tail = absurd h
walk (Gap ∷ p) h from at e tail =
    let z : at + 1 + length p ≡ at + suc (length p) = omega arith in
    walk p h from (at + 1) e tail ∙ ap (λ n. statements from n (e && is_empty p) tail) z
walk (Inside ∷ p) h from at e tail =
    let z : at + 1 + length p ≡ at + suc (length p) = omega arith in
    walk p h from (at + 1) false tail ∙ ap (λ n. statements from n false tail) z ∙ ap (λ b. statements from (at + suc (length p)) b tail) (sym (and_false e))

by_parts : (first : List Mark) (more : List (List Mark)) → IsPart first → AreParts more → (at : ℕ) → statements at at true (joined first more) ≡ spans_of at first more
by_parts first [] h k at = ap (statements at at true) (sym (append-nil first)) ∙ walk first h at at true []
by_parts first (p ∷ ps) h k at =
    walk first h at at true (End ∷ joined p ps) ∙ ap (λ w. close at (at + length first) (is_empty first) ++ w) (by_parts p ps k.0 k.1 (at + length first + 1))

-- each list of marks is parts
pub record Cut (ms : List Mark) : Type 0 where
  pub first : List Mark
  pub more : List (List Mark)
  pub parts : IsPart first × AreParts more
  pub whole : joined first more ≡ ms

grown : (m : Mark) (ms : List Mark) → (IsPart (m ∷ [])) → (first : List Mark) (more : List (List Mark)) → IsPart first → AreParts more → joined first more ≡ ms → Cut (m ∷ ms)
grown End ms h first more p ps e = absurd h
grown Gap ms h first [] p ps e = record { first = Gap ∷ first; more = []; parts = (p, tt); whole = ap (λ w. Gap ∷ w) e }
grown Gap ms h first (q ∷ qs) p ps e = record { first = Gap ∷ first; more = q ∷ qs; parts = (p, ps); whole = ap (λ w. Gap ∷ w) e }
grown Inside ms h first [] p ps e = record { first = Inside ∷ first; more = []; parts = (p, tt); whole = ap (λ w. Inside ∷ w) e }
grown Inside ms h first (q ∷ qs) p ps e = record { first = Inside ∷ first; more = q ∷ qs; parts = (p, ps); whole = ap (λ w. Inside ∷ w) e }

cut : (ms : List Mark) → Cut ms
cut [] = record { first = []; more = []; parts = (tt, tt); whole = refl }
cut (End ∷ ms) = let c = cut ms in record { first = []; more = c.first ∷ c.more; parts = (tt, c.parts); whole = ap (λ w. End ∷ w) c.whole }
cut (Gap ∷ ms) = let c = cut ms in grown Gap ms tt c.first c.more c.parts.0 c.parts.1 c.whole
cut (Inside ∷ ms) = let c = cut ms in grown Inside ms tt c.first c.more c.parts.0 c.parts.1 c.whole

pub has_statements : (bytes : List ℕ) (start : ℕ) (spans : List Span) → start ≡ start_of bytes → spans ≡ statements start start true (marks Plain (drop start bytes)) → HasStatements bytes spans
has_statements bytes start spans k e =
    let c = cut (marks Plain (drop (start_of bytes) bytes)) in
    record { first = c.first; more = c.more; parts = c.parts; whole = c.whole; stand = sym (by_parts c.first c.more c.parts.0 c.parts.1 (start_of bytes)) ∙ ap (statements (start_of bytes) (start_of bytes) true) c.whole ∙ sym (e ∙ ap (λ n. statements n n true (marks Plain (drop n bytes))) k) }

stand_where : (bytes : List ℕ) (spans : List Span) → HasStatements bytes spans → statements (start_of bytes) (start_of bytes) true (marks Plain (drop (start_of bytes) bytes)) ≡ spans
stand_where bytes spans h = sym (ap (statements (start_of bytes) (start_of bytes) true) h.whole) ∙ by_parts h.first h.more h.parts.0 h.parts.1 (start_of bytes) ∙ h.stand

pub one_split : (bytes : List ℕ) (a b : List Span) → HasStatements bytes a → HasStatements bytes b → a ≡ b
one_split bytes a b h k = sym (stand_where bytes a h) ∙ stand_where bytes b k
