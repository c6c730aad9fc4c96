use Rattle.std.proofs.Common.{◌<◌, Some, sym, arith, subst, Option, ◌≡◌, ℕ, refl}
use Rattle.std.specs.Prelude.{◌==◌, false}
use Rattle.std.proofs.lemmas.Bool.Decides.{nat_tests}
use Rattle.sql_tokens.specs.Pieces.{Longest, other_of}
use Rattle.sql_tokens.specs.declared.class.Class.TheVariants as class
use Rattle.sql_tokens.specs.declared.piece.Piece.{Piece}
use Rattle.sql_tokens.specs.declared.piece.Piece.TheVariants.{Blank}
use Rattle.sql_tokens.proofs.Pieces.{as_white, as_word, as_digit, as_text, as_quoted, as_other, other_longest}
use Rattle.sql_tokens.proofs.Runs.{run_longest}
use Rattle.sql_tokens.proofs.piece.first_piece.Goals as goal

some : (n : ℕ) → (n == 0) ≡ false → 0 < n
some n e = grind (arith, nat_tests)

pub returns-then-is_in : goal.returns-then-is_in
returns-then-is_in c =
    let h = some _ (sym (c.if-is_empty.ensures)) in
    as_white c.args.bytes.now (Some (Blank, c.run_len.result)) h (sym (c.if-is_in.ensures)) (run_longest class.White (λ _. Blank) c.args.bytes.now _ Blank h (sym (c.if-is_in.ensures)) c.run_len.ensures.value refl)

pub returns-then-is_in-2 : goal.returns-then-is_in-2
returns-then-is_in-2 c =
    as_word c.args.bytes.now (Some c.word.result) (some _ (sym (c.if-is_empty.ensures))) (sym (c.if-is_in.ensures)) (sym (c.if-is_in-2.ensures)) c.word.ensures

pub returns-then-is_in-3 : goal.returns-then-is_in-3
returns-then-is_in-3 c =
    as_digit c.args.bytes.now (Some c.number.result) (some _ (sym (c.if-is_empty.ensures))) (sym (c.if-is_in.ensures)) (sym (c.if-is_in-2.ensures)) (sym (c.if-is_in-3.ensures)) c.number.ensures

pub returns-then-b-eq39 : goal.returns-then-b-eq39
returns-then-b-eq39 c =
    as_text c.args.bytes.now c.text.result (some _ (sym (c.if-is_empty.ensures))) c.if-b-eq39.true c.text.ensures

pub returns-then-b-eq34 : goal.returns-then-b-eq34
returns-then-b-eq34 c =
    as_quoted c.args.bytes.now c.quoted_name.result (some _ (sym (c.if-is_empty.ensures))) c.if-b-eq34.true c.quoted_name.ensures

pub returns-else-b-eq34 : goal.returns-else-b-eq34
returns-else-b-eq34 c =
    let P : Option (Piece × ℕ) → Type 0 = λ r. Longest other_of c.args.bytes.now r in
    as_other c.args.bytes.now c.other.result (some _ (sym (c.if-is_empty.ensures))) (sym (c.if-is_in.ensures)) (sym (c.if-is_in-2.ensures)) (sym (c.if-is_in-3.ensures)) c.if-b-eq39.false c.if-b-eq34.false (subst P (sym c.other.ensures) (other_longest c.args.bytes.now))
