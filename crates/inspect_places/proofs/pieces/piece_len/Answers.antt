use Rattle.std.proofs.Common.{◌≡◌, ◌<◌, ℕ, take, get_or, Option, Some, sym, subst, refl, arith}
use Rattle.std.specs.Prelude.{◌==◌, false, option_map}
use Rattle.std.proofs.lemmas.Bool.Decides.{nat_tests}
use Rattle.sql_tokens.specs.Pieces.{kind_of_word, longest_other, piece_of}
use Rattle.sql_tokens.specs.declared.class.Class.TheVariants as class
use Rattle.sql_tokens.specs.declared.piece.Piece.TheVariants.{Blank, Lexeme}
use Rattle.sql_tokens.specs.declared.token.TokenKind.TheVariants as kind
use Rattle.sql_tokens.proofs.Pieces.{as_white, as_word, as_digit, as_text, as_quoted, as_other, letter_is_word, other_longest}
use Rattle.sql_tokens.proofs.Runs.{run_longest}
use Rattle.inspect_places.specs.Prefixes.{IsLong}
use Rattle.inspect_places.proofs.Lengths.{long_if, long_of}
use Rattle.inspect_places.proofs.pieces.piece_len.Goals as goal

some : (n : ℕ) → (n == 0) ≡ false → 0 < n
some n e = grind (arith, nat_tests)

pub returns-then-is_white : goal.returns-then-is_white
returns-then-is_white c =
    let bs = c.args.bytes.now in let h = some _ (sym (c.if-is_empty.ensures)) in let n = c.white_len.result in
    (Blank, as_white bs (Some (Blank, n)) h (sym (c.if-is_white.ensures)) (run_longest class.White (λ _. Blank) bs n Blank h (sym (c.if-is_white.ensures)) c.white_len.ensures.value refl))

pub returns-then-is_letter : goal.returns-then-is_letter
returns-then-is_letter c =
    let bs = c.args.bytes.now in let h = some _ (sym (c.if-is_empty.ensures)) in let n = c.word_len.result in
    let p = Lexeme (kind_of_word (take n bs)) in
    (p, as_word bs (Some (p, n)) h (sym (c.if-is_white.ensures)) (sym (c.if-is_letter.ensures)) (run_longest class.Word (λ w. Lexeme (kind_of_word w)) bs n p h (letter_is_word (get_or bs 0 0) (sym (c.if-is_letter.ensures))) c.word_len.ensures.value refl))

pub returns-then-is_digit : goal.returns-then-is_digit
returns-then-is_digit c =
    let bs = c.args.bytes.now in let h = some _ (sym (c.if-is_empty.ensures)) in let r = c.number_len.ensures in
    (r.0, as_digit bs (Some (r.0, c.number_len.result)) h (sym (c.if-is_white.ensures)) (sym (c.if-is_letter.ensures)) (sym (c.if-is_digit.ensures)) r.1)

pub returns-then-b-eq39 : goal.returns-then-b-eq39
returns-then-b-eq39 c =
    let bs = c.args.bytes.now in let h = some _ (sym (c.if-is_empty.ensures)) in let o = c.text_len.result in
    long_if piece_of bs (Lexeme kind.Text) o (as_text bs (option_map (λ n. (Lexeme kind.Text, n)) o) h c.if-b-eq39.true c.text_len.ensures)

pub returns-then-b-eq34 : goal.returns-then-b-eq34
returns-then-b-eq34 c =
    let bs = c.args.bytes.now in let h = some _ (sym (c.if-is_empty.ensures)) in let o = c.quoted_name_len.result in
    long_if piece_of bs (Lexeme kind.QuotedName) o (as_quoted bs (option_map (λ n. (Lexeme kind.QuotedName, n)) o) h c.if-b-eq34.true c.quoted_name_len.ensures)

pub returns-else-b-eq34 : goal.returns-else-b-eq34
returns-else-b-eq34 c =
    let bs = c.args.bytes.now in let h = some _ (sym (c.if-is_empty.ensures)) in let r = longest_other bs in
    let P : Option ℕ → Type 0 = λ o. IsLong piece_of bs o in
    subst P (sym c.other_len.ensures) (long_of piece_of bs r (as_other bs r h (sym (c.if-is_white.ensures)) (sym (c.if-is_letter.ensures)) (sym (c.if-is_digit.ensures)) c.if-b-eq39.false c.if-b-eq34.false (other_longest bs)))
