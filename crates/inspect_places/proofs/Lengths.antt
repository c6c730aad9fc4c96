-- How long a piece is, whatever it is.
use Rattle.std.proofs.Common.{◌≡◌, ◌≤◌, ℕ, List, length, take, Option, Some, None, subst, sym, arith}
use Rattle.std.specs.Prelude.{option_map}
use Rattle.std.proofs.lemmas.List.{take-take, length-take-le}
use Rattle.sql_tokens.specs.declared.piece.Piece.{Piece}
use Rattle.sql_tokens.specs.Pieces.{Longest}
use Rattle.inspect_places.specs.Prefixes.{IsLong}

pub long_if : (f : List ℕ → Option Piece) (bs : List ℕ) (p : Piece) (o : Option ℕ) → Longest f bs (option_map (λ n. (p, n)) o) → IsLong f bs o
long_if f bs p None h = h
long_if f bs p (Some n) h = (p, h)

pub long_of : (f : List ℕ → Option Piece) (bs : List ℕ) (r : Option (Piece × ℕ)) → Longest f bs r → IsLong f bs (option_map (λ x. x.1) r)
long_of f bs None h = h
long_of f bs (Some x) h = (x.0, h)

-- the longest piece of a text is that of a prefix that has it
pub shorter : (f : List ℕ → Option Piece) (bs : List ℕ) (k : ℕ) (p : Piece) (n : ℕ) → k ≤ length bs → n ≤ k → Longest f bs (Some (p, n)) → Longest f (take k bs) (Some (p, n))
shorter f bs k p n within fits h =
    let long = length-take-le k bs within in
    let P : List ℕ → Type 0 = λ w. f w ≡ Some p in
    (h.0, omega (arith, long, fits), subst P (sym (take-take n k bs fits)) h.2, λ m g l. (let P : List ℕ → Type 0 = λ w. f w ≡ None in let a : m ≤ k = omega (arith, long, l) in subst P (sym (take-take m k bs a)) (h.3 m g (omega (arith, a, within)))))

pub shorter_none : (f : List ℕ → Option Piece) (bs : List ℕ) (k : ℕ) → k ≤ length bs → Longest f bs None → Longest f (take k bs) None
shorter_none f bs k within h m g l =
    let long = length-take-le k bs within in
    let P : List ℕ → Type 0 = λ w. f w ≡ None in
    let a : m ≤ k = omega (arith, long, l) in
    subst P (sym (take-take m k bs a)) (h m g (omega (arith, a, within)))
